-- Coverage: what is read of a file comes to the same where nothing that the file uses has changed.
use Rattle.std.specs.Prelude.{◌≡◌, ℕ, Bool, true, false, not, ◌&&◌, List, filter, ◌⊎◌}
use Rattle.std.specs.List.{list_all}
use Rattle.queries.specs.Queries.{Among, value_with}
use Rattle.dep_key.specs.declared.key.Key.{Key}
use Rattle.swift_ast.specs.declared.declarations.FileTree.{FileTree}
use Rattle.decl_index.specs.Declarations.{Declaration, declarations_in}
use Rattle.type_infer.specs.Readings.{Query}
use Rattle.type_infer.specs.Meanings.{having, meaning_in, asked_in}
use Rattle.type_infer.specs.Plain.{HasPlainNames}
use Rattle.type_infer.specs.Sound.{AsksKeys, is_asked_kind}
use Rattle.iface_print.specs.Prints.{print_in}
use Rattle.iface_print.specs.Nodes.{node_query}

-- a key has the same print in each of the files that may have changed
pub record IsUnmoved (changed : List ℕ → Bool) (p s : List FileTree) (key : Key) : Type 0 where
  pub at : (path : List ℕ) → changed path ≡ true → print_in p path key ≡ print_in s path key

-- A use of a node of a definition of a file.
pub record IsDefinitionUse (files : List FileTree) (f : FileTree) (use_of : Key) : Type 0 where
  pub declaration : Declaration
  pub declared : Among (declarations_in f) declaration
  pub key : Key
  pub has : Among declaration.keys key
  pub uses : Among (asked_in files (node_query key declaration)) use_of

-- A use of a file: of one of its definitions, or of its implementation, whose uses are some list of keys.
abbrev pub IsUse : (FileTree → List Key) → List FileTree → FileTree → Key → Type 0
IsUse implementation files f key = IsDefinitionUse files f key ⊎ Among (implementation f) key

-- The files that may have changed have among them each file that isn't the same in both projects, and each that
-- uses a key whose print one of them changed.
pub record CoversChanges (implementation : FileTree → List Key) (changed : List ℕ → Bool) (p s : List FileTree) : Type 0 where
  pub same : filter (λ f. not (changed f.path)) p ≡ filter (λ f. not (changed f.path)) s
  pub traced : (f : FileTree) → Among p f → changed f.path ≡ false → (key : Key) → IsUse implementation p f key → IsUnmoved changed p s key

-- no declaration of the key is in a file that may have changed
abbrev pub is_kept : (List ℕ → Bool) → List FileTree → List FileTree → Key → Bool
is_kept changed p s key =
    list_all (λ d. not (changed d.path)) (having p key) && list_all (λ d. not (changed d.path)) (having s key)

-- A kept key means the same in both.
abbrev pub KeptKeysMeanTheSame : (List ℕ → Bool) → List FileTree → List FileTree → Type 0
KeptKeysMeanTheSame changed p s = (key : Key) → is_kept changed p s key ≡ true → meaning_in p key ≡ meaning_in s key

-- A key of a kind that look-ups ask, which a file that hasn't changed uses, means the same in both.
abbrev pub UsedKeysMeanTheSame : (FileTree → List Key) → (List ℕ → Bool) → List FileTree → List FileTree → Type 0
UsedKeysMeanTheSame implementation changed p s = (f : FileTree) → Among p f → changed f.path ≡ false → (key : Key) → is_asked_kind key.kind ≡ true → IsUse implementation p f key → meaning_in p key ≡ meaning_in s key

-- A query that asks only uses of a file that hasn't changed has the same value in both, and asks the same keys.
abbrev pub QueriesAgree : (X : Type 0) → (FileTree → List Key) → (List ℕ → Bool) → List FileTree → List FileTree → Type 0
QueriesAgree X implementation changed p s = (query : Query X) (f : FileTree) → Among p f → changed f.path ≡ false → AsksKeys query →
    ((key : Key) → Among (asked_in p query) key → IsUse implementation p f key) →
    (value_with (meaning_in p) query ≡ value_with (meaning_in s) query) × (asked_in p query ≡ asked_in s query)

-- Each definition of a file that hasn't changed has the same print and the same uses in both.
abbrev pub NodesAgree : (List ℕ → Bool) → List FileTree → List FileTree → Type 0
NodesAgree changed p s = (f : FileTree) → Among p f → changed f.path ≡ false → (d : Declaration) → Among (declarations_in f) d → (key : Key) → Among d.keys key →
    (value_with (meaning_in p) (node_query key d) ≡ value_with (meaning_in s) (node_query key d)) × (asked_in p (node_query key d) ≡ asked_in s (node_query key d))

-- Coverage, over two modules with plain names.
abbrev pub Covers : ((FileTree → List Key) → (List ℕ → Bool) → List FileTree → List FileTree → Type 0) → Type 0
Covers Agree = (implementation : FileTree → List Key) (changed : List ℕ → Bool) (p s : List FileTree) → HasPlainNames p → HasPlainNames s → CoversChanges implementation changed p s → Agree implementation changed p s

-- In a file that hasn't changed each key has the same print in both.
abbrev pub PrintsAgree : (List ℕ → Bool) → List FileTree → List FileTree → Type 0
PrintsAgree changed p s = (path : List ℕ) → changed path ≡ false → (key : Key) → print_in p path key ≡ print_in s path key
