-- Words: texts without the bytes that part the words of a print.
use Rattle.std.specs.Prelude.{◌≡◌, ℕ, Bool, true, not, ◌&&◌, ◌==◌, List, [], ◌∷◌, flat_map}
use Rattle.std.specs.List.{list_all, list_any, AllByRecursion}
use Rattle.queries.specs.Queries.{Among}
use Rattle.dep_key.specs.declared.key.Key.{Key}
use Rattle.swift_ast.specs.declared.declarations.FileTree.{FileTree}
use Rattle.decl_index.specs.Declarations.{Item, Declaration, declarations_in, GlobalItem, FuncItem, AliasItem, StructItem, StoredItem, ComputedItem, ExtensionItem}
use Rattle.type_rules.specs.Shown.{before_path}
use Rattle.type_rules.specs.declared.ty.Ty.{Ty}
use Rattle.type_rules.specs.declared.ty.Ty.TheVariants as ty
use Rattle.type_rules.specs.declared.meaning.Meaning.{Meaning}
use Rattle.type_rules.specs.declared.meaning.Meaning.TheVariants as means
use Rattle.type_infer.specs.Readings.{label_of, params_in, stored_in}

abbrev pub line_feed : ℕ
line_feed = 10

abbrev pub blank : ℕ
blank = 32

abbrev pub opening : ℕ
opening = 40

abbrev pub closing : ℕ
closing = 41

abbrev pub comma : ℕ
comma = 44

abbrev pub colon : ℕ
colon = 58

abbrev pub equals : ℕ
equals = 61

abbrev pub bar : ℕ
bar = 124

abbrev pub full_stop : ℕ
full_stop = 46

-- the byte before the path in the key name of what a file keeps to itself
abbrev pub at_sign : ℕ
at_sign = 64

abbrev pub separators : List ℕ
separators = line_feed ∷ blank ∷ opening ∷ closing ∷ comma ∷ colon ∷ equals ∷ bar ∷ []

abbrev pub is_separator : ℕ → Bool
is_separator byte = list_any (λ s. s == byte) separators

-- A word has no separator: each name, each path and each key name is one.
abbrev pub is_word : List ℕ → Bool
is_word text = list_all (λ byte. not (is_separator byte)) text

-- The context of a struct is a word, and has no full stop before its path, so that no built-in type is shown like it.
abbrev pub is_context : List ℕ → Bool
is_context text = is_word text && list_all (λ byte. not (byte == full_stop)) (before_path text)

abbrev pub IsPlainType : Ty → Type 0
IsPlainType (ty.Struct context) = is_context context ≡ true
IsPlainType ty.Int = Unit {0}
IsPlainType ty.String = Unit {0}
IsPlainType ty.Bool = Unit {0}
IsPlainType ty.Void = Unit {0}

-- A meaning whose names are words and whose types are plain.
abbrev pub IsPlain : Meaning → Type 0
IsPlain (means.Value mutable of) = IsPlainType of
IsPlain (means.Function params result) = AllByRecursion (λ p. (is_word p.label ≡ true) × IsPlainType p.ty) params × IsPlainType result
IsPlain (means.Struct context) = is_context context ≡ true
IsPlain (means.Alias of) = IsPlainType of
IsPlain (means.Fields fields words) = AllByRecursion (λ f. (is_word f.name ≡ true) × IsPlainType f.ty) fields
IsPlain means.NoProvider = Unit {0}
IsPlain means.Ambiguous = Unit {0}
IsPlain means.Broken = Unit {0}
IsPlain means.Circular = Unit {0}

-- both parts of a key are contexts, where they are filled
abbrev pub IsPlainKey : Key → Type 0
IsPlainKey key = (is_context key.context ≡ true) × (is_context key.name ≡ true)

-- the labels of a function and the stored properties of a struct are words
abbrev pub IsPlainItem : List ℕ → Item → Type 0
IsPlainItem path (FuncItem d) = AllByRecursion (λ p. is_word (label_of p) ≡ true) (params_in d.params)
IsPlainItem path (StructItem d) = AllByRecursion (λ s. is_word s.name ≡ true) (stored_in path d.members)
IsPlainItem path (GlobalItem d) = Unit {0}
IsPlainItem path (StoredItem d) = Unit {0}
IsPlainItem path (ComputedItem d) = Unit {0}
IsPlainItem path (AliasItem d) = Unit {0}
IsPlainItem path (ExtensionItem d) = Unit {0}

pub record IsPlainDeclaration (d : Declaration) : Type 0 where
  pub name : is_word d.name ≡ true
  pub keys : (key : Key) → Among d.keys key → IsPlainKey key
  pub item : IsPlainItem d.path d.item

-- All names and paths of a module are words, and no name has a full stop or `@`.
pub record HasPlainNames (files : List FileTree) : Type 0 where
  pub each : (d : Declaration) → Among (flat_map declarations_in files) d → IsPlainDeclaration d

-- A name as it is written: a word with no full stop and no `@`.
abbrev pub is_name : List ℕ → Bool
is_name text = is_word text && list_all (λ byte. not (byte == full_stop) && not (byte == at_sign)) text

abbrev pub AreLabels : Item → Type 0
AreLabels (FuncItem d) = AllByRecursion (λ p. is_word (label_of p) ≡ true) (params_in d.params)
AreLabels (StructItem d) = Unit {0}
AreLabels (GlobalItem d) = Unit {0}
AreLabels (StoredItem d) = Unit {0}
AreLabels (ComputedItem d) = Unit {0}
AreLabels (AliasItem d) = Unit {0}
AreLabels (ExtensionItem d) = Unit {0}

-- What is written is a name, with labels that are words.
pub record IsWritten (d : Declaration) : Type 0 where
  pub name : is_name d.name ≡ true
  pub labels : AreLabels d.item

-- The paths of a module's files are words, and its declarations are written with names: as the grammar and the listing of
-- sources have it.
pub record IsWrittenModule (files : List FileTree) : Type 0 where
  pub paths : (f : FileTree) → Among files f → is_word f.path ≡ true
  pub written : (f : FileTree) → Among files f → (d : Declaration) → Among (declarations_in f) d → IsWritten d
