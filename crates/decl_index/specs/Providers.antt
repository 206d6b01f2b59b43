-- The providers of a key: the declarations of all files that have it.
use Rattle.std.specs.Prelude.{◌≡◌, ℕ, ◌+◌, Bool, List, [], ◌∷◌, ◌++◌, map, filter, Option, Some, None}
use Rattle.std.specs.BTreeMap.{BTreeMap, get}
use Rattle.std.specs.Ordering.{eq_by_cmp}
use Rattle.std.specs.declared.vec.Vec.{Vec}
use Rattle.std.specs.declared.alloc.Global.{Global}
use Rattle.dep_key.specs.declared.key.Key.{Key}
use Rattle.dep_key.specs.KeyOrder.{key_order}
use Rattle.swift_ast.specs.declared.declarations.FileTree.{FileTree}
use Rattle.decl_index.specs.Declarations.{file_keys}
use Rattle.decl_index.specs.declared.index.DeclRef.{DeclRef}
use Rattle.decl_index.specs.declared.spots.Spot.{Spot}
use Rattle.decl_index.specs.Spots.{file_spots}

-- A key and the declaration that has it. (The keys of one declaration differ in kind.)
abbrev pub Entry : Type 0
Entry = Key × DeclRef

abbrev pub entries_at : DeclRef → List Key → List Entry
entries_at at keys = map (λ key. (key, at)) keys

abbrev pub reference : ℕ → ℕ → DeclRef
reference file place = record { file = file; place = place }

-- the entries of a file's declarations, which are numbered from a place on
abbrev pub entries_from : ℕ → ℕ → List (List Key) → List Entry
entries_from file place [] = []
entries_from file place (keys ∷ more) = entries_at (reference file place) keys ++ entries_from file (place + 1) more

-- the entries of files, which are numbered from a number on
abbrev pub entries_of : ℕ → List FileTree → List Entry
entries_of number [] = []
entries_of number (file ∷ files) = entries_from number 0 (file_keys file) ++ entries_of (number + 1) files

abbrev pub is_key : Key → Key → Bool
is_key = eq_by_cmp key_order

abbrev pub found : Key → List Entry → List DeclRef
found key entries = map (λ e. e.1) (filter (λ e. is_key key e.0) entries)

-- The declarations of all files that have a key, in order of file and place.
unfoldable pub providers : List FileTree → Key → List DeclRef
providers files key = found key (entries_of 0 files)

abbrev pub items_or_none : Option (Vec DeclRef Global) → List DeclRef
items_or_none None = []
items_or_none (Some v) = v.items

-- The map has the providers of each key.
pub record InStep (files : List FileTree) (map_of : BTreeMap Key (Vec DeclRef Global)) : Type 0 where
  pub at : (key : Key) → items_or_none (get key_order map_of key) ≡ providers files key

-- What an index keeps is in step with the files: the providers of each key, and of each file its declarations' keys and spots.
pub record IsIndexed (files : List FileTree) (keys : List (List (List Key))) (spots : List (List Spot)) (map_of : BTreeMap Key (Vec DeclRef Global)) : Type 0 where
  pub providers : InStep files map_of
  pub keys_are : keys ≡ map file_keys files
  pub spots_are : spots ≡ map file_spots files
