-- Which items spell a list of file graphs.
use Rattle.std.specs.Prelude.{◌≡◌, ℕ, suc, ◌≤◌, IsTrue, if◌then◌else◌, List, [], ◌∷◌, ◌++◌, length, map, Some, None, nat_eq, IsUtf8}
use Rattle.std.specs.List.{flat_map, AllByRecursion}
use Rattle.std.specs.List.Sorted.{IsStrictlySortedBy}
use Rattle.std.specs.Ordering.{nat_cmp}
use Rattle.std.specs.Cmp.Lexicographic.{slice_cmp, pointwise}
use Rattle.bitstream.specs.Reading.{Seen, Enters, LeaveBlock, Record}
use Rattle.bitstream.specs.Items.{items_in}
use Rattle.dep_key.specs.declared.key.Key.{Key}
use Rattle.dep_key.specs.declared.graph.Node.{Node}
use Rattle.dep_key.specs.declared.graph.FileGraph.{FileGraph}
use Rattle.dep_key.specs.KeyOrder.{kind_number, aspect_number}
use Rattle.dep_key.specs.KeyShapes.{has_shape, is_filled}
use Rattle.dep_key.specs.GraphOrder.{AreInOrder}
use Rattle.swiftdeps.specs.declared.codes.TheConstants.{SIGNATURE, RECORD_BLOCK_ID, METADATA, NODE, FINGERPRINT, USE, IDENTIFIER, FILE}

-- where a text stands among the identifiers, and how many there are where it isn't one of them
abbrev pub place_of : List (List ℕ) → List ℕ → ℕ
place_of [] text = 0
place_of (name ∷ names) text = if pointwise nat_eq name text then 0 else suc (place_of names text)

-- The number of a text: 0 for the empty one, and else its place among the identifiers, from 1.
abbrev pub number_of : List (List ℕ) → List ℕ → ℕ
number_of names [] = 0
number_of names (b ∷ bs) = suc (place_of names (b ∷ bs))

abbrev pub key_numbers : List (List ℕ) → Key → List ℕ
key_numbers names key = kind_number key.kind ∷ aspect_number key.aspect ∷ number_of names key.context ∷ number_of names key.name ∷ []

-- A use is the record of its key.
abbrev pub use_item : List (List ℕ) → Key → Seen
use_item names key = Record USE (key_numbers names key) None

abbrev pub print_item : List ℕ → Seen
print_item print = Record FINGERPRINT [] (Some print)

-- A node is a NODE, its FINGERPRINT and its USEs.
abbrev pub node_items : List (List ℕ) → Node → List Seen
node_items names node = Record NODE (key_numbers names node.key) None ∷ print_item node.print ∷ map (use_item names) node.uses

-- A file is a FILE and its nodes.
abbrev pub file_items : List (List ℕ) → FileGraph → List Seen
file_items names file = Record FILE (number_of names file.path ∷ []) None ∷ flat_map (node_items names) file.nodes

abbrev pub identifier_item : List ℕ → Seen
identifier_item text = Record IDENTIFIER [] (Some text)

-- The block has METADATA, the identifiers and the files.
abbrev pub spelling : ℕ → List (List ℕ) → List FileGraph → List Seen
spelling version names files =
    (Enters RECORD_BLOCK_ID ∷ Record METADATA (version ∷ []) None ∷ map identifier_item names) ++ (flat_map (file_items names) files ++ LeaveBlock ∷ [])

-- texts, each below those after it
abbrev pub AreAscendingTexts : List (List ℕ) → Type 0
AreAscendingTexts texts = IsStrictlySortedBy (slice_cmp nat_cmp) texts

-- The identifiers are filled, UTF-8 and strictly ascending.
abbrev pub IsIdentifier : List ℕ → Type 0
IsIdentifier text = IsTrue (is_filled text) × IsUtf8 text

abbrev pub AreIdentifiers : List (List ℕ) → Type 0
AreIdentifiers names = AreAscendingTexts names × AllByRecursion IsIdentifier names

-- a text that has a number: the empty one, and each identifier
abbrev pub HasNumber : List (List ℕ) → List ℕ → Type 0
HasNumber names text = number_of names text ≤ length names

-- A key has its shape, and its context and its name have numbers.
pub record IsSpelledKey (names : List (List ℕ)) (key : Key) : Type 0 where
  pub shape : IsTrue (has_shape key)
  pub context : HasNumber names key.context
  pub name : HasNumber names key.name

pub record IsSpelledNode (names : List (List ℕ)) (node : Node) : Type 0 where
  pub key : IsSpelledKey names node.key
  pub uses : AllByRecursion (IsSpelledKey names) node.uses

-- A file has a filled path, and its nodes and their uses strictly ascend.
pub record IsSpelledFile (names : List (List ℕ)) (file : FileGraph) : Type 0 where
  pub filled : IsTrue (is_filled file.path)
  pub path : HasNumber names file.path
  pub order : AreInOrder file.nodes
  pub nodes : AllByRecursion (IsSpelledNode names) file.nodes

abbrev pub paths_of : List FileGraph → List (List ℕ)
paths_of files = map (λ file. file.path) files

-- The paths strictly ascend.
abbrev pub AreSpelledFiles : List (List ℕ) → List FileGraph → Type 0
AreSpelledFiles names files = AreAscendingTexts (paths_of files) × AllByRecursion (IsSpelledFile names) files

-- Items spell a version and file graphs by some identifiers.
pub record Spell (version : ℕ) (files : List FileGraph) (items : List Seen) : Type 0 where
  pub names : List (List ℕ)
  pub are_identifiers : AreIdentifiers names
  pub are_files : AreSpelledFiles names files
  pub spelled : items ≡ spelling version names files

abbrev pub seen_items : List (ℕ × Seen) → List Seen
seen_items items = map (λ item. item.1) items

-- Bytes spell a version and file graphs: they are the signature and a bitstream whose items do.
pub record BytesSpell (version : ℕ) (files : List FileGraph) (bytes : List ℕ) : Type 0 where
  pub stream : List ℕ
  pub signed : bytes ≡ SIGNATURE ++ stream
  pub whole : (items_in stream).1 ≡ None
  pub items : Spell version files (seen_items (items_in stream).0)
