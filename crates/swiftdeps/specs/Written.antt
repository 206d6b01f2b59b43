-- The one spelling that is written.
use Rattle.std.specs.Prelude.{◌≡◌, ◌↔◌, ◌⊎◌, ◌<◌, ℕ, ◌==◌, ◌&&◌, if◌then◌else◌, Bool, IsTrue, List, [], ◌∷◌, ◌++◌, length, map, Some, None}
use Rattle.std.specs.List.{flat_map, list_all, Contains, AllByRecursion}
use Rattle.bitstream.specs.declared.item.AbbrevOp.{AbbrevOp}
use Rattle.bitstream.specs.declared.item.AbbrevOp.TheVariants.{Literal, Blob}
use Rattle.bitstream.specs.Bits.{bits_of}
use Rattle.bitstream.specs.Entries.{record_bits, blob_bits}
use Rattle.bitstream.specs.Reading.{Seen, Enters, LeaveBlock, Record, Ends}
use Rattle.bitstream.specs.Writer.{Writing, nothing_written, entered, defined}
use Rattle.bitstream.specs.Writer as writer
use Rattle.dep_key.specs.declared.key.Key.{Key}
use Rattle.dep_key.specs.declared.graph.Node.{Node}
use Rattle.dep_key.specs.declared.graph.FileGraph.{FileGraph}
use Rattle.dep_key.specs.KeyShapes.{is_filled, has_shape}
use Rattle.dep_key.specs.GraphOrder.{AreInOrder}
use Rattle.swiftdeps.specs.declared.codes.TheConstants.{SIGNATURE, RECORD_BLOCK_ID, ID_WIDTH, IDENTIFIER_ABBREV, FINGERPRINT_ABBREV, METADATA, FINGERPRINT, IDENTIFIER}
use Rattle.swiftdeps.specs.Spelling.{AreAscendingTexts, identifier_item, file_items, paths_of}

-- ---- the identifiers in use

abbrev pub key_texts : Key → List (List ℕ)
key_texts key = key.context ∷ key.name ∷ []

abbrev pub node_texts : Node → List (List ℕ)
node_texts node = key_texts node.key ++ flat_map key_texts node.uses

abbrev pub file_texts : FileGraph → List (List ℕ)
file_texts file = file.path ∷ flat_map node_texts file.nodes

abbrev pub texts_in : List FileGraph → List (List ℕ)
texts_in files = flat_map file_texts files

-- Names to which the filled ones of the texts were added, and no others.
abbrev pub Adds : List (List ℕ) → List (List ℕ) → List (List ℕ) → Type 0
Adds texts old new = (text : List ℕ) → Contains new text ↔ (Contains old text ⊎ IsTrue (is_filled text) × Contains texts text)

-- The identifiers are the filled texts of the files, each once, strictly ascending.
pub record AreNamesOf (files : List FileGraph) (names : List (List ℕ)) : Type 0 where
  pub ascending : AreAscendingTexts names
  pub in_use : (text : List ℕ) → Contains names text → IsTrue (is_filled text) × Contains (texts_in files) text
  pub all : (text : List ℕ) → IsTrue (is_filled text) → Contains (texts_in files) text → Contains names text

-- ---- the bits

-- Each of the two records with a blob has its abbreviation.
abbrev pub abbreviation_of : ℕ → ℕ
abbreviation_of code = if code == IDENTIFIER then IDENTIFIER_ABBREV else FINGERPRINT_ABBREV

-- a record with a blob by its abbreviation, and any other without one
abbrev pub item_bits : ℕ → Seen → List Bool → List Bool
item_bits width (Enters block) before = before
item_bits width LeaveBlock before = before
item_bits width (Record code ops None) before = record_bits width code ops before
item_bits width (Record code ops (Some blob)) before = blob_bits width (abbreviation_of code) blob before
item_bits width Ends before = before

abbrev pub items_bits : ℕ → List Seen → List Bool → List Bool
items_bits width [] before = before
items_bits width (item ∷ items) before = items_bits width items (item_bits width item before)

abbrev pub with_items : List Seen → Writing → Writing
with_items items s = record s { bits = items_bits s.width items s.bits }

-- The block has two abbreviations, each of the code and a blob: of IDENTIFIER, and of FINGERPRINT.
abbrev pub identifier_ops : List AbbrevOp
identifier_ops = Literal IDENTIFIER ∷ Blob ∷ []

abbrev pub print_ops : List AbbrevOp
print_ops = Literal FINGERPRINT ∷ Blob ∷ []

abbrev pub begun_block : Writing
begun_block = defined print_ops (defined identifier_ops (entered RECORD_BLOCK_ID ID_WIDTH nothing_written))

-- METADATA, the identifiers, and the files
abbrev pub records : ℕ → List (List ℕ) → List FileGraph → List Seen
records version names files = Record METADATA (version ∷ []) None ∷ (map identifier_item names ++ flat_map (file_items names) files)

abbrev pub IsByte : ℕ → Type 0
IsByte byte = byte < 256

-- The bytes have the bits of the block, with all records, to its end.
pub record IsStream (version : ℕ) (files : List FileGraph) (stream : List ℕ) : Type 0 where
  pub bytes : AllByRecursion IsByte stream
  pub names : List (List ℕ)
  pub are_names : AreNamesOf files names
  pub ended : Writing
  pub block : writer.EndsBlock (with_items (records version names files) begun_block) ended
  pub bits : bits_of stream ≡ ended.bits

-- The bytes are the signature, and those of the block.
pub record IsWritten (version : ℕ) (files : List FileGraph) (bytes : List ℕ) : Type 0 where
  pub stream : List ℕ
  pub signed : bytes ≡ SIGNATURE ++ stream
  pub is_stream : IsStream version files stream

-- ---- inside the block

-- what is written here is inside the block, where its two abbreviations are known
pub record InBlock (s : Writing) : Type 0 where
  pub width : s.width ≡ ID_WIDTH
  pub abbrevs : s.abbrevs ≡ identifier_ops ∷ print_ops ∷ []
  pub first : s.first ≡ 0
  pub blocks : length s.blocks ≡ 1

-- the key and the uses of a node have their shape
abbrev pub is_shaped : Node → Bool
is_shaped node = has_shape node.key && list_all has_shape node.uses

-- What can be written: a filled path, keys with their shape, and nodes and uses that strictly ascend.
pub record IsWritable (file : FileGraph) : Type 0 where
  pub path : IsTrue (is_filled file.path)
  pub order : AreInOrder file.nodes
  pub shapes : IsTrue (list_all is_shaped file.nodes)

-- Files that can be written, with strictly ascending paths.
abbrev pub AreWritable : List FileGraph → Type 0
AreWritable files = AreAscendingTexts (paths_of files) × AllByRecursion IsWritable files
