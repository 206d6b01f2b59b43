-- What each item adds to what was read before it, or its fault.
use Rattle.std.specs.Prelude.{◌≡◌, ℕ, ◌-◌, ◌==◌, Bool, true, false, ◌&&◌, if◌then◌else◌, List, [], ◌∷◌, ◌++◌, length, Option, Some, None, is_none, slice_get, slice_index, nat_eq, Result, Ok, Err}
use Rattle.std.specs.Ordering.{is_lt, nat_cmp}
use Rattle.std.specs.Cmp.Lexicographic.{slice_cmp, pointwise}
use Rattle.std.specs.Str.{is_utf8}
use Rattle.std.specs.Borrow.{Bor}
use Rattle.std.specs.Global.{Vec}
use Rattle.bitstream.specs.Reading.{Seen, Enters, LeaveBlock, Record, Ends}
use Rattle.bitstream.specs.declared.item.BitFault.{BitFault}
use Rattle.dep_key.specs.declared.key.Key.{Key}
use Rattle.dep_key.specs.declared.graph.Node.{Node}
use Rattle.dep_key.specs.declared.graph.FileGraph.{FileGraph}
use Rattle.dep_key.specs.KeyOrder.{kind_at, aspect_at, key_order}
use Rattle.dep_key.specs.KeyShapes.{has_shape, is_filled}
use Rattle.swiftdeps.specs.declared.codes.TheConstants.{RECORD_BLOCK_ID, METADATA, NODE, FINGERPRINT, USE, IDENTIFIER, FILE}
use Rattle.swiftdeps.specs.declared.fault.DepsFault.{DepsFault}
use Rattle.swiftdeps.specs.declared.fault.DepsFault.TheVariants as faults
use Rattle.swiftdeps.specs.declared.fault.Stop.{Stop}
use Rattle.swiftdeps.specs.declared.fault.Stop.TheVariants as stops
use Rattle.swiftdeps.specs.declared.stage.Stage.{Stage}
use Rattle.swiftdeps.specs.declared.stage.Stage.TheVariants.{Start, Version, Names, Nodes, Print, Uses, Behind}
use Rattle.swiftdeps.specs.Stages.{takes_block, takes_version, takes_identifier, takes_node, takes_print, takes_use, is_behind, takes_file, may_end, is_version}

-- What was read so far: the version, the identifiers, the files before the last one, the path of the last one, its nodes
-- before the last one, and the key, the fingerprint and the uses of the last one.
pub record State : Type 0 where
  pub stage : Stage
  pub version : ℕ
  pub names : List (List ℕ)
  pub files : List FileGraph
  pub path : Option (List ℕ)
  pub nodes : List Node
  pub key : Option Key
  pub print : List ℕ
  pub uses : List Key

abbrev pub nothing_read : State
nothing_read = record { stage = Start; version = 0; names = []; files = []; path = None; nodes = []; key = None; print = []; uses = [] }

infixl 10 ◌>>=◌
abbrev pub ◌>>=◌ : {A B : Type 0} → Result A DepsFault → (A → Result B DepsFault) → Result B DepsFault
(Ok x) >>= f = f x
(Err e) >>= f = Err e

-- What a call returned is what judging gives, or memory was wanted.
abbrev pub Fails : {Y : Type 0} → Stop → Result Y DepsFault → Type 0
Fails stops.Memory read = Unit {0}
Fails (stops.Fault f) read = read ≡ Err f

abbrev pub Gives : {X : Type 0} → Result X Stop → Result X DepsFault → Type 0
Gives (Ok x) read = read ≡ Ok x
Gives (Err e) read = Fails e read

-- The same of a call that leaves its answer elsewhere.
abbrev pub Moves : {X : Type 0} → X → Result (Unit {0}) Stop → Result X DepsFault → Type 0
Moves new (Ok u) read = read ≡ Ok new
Moves new (Err e) read = Fails e read

abbrev pub or_fault : {A : Type 0} → DepsFault → Option A → Result A DepsFault
or_fault e (Some x) = Ok x
or_fault e None = Err e

-- The text of a number: 0 is the empty one, and the identifiers count from 1.
abbrev pub text_at : List (List ℕ) → ℕ → Option (List ℕ)
text_at names n = if n == 0 then Some [] else slice_get names (n - 1)

unfoldable pub text_of : List (List ℕ) → ℕ → ℕ → Result (List ℕ) DepsFault
text_of names at n = or_fault (faults.IdentifierNumber at n) (text_at names n)

-- The key of a kind, an aspect, and the numbers of its context and its name.
unfoldable pub key_of : List (List ℕ) → ℕ → ℕ → ℕ → ℕ → ℕ → Result Key DepsFault
key_of names at k a c n = do
  kind ← or_fault (faults.KindNumber at k) (kind_at k)
  aspect ← or_fault (faults.KindNumber at a) (aspect_at a)
  context ← text_of names at c
  name ← text_of names at n
  if has_shape (record { kind = kind; aspect = aspect; context = context; name = name }) then Ok (record { kind = kind; aspect = aspect; context = context; name = name }) else Err (faults.KeyShape at)

-- The key of the operands of a NODE or a USE, which has no blob.
unfoldable pub key_in : List (List ℕ) → ℕ → List ℕ → Option (List ℕ) → Result Key DepsFault
key_in names at ops blob =
    if is_none blob && length ops == 4 then key_of names at (slice_index ops 0) (slice_index ops 1) (slice_index ops 2) (slice_index ops 3)
    else Err (faults.RecordOrder at)

-- a slice that was given, as its bytes
abbrev pub seen_blob : Result (Bor (List ℕ)) Stop → Result (List ℕ) Stop
seen_blob (Ok blob) = Ok blob.now
seen_blob (Err e) = Err e

-- the version and the files that were given, without where they lie
abbrev pub seen_files : Result (ℕ × Vec FileGraph) Stop → Result (ℕ × List FileGraph) Stop
seen_files (Ok x) = Ok (x.0, x.1.items)
seen_files (Err e) = Err e

-- whether a text, or a key, is above the one before it, where there is one
abbrev pub is_above_text : Option (List ℕ) → List ℕ → Bool
is_above_text None text = true
is_above_text (Some before) text = is_lt (slice_cmp nat_cmp before text)

abbrev pub is_above_key : Option Key → Key → Bool
is_above_key None key = true
is_above_key (Some before) key = is_lt (key_order before key)

abbrev pub last : {A : Type 0} → List A → Option A
last xs = slice_get xs (length xs - 1)

-- the nodes of the last file, and the files, each with the last one
abbrev pub last_node : Option Key → List ℕ → List Key → List Node
last_node None print uses = []
last_node (Some key) print uses = record { key = key; print = print; uses = uses } ∷ []

abbrev pub nodes_of : State → List Node
nodes_of s = s.nodes ++ last_node s.key s.print s.uses

abbrev pub last_file : Option (List ℕ) → List Node → List FileGraph
last_file None nodes = []
last_file (Some path) nodes = record { path = path; nodes = nodes } ∷ []

abbrev pub files_of : State → List FileGraph
files_of s = s.files ++ last_file s.path (nodes_of s)

-- the last node stands behind the others, and the last file behind the others
abbrev pub closed_node : State → State
closed_node s = record s { nodes = nodes_of s; key = None; print = []; uses = [] }

abbrev pub closed_file : State → State
closed_file s = record s { files = files_of s; path = None; nodes = []; key = None; print = []; uses = [] }

unfoldable pub block_at : ℕ → ℕ → State → Result State DepsFault
block_at at block s = if takes_block s.stage && block == RECORD_BLOCK_ID then Ok (record s { stage = Version }) else Err (faults.RecordOrder at)

unfoldable pub version_at : Bool → ℕ → List ℕ → Option (List ℕ) → State → Result State DepsFault
version_at is_single at ops blob s =
    if takes_version s.stage && (is_none blob && length ops == 1)
    then (if is_version is_single (slice_index ops 0) then Ok (record s { stage = Names; version = slice_index ops 0 }) else Err (faults.Version (slice_index ops 0)))
    else Err (faults.RecordOrder at)

abbrev pub blob_alone : ℕ → List ℕ → Option (List ℕ) → Result (List ℕ) DepsFault
blob_alone at ops blob = if length ops == 0 then or_fault (faults.RecordOrder at) blob else Err (faults.RecordOrder at)

abbrev pub utf8_text : ℕ → List ℕ → Result (List ℕ) DepsFault
utf8_text at text = if is_utf8 text then Ok text else Err (faults.NotUtf8 at)

unfoldable pub identifier_of : ℕ → List ℕ → State → Result State DepsFault
identifier_of at bytes s = do
  text ← utf8_text at bytes
  if is_filled text && is_above_text (last s.names) text then Ok (record s { names = s.names ++ text ∷ [] }) else Err (faults.NotCanonicalOrder at)

unfoldable pub identifier_at : ℕ → List ℕ → Option (List ℕ) → State → Result State DepsFault
identifier_at at ops blob s =
    if takes_identifier s.stage then (do
      text ← blob_alone at ops blob
      identifier_of at text s) else Err (faults.RecordOrder at)

abbrev pub is_same_text : Option (List ℕ) → List ℕ → Bool
is_same_text None text = false
is_same_text (Some before) text = pointwise nat_eq before text

-- a file begins, and the last one is closed
abbrev pub begun : List ℕ → State → State
begun path s = record { stage = Nodes; version = s.version; names = s.names; files = files_of s; path = Some path; nodes = []; key = None; print = []; uses = [] }

abbrev pub file_of : ℕ → List ℕ → State → Result State DepsFault
file_of at path s =
    if is_same_text s.path path then Err (faults.FileRepeated path)
    else if is_filled path && is_above_text s.path path then Ok (begun path s) else Err (faults.NotCanonicalOrder at)

unfoldable pub file_at : Bool → ℕ → List ℕ → Option (List ℕ) → State → Result State DepsFault
file_at is_single at ops blob s =
    if takes_file is_single s.stage && (is_none blob && length ops == 1) then (do
      path ← text_of s.names at (slice_index ops 0)
      file_of at path s) else Err (faults.RecordOrder at)

-- a node begins, and the last one is closed
abbrev pub with_node : Key → State → State
with_node key s = record s { stage = Print; nodes = nodes_of s; key = Some key; print = []; uses = [] }

unfoldable pub node_at : ℕ → List ℕ → Option (List ℕ) → State → Result State DepsFault
node_at at ops blob s =
    if takes_node s.stage then (do
      key ← key_in s.names at ops blob
      if is_above_key s.key key then Ok (with_node key s) else Err (faults.NotCanonicalOrder at)) else Err (faults.RecordOrder at)

unfoldable pub print_at : ℕ → List ℕ → Option (List ℕ) → State → Result State DepsFault
print_at at ops blob s =
    if takes_print s.stage then (do
      print ← blob_alone at ops blob
      Ok (record s { stage = Uses; print = print })) else Err (faults.RecordOrder at)

unfoldable pub use_at : ℕ → List ℕ → Option (List ℕ) → State → Result State DepsFault
use_at at ops blob s =
    if takes_use s.stage then (do
      key ← key_in s.names at ops blob
      if is_above_key (last s.uses) key then Ok (record s { uses = s.uses ++ key ∷ [] }) else Err (faults.NotCanonicalOrder at)) else Err (faults.RecordOrder at)

unfoldable pub leave_at : Bool → ℕ → State → Result State DepsFault
leave_at is_single at s = if may_end is_single s.stage then Ok (record s { stage = Behind }) else Err (faults.RecordOrder at)

unfoldable pub record_at : Bool → ℕ → ℕ → List ℕ → Option (List ℕ) → State → Result State DepsFault
record_at is_single at code ops blob s =
    if code == METADATA then version_at is_single at ops blob s else if code == NODE then node_at at ops blob s else if code == FINGERPRINT then print_at at ops blob s
    else if code == USE then use_at at ops blob s else if code == IDENTIFIER then identifier_at at ops blob s else if code == FILE then file_at is_single at ops blob s
    else Err (faults.RecordOrder at)

-- An item at a bit: what was read with it, or its fault.
abbrev pub item_at : Bool → ℕ → Seen → State → Result State DepsFault
item_at is_single at (Enters block) s = block_at at block s
item_at is_single at LeaveBlock s = leave_at is_single at s
item_at is_single at (Record code ops blob) s = record_at is_single at code ops blob s
item_at is_single at Ends s = Err (faults.RecordOrder at)

-- The end, at a bit: it stands behind the block.
abbrev pub end_at : ℕ → State → Result (ℕ × List FileGraph) DepsFault
end_at at s = if is_behind s.stage then Ok (s.version, files_of s) else Err (faults.RecordOrder at)

abbrev pub ended : ℕ → Option BitFault → State → Result (ℕ × List FileGraph) DepsFault
ended bits None s = end_at bits s
ended bits (Some e) s = Err (faults.Bits e)

-- All items, of `bits` bits, and then the end or the fault that ends them.
abbrev pub items_judged : Bool → ℕ → List (ℕ × Seen) → Option BitFault → State → Result (ℕ × List FileGraph) DepsFault
items_judged is_single bits [] fault s = ended bits fault s
items_judged is_single bits (item ∷ items) fault s = item_at is_single item.0 item.1 s >>= items_judged is_single bits items fault
