-- What a reader answers, and where it stands behind the answer.
use Rattle.std.specs.Prelude.{◌≡◌, ◌≢◌, ℕ, zero, suc, ◌+◌, ◌-◌, ◌/◌, ◌%◌, ◌^◌, ◌==◌, ◌&&◌, nat_lt, nat_le, if◌then◌else◌, Bool, List, [], ◌∷◌, ◌++◌, length, take, slice_index_or, Option, Some, None, Result, Ok, Err}
use Rattle.bitstream.specs.declared.codes.TheConstants.{END_BLOCK, ENTER_SUBBLOCK, DEFINE_ABBREV, UNABBREV_RECORD, FIRST_APPLICATION_ABBREV, BLOCKINFO_BLOCK_ID, BLOCKINFO_CODE_SETBID, OUTER_ID_WIDTH, MOST_OPEN_BLOCKS, BLOCK_SIZE_WIDTH, WORD_BITS, RECORD_WIDTH}
use Rattle.bitstream.specs.declared.item.BitFault.{BitFault}
use Rattle.bitstream.specs.declared.item.BitFault.TheVariants.{UnknownAbbrev, BadOperands, BadBlockLength, OutsideBlock, TooDeep, NoMemory}
use Rattle.bitstream.specs.declared.item.AbbrevOp.{AbbrevOp}
use Rattle.bitstream.specs.declared.item.AbbrevOp.TheVariants.{Vbr}
use Rattle.bitstream.specs.declared.item.Item.{Item}
use Rattle.bitstream.specs.declared.item.Item.TheVariants.{Enter, Leave, Rec, End}
use Rattle.bitstream.specs.declared.cursor.Opened.{Opened}
use Rattle.bitstream.specs.declared.entry_reader.EntryReader.{EntryReader}
use Rattle.bitstream.specs.declared.block_info.BlockInfoDefinition.{BlockInfoDefinition}
use Rattle.bitstream.specs.declared.entry_reader.Scope.{Scope}
use Rattle.bitstream.specs.Fields.{Input, input_at, fixed_at, vbr_at, ◌>>=◌}
use Rattle.bitstream.specs.Stream.{align_at, blob_at, opened_at, definition_at, numbers_at, values_at, slice_seen}
use Rattle.bitstream.specs.BlockInfo.{block_info_for}
use Rattle.bitstream.specs.Scopes.{abbrev_in}

-- An item, with a blob as the list of its bytes.
pub data Seen : Type 0 where
  Enters : ℕ → Seen
  LeaveBlock : Seen
  Record : ℕ → List ℕ → Option (List ℕ) → Seen
  Ends : Seen

abbrev pub seen : Item → Seen
seen (Enter block) = Enters block
seen Leave = LeaveBlock
seen (Rec code ops blob) = Record code ops (slice_seen blob)
seen End = Ends

abbrev pub option_seen : Option Item → Option Seen
option_seen (Some item) = Some (seen item)
option_seen None = None

-- The innermost open block, and the outer ones, the innermost last, with what stands outside all blocks first; the
-- abbreviations that the open blocks define themselves; what BLOCKINFO defined so far; and the block that it named last.
pub record Context : Type 0 where
  pub scope : Scope
  pub outer : List Scope
  pub abbrevs : List (List AbbrevOp)
  pub block_info : List BlockInfoDefinition
  pub named : Option ℕ

abbrev pub context : EntryReader → Context
context r = record { scope = r.scope; outer = r.outer.items; abbrevs = r.abbrevs.items; block_info = r.block_info.all.items; named = r.named }

-- outside all blocks ids have two bits
abbrev pub outside : Context
outside = record { scope = record { entered = 0; block = 1; width = OUTER_ID_WIDTH; first = 0; block_info = 0; begins = 0; said = 0 }; outer = []; abbrevs = []; block_info = []; named = None }

-- a reader stands at a place in a context, or it met a fault; and the first bit of the last item
pub data Reading : Type 0 where
  At : Input → Context → ℕ → Reading
  Stuck : BitFault → ℕ → Reading

abbrev pub by_fault : Option BitFault → Input → Context → ℕ → Reading
by_fault None p c i = At p c i
by_fault (Some e) p c i = Stuck e i

abbrev pub first_bit : List ℕ → Reading
first_bit bytes = At (input_at bytes 0) outside 0

abbrev pub item_of : Reading → ℕ
item_of (At p c i) = i
item_of (Stuck e i) = i

-- what was read is answered, and the reader stands behind it, or the fault is answered and kept
abbrev pub after_read : {A : Type 0} → Context → ℕ → Result (A × Input) BitFault → Result A BitFault × Reading
after_read c i (Ok x) = (Ok x.0, At x.1 c i)
after_read c i (Err e) = (Err e, Stuck e i)

-- the answer of a call that reads so, and the reader behind it: a fault met before is answered again
abbrev pub answer_of : {A : Type 0} → (Input → Result (A × Input) BitFault) → Reading → Result A BitFault × Reading
answer_of read (At p c i) = after_read c i (read p)
answer_of read (Stuck e i) = (Err e, Stuck e i)

-- BLOCKINFO shows no item
abbrev pub shown_in : Context → Seen → Option Seen
shown_in c s = if c.scope.block == BLOCKINFO_BLOCK_ID then None else Some s

abbrev pub left_block : Context → Context
left_block c = record { scope = slice_index_or c.outer (length c.outer - 1) c.scope; outer = take (length c.outer - 1) c.outer; abbrevs = take c.scope.first c.abbrevs; block_info = c.block_info; named = c.named }

-- END_BLOCK behind its id: up to the next word, and the length in words must be what was said, modulo 2 ^ 32
abbrev pub end_at : Context → Input → Result ((Option Seen × Context) × Input) BitFault
end_at c p = do
  q ← align_at p
  if ((q.1).at - c.scope.begins) / WORD_BITS % 2 ^ BLOCK_SIZE_WIDTH == c.scope.said then Ok ((shown_in c LeaveBlock, left_block c), q.1) else Err (BadBlockLength c.scope.entered c.scope.said)

-- a block begins, with what BLOCKINFO defined for it so far
abbrev pub entered_block : ℕ → Opened → Context → Context
entered_block at o c = record {
  scope = record { entered = at; block = o.block; width = o.width; first = length c.abbrevs; block_info = length (block_info_for o.block c.block_info); begins = o.begins; said = o.said };
  outer = c.outer ++ c.scope ∷ [];
  abbrevs = c.abbrevs;
  block_info = c.block_info;
  named = None;
}

-- ENTER_SUBBLOCK at `at`, behind its id: not in BLOCKINFO, and at most 32 blocks are open
abbrev pub enter_at : ℕ → Context → Input → Result ((Option Seen × Context) × Input) BitFault
enter_at at c p = if c.scope.block == BLOCKINFO_BLOCK_ID then Err (BadOperands at) else if nat_le MOST_OPEN_BLOCKS (length c.outer) then Err (TooDeep at) else (do
  o ← opened_at at p
  Ok (((if (o.0).block == BLOCKINFO_BLOCK_ID then None else Some (Enters (o.0).block)), entered_block at o.0 c), o.1))

abbrev pub defined_for : Context → ℕ → Option ℕ → Input → Result ((Option Seen × Context) × Input) BitFault
defined_for c at None p = Err (BadOperands at)
defined_for c at (Some block) p = do
  d ← definition_at at p
  Ok ((None, record c { block_info = c.block_info ++ record { block = block; definition = d.0 } ∷ [] }), d.1)

-- DEFINE_ABBREV at `at`, behind its id: for the open block, and in BLOCKINFO for the block that was named
abbrev pub define_at : ℕ → Context → Input → Result ((Option Seen × Context) × Input) BitFault
define_at at c p = if c.scope.block == BLOCKINFO_BLOCK_ID then defined_for c at c.named p else (do
  d ← definition_at at p
  Ok ((None, record c { abbrevs = c.abbrevs ++ d.0 ∷ [] }), d.1))

abbrev pub named_by : ℕ → List ℕ → Context → Input → Result ((Option Seen × Context) × Input) BitFault
named_by at [] c p = Err (BadOperands at)
named_by at (n ∷ ns) c p = if nat_lt n (2 ^ 32) then Ok ((None, record c { named = Some n }), p) else Err (BadOperands at)

-- a record at `at`: an item, but in BLOCKINFO, where SETBID names a block and others are passed over
abbrev pub judged : ℕ → ℕ → List ℕ → Option (List ℕ) → Context → Input → Result ((Option Seen × Context) × Input) BitFault
judged at code numbers blob c p = if c.scope.block == BLOCKINFO_BLOCK_ID then (if code == BLOCKINFO_CODE_SETBID then named_by at numbers c p else Ok ((None, c), p)) else Ok ((Some (Record code numbers blob), c), p)

-- UNABBREV_RECORD at `at`, behind its id: the code, how many operands there are, and each
abbrev pub plain_at : ℕ → Context → Input → Result ((Option Seen × Context) × Input) BitFault
plain_at at c p = do
  code ← vbr_at RECORD_WIDTH p
  count ← vbr_at RECORD_WIDTH code.1
  ops ← numbers_at count.0 (Vbr RECORD_WIDTH) count.1
  judged at code.0 ops.0 None c ops.1

-- a record at `at` that has its code from its abbreviation, and a blob
abbrev pub blob_record_at : ℕ → ℕ → Context → Input → Result ((Option Seen × Context) × Input) BitFault
blob_record_at at code c p = do
  blob ← blob_at p
  judged at code [] (Some blob.0) c blob.1

-- the first number of a record is its code
abbrev pub judged_values : ℕ → List ℕ → Option (List ℕ) → Context → Input → Result ((Option Seen × Context) × Input) BitFault
judged_values at [] blob c p = judged at 0 [] blob c p
judged_values at (code ∷ numbers) blob c p = judged at code numbers blob c p

abbrev pub by_abbrev : ℕ → ℕ → Option (List AbbrevOp) → Context → Input → Result ((Option Seen × Context) × Input) BitFault
by_abbrev at id None c p = Err (UnknownAbbrev at id)
by_abbrev at id (Some ops) c p = do
  v ← values_at ops p
  judged_values at (v.0).numbers (v.0).blob c v.1

-- a record at `at`, behind its id, by an abbreviation of the open block
abbrev pub abbreviated_at : ℕ → ℕ → Context → Input → Result ((Option Seen × Context) × Input) BitFault
abbreviated_at at id c p = by_abbrev at id (abbrev_in c.scope c.block_info c.abbrevs (id - FIRST_APPLICATION_ABBREV)) c p

-- the entry at `at` that has the id
abbrev pub entry_by : ℕ → ℕ → Context → Input → Result ((Option Seen × Context) × Input) BitFault
entry_by at id c p = if id == ENTER_SUBBLOCK then enter_at at c p else if length c.outer == 0 then Err (OutsideBlock at) else if id == END_BLOCK then end_at c p
    else if id == DEFINE_ABBREV then define_at at c p else if id == UNABBREV_RECORD then plain_at at c p else abbreviated_at at id c p

abbrev pub entry_at : Context → Input → Result ((Option Seen × Context) × Input) BitFault
entry_at c p = do
  id ← fixed_at c.scope.width p
  entry_by p.at id.0 c id.1

-- no bit is left outside all blocks
abbrev pub at_end : Context → Input → Bool
at_end c p = length c.outer == 0 && length p.bits == 0

abbrev pub item_or : ℕ → Option Seen → Context → Input → Result ((ℕ × Seen × Context) × Input) BitFault → Result ((ℕ × Seen × Context) × Input) BitFault
item_or at (Some s) c p more = Ok ((at, s, c), p)
item_or at None c p more = more

-- The next item, its first bit, and the context behind it: the first of the entries that shows one. Each entry has a bit at
-- least, so no more entries are read than bits are left.
abbrev pub next_at : ℕ → Context → Input → Result ((ℕ × Seen × Context) × Input) BitFault
next_at zero c p = Err NoMemory
next_at (suc n) c p = if at_end c p then Ok ((p.at, Ends, c), p) else (do
  e ← entry_at c p
  item_or p.at (e.0).0 (e.0).1 e.1 (next_at n (e.0).1 e.1))

abbrev pub left_at : Input → ℕ
left_at p = length p.bits + 1

-- What a call gave, with the input behind it, is what reading gives, or memory was wanted.
abbrev pub GivesAnyList : {A : Type 0} → Input → Result (List A) BitFault → Result (List A × Input) BitFault → Type 0
GivesAnyList behind (Ok list) read = read ≡ Ok (list, behind)
GivesAnyList behind (Err e) read = e ≢ NoMemory → read ≡ Err e

-- What a call gave is what reading gives, or memory was wanted.
abbrev pub EntryGives : Context → Input → Result (Option Item) BitFault → Result ((Option Seen × Context) × Input) BitFault → Type 0
EntryGives c behind (Ok item) read = read ≡ Ok ((option_seen item, c), behind)
EntryGives c behind (Err e) read = e ≢ NoMemory → read ≡ Err e

abbrev pub ItemGives : Context → Input → Result (ℕ × Item) BitFault → Result ((ℕ × Seen × Context) × Input) BitFault → Type 0
ItemGives c behind (Ok x) read = read ≡ Ok ((x.0, seen x.1, c), behind)
ItemGives c behind (Err e) read = e ≢ NoMemory → read ≡ Err e

-- the next item and the reader behind it, or the first fault or want of memory, which is kept
abbrev pub NextGives : Reading → Result Item BitFault → Reading → Type 0
NextGives (Stuck e i) result new = (result ≡ Err e) × (new ≡ Stuck e i)
NextGives (At p c i) (Ok item) new = (at : ℕ) × (after : Context) × (behind : Input) × (next_at (left_at p) c p ≡ Ok ((at, seen item, after), behind)) × (new ≡ At behind after at)
NextGives (At p c i) (Err e) new = (e ≢ NoMemory → next_at (left_at p) c p ≡ Err e) × (new ≡ Stuck e i)
