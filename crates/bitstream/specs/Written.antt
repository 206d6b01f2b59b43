-- What a writer was asked to write, and the items that this shows.
use Rattle.std.specs.Prelude.{◌≡◌, ℕ, ◌-◌, ◌^◌, ◌<◌, ◌≤◌, true, List, [], ◌∷◌, ◌++◌, length, drop, slice_get, Some, None}
use Rattle.bitstream.specs.declared.codes.TheConstants.{FIRST_APPLICATION_ABBREV, LEAST_ID_WIDTH, MOST_ID_WIDTH, MOST_OPEN_BLOCKS}
use Rattle.bitstream.specs.declared.item.AbbrevOp.{AbbrevOp}
use Rattle.bitstream.specs.declared.item.AbbrevOp.TheVariants.{Literal, Fixed, Vbr, Array, Char6, Blob}
use Rattle.bitstream.specs.Reading.{Seen, Enters, LeaveBlock, Record}
use Rattle.bitstream.specs.Spelling.{AllBelow}
use Rattle.bitstream.specs.Writer.{Writing, nothing_written, entered, EndsBlock, defined, recorded, with_blob, is_definition}

-- A call of a writer: a block with a number and a width of ids begins, the innermost block ends, an abbreviation is defined,
-- a record with a code and operands is written without an abbreviation, or one with a code and a blob by the abbreviation that has an id.
pub data Call : Type 0 where
  Entering : ℕ → ℕ → Call
  Leaving : Call
  Defining : List AbbrevOp → Call
  Recording : ℕ → List ℕ → Call
  RecordingBlob : ℕ → ℕ → List ℕ → Call

-- the number of an operand fits its type: 64 bits for a literal, 32 for a width
abbrev pub OperandFits : AbbrevOp → Type 0
OperandFits (Literal n) = n < 2 ^ 64
OperandFits (Fixed w) = w < 2 ^ 32
OperandFits (Vbr w) = w < 2 ^ 32
OperandFits Array = Unit {0}
OperandFits Char6 = Unit {0}
OperandFits Blob = Unit {0}

abbrev pub OperandsFit : List AbbrevOp → Type 0
OperandsFit [] = Unit {0}
OperandsFit (op ∷ ops) = OperandFits op × OperandsFit ops

-- the id is that of an abbreviation of the open block that has this literal, for the code, and a blob
abbrev pub IsBlobCode : ℕ → ℕ → Writing → Type 0
IsBlobCode id code s = (FIRST_APPLICATION_ABBREV ≤ id) × (slice_get (drop s.first s.abbrevs) (id - FIRST_APPLICATION_ABBREV) ≡ Some (Literal code ∷ Blob ∷ []))

-- What a call does with what was written, where its conditions hold.
abbrev pub Does : Call → Writing → Writing → Type 0
Does (Entering number width) old new = (length old.blocks < MOST_OPEN_BLOCKS) × (0 < number) × (number < 2 ^ 32) × (LEAST_ID_WIDTH ≤ width) × (width ≤ MOST_ID_WIDTH) × (new ≡ entered number width old)
Does Leaving old new = EndsBlock old new
Does (Defining ops) old new = (0 < length old.blocks) × (is_definition ops ≡ true) × OperandsFit ops × (length ops < 2 ^ 64) × (new ≡ defined ops old)
Does (Recording code ops) old new = (0 < length old.blocks) × (code < 2 ^ 64) × AllBelow (2 ^ 64) ops × (length ops < 2 ^ 64) × (new ≡ recorded code ops old)
Does (RecordingBlob id code blob) old new = (0 < length old.blocks) × IsBlobCode id code old × (id < 2 ^ old.width)
    × AllBelow 256 blob × (length blob < 2 ^ 64) × (new ≡ with_blob id blob old)

-- what a call shows, at the position where its bits begin
abbrev pub shown_by : Call → ℕ → List (ℕ × Seen)
shown_by (Entering number width) at = (at, Enters number) ∷ []
shown_by Leaving at = (at, LeaveBlock) ∷ []
shown_by (Defining ops) at = []
shown_by (Recording code ops) at = (at, Record code ops None) ∷ []
shown_by (RecordingBlob id code blob) at = (at, Record code [] (Some blob)) ∷ []

-- The calls, the latest first, wrote this from nothing on, and showed these items.
abbrev pub Wrote : List Call → List (ℕ × Seen) → Writing → Type 0
Wrote [] items s = (items ≡ []) × (s ≡ nothing_written)
Wrote (call ∷ earlier) items s = (old : Writing) × (before : List (ℕ × Seen)) × Wrote earlier before old × Does call old s × (items ≡ before ++ shown_by call (length old.bits))

-- The items were asked for, each at the position where its bits begin, and nothing else was written.
abbrev pub HasWritten : List (ℕ × Seen) → Writing → Type 0
HasWritten items s = (calls : List Call) × Wrote calls items s
