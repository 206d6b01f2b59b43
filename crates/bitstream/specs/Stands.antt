-- What bytes stand for: the entries that are written in their bits, and the items that these show.
use Rattle.std.specs.Prelude.{◌≡◌, ℕ, ◌+◌, ◌-◌, ◌*◌, ◌/◌, ◌%◌, ◌^◌, ◌<◌, ◌≤◌, ◌==◌, if◌then◌else◌, Bool, true, false, List, [], ◌∷◌, ◌++◌, length, slice_get, Option, Some, None}
use Rattle.bitstream.specs.declared.codes.TheConstants.{END_BLOCK, ENTER_SUBBLOCK, DEFINE_ABBREV, UNABBREV_RECORD, FIRST_APPLICATION_ABBREV, BLOCKINFO_BLOCK_ID, BLOCKINFO_CODE_SETBID, OUTER_ID_WIDTH, LEAST_ID_WIDTH, MOST_ID_WIDTH, MOST_OPEN_BLOCKS, BLOCK_ID_WIDTH, CODE_LEN_WIDTH, BLOCK_SIZE_WIDTH, WORD_BITS, RECORD_WIDTH, ABBREV_WIDTH, LITERAL_WIDTH, ENCODING_WIDTH, ENCODING_FIXED, ENCODING_VBR, ENCODING_ARRAY, ENCODING_CHAR6, ENCODING_BLOB, CHAR6_WIDTH}
use Rattle.bitstream.specs.declared.item.AbbrevOp.{AbbrevOp}
use Rattle.bitstream.specs.declared.item.AbbrevOp.TheVariants.{Literal, Fixed, Vbr, Array, Char6, Blob}
use Rattle.bitstream.specs.Bits.{bits, bits_of}
use Rattle.bitstream.specs.Spelling.{IsVbr, AllBelow}
use Rattle.bitstream.specs.Stream.{char6}
use Rattle.bitstream.specs.Reading.{Seen, Enters, LeaveBlock, Record}
use Rattle.bitstream.specs.Writer.{is_definition}

-- What may stand somewhere: of a position and some bits, whether these may stand there.
abbrev pub BitPattern : Type 1
BitPattern = ℕ → List Bool → Type 0

-- no bits
abbrev pub nothing : BitPattern
nothing at front = front ≡ []

-- first one thing, and right behind it another
infixr 4 ◌⨾◌
abbrev pub ◌⨾◌ : BitPattern → BitPattern → BitPattern
(P ⨾ Q) at front = (one : List Bool) × (other : List Bool) × P at one × Q (at + length one) other × (front ≡ one ++ other)

-- one of these for each element, in order
abbrev pub each : {A : Type 0} → (A → BitPattern) → List A → BitPattern
each P [] = nothing
each P (x ∷ xs) = P x ⨾ each P xs

-- a number in w bits
abbrev pub fixed_form : ℕ → ℕ → BitPattern
fixed_form w n at front = (n < 2 ^ w) × (front ≡ bits w n)

-- a number in groups of w bits, maybe with surplus groups of zeros; none of these for a width of 0, which is the number 0
abbrev pub vbr_form : ℕ → ℕ → BitPattern
vbr_form w n at front = IsVbr w n front

-- any bits up to the next word
abbrev pub pad_form : BitPattern
pad_form at front = length front ≡ (WORD_BITS - at % WORD_BITS) % WORD_BITS

abbrev pub bytes_form : List ℕ → BitPattern
bytes_form bytes at front = AllBelow 256 bytes × (front ≡ bits_of bytes)

-- a character, by its number in six bits
abbrev pub char6_form : ℕ → BitPattern
char6_form character at front = (n : ℕ) × (character ≡ char6 n) × fixed_form CHAR6_WIDTH n at front

-- a number as an operand writes it; a literal takes no bits, and no number is written as an array or a blob
abbrev pub number_form : AbbrevOp → ℕ → BitPattern
number_form (Literal k) n at front = (n ≡ k) × nothing at front
number_form (Fixed w) n at front = fixed_form w n at front
number_form (Vbr w) n at front = vbr_form w n at front
number_form Char6 n at front = char6_form n at front
number_form Array n at front = ⊥
number_form Blob n at front = ⊥

-- a length, and as many numbers, each as the operand writes it that stands behind the array
abbrev pub array_form : List AbbrevOp → List ℕ → BitPattern
array_form [] numbers at front = ⊥
array_form (element ∷ ops) numbers at front = (vbr_form RECORD_WIDTH (length numbers) ⨾ each (number_form element) numbers) at front

-- a length, and as many bytes between two alignments
abbrev pub blob_form : List ℕ → BitPattern
blob_form bytes = vbr_form RECORD_WIDTH (length bytes) ⨾ pad_form ⨾ bytes_form bytes ⨾ pad_form

-- The values of a record, as the operands of its abbreviation write them: a number for each, at the end maybe those of an array, or a blob.
abbrev pub values_form : List AbbrevOp → List ℕ → Option (List ℕ) → BitPattern
values_form [] [] None at front = nothing at front
values_form (Array ∷ ops) numbers None at front = array_form ops numbers at front
values_form (Blob ∷ ops) [] (Some bytes) at front = blob_form bytes at front
values_form (Literal k ∷ ops) (n ∷ numbers) blob at front = (number_form (Literal k) n ⨾ values_form ops numbers blob) at front
values_form (Fixed w ∷ ops) (n ∷ numbers) blob at front = (number_form (Fixed w) n ⨾ values_form ops numbers blob) at front
values_form (Vbr w ∷ ops) (n ∷ numbers) blob at front = (number_form (Vbr w) n ⨾ values_form ops numbers blob) at front
values_form (Char6 ∷ ops) (n ∷ numbers) blob at front = (number_form Char6 n ⨾ values_form ops numbers blob) at front
values_form _ _ _ at front = ⊥

-- one operand of a definition: a set bit and its literal, or a clear bit and its encoding, with its width where it has one
abbrev pub op_form : AbbrevOp → BitPattern
op_form (Literal k) = fixed_form 1 1 ⨾ vbr_form LITERAL_WIDTH k
op_form (Fixed w) = fixed_form 1 0 ⨾ fixed_form ENCODING_WIDTH ENCODING_FIXED ⨾ vbr_form ABBREV_WIDTH w
op_form (Vbr w) = fixed_form 1 0 ⨾ fixed_form ENCODING_WIDTH ENCODING_VBR ⨾ vbr_form ABBREV_WIDTH w
op_form Array = fixed_form 1 0 ⨾ fixed_form ENCODING_WIDTH ENCODING_ARRAY
op_form Char6 = fixed_form 1 0 ⨾ fixed_form ENCODING_WIDTH ENCODING_CHAR6
op_form Blob = fixed_form 1 0 ⨾ fixed_form ENCODING_WIDTH ENCODING_BLOB

-- An entry. A block has its number, the width of its ids and its length in words; a record by an abbreviation has its id,
-- and both kinds of records a code, operands and maybe a blob.
pub data Entry : Type 0 where
  EndBlock : Entry
  EnterBlock : ℕ → ℕ → ℕ → Entry
  Define : List AbbrevOp → Entry
  PlainRecord : ℕ → List ℕ → Entry
  AbbrevRecord : ℕ → ℕ → List ℕ → Option (List ℕ) → Entry

-- An open block: its number, the width of its ids, its abbreviations, the position behind its length field, and its length in words.
pub record Block : Type 0 where
  pub number : ℕ
  pub width : ℕ
  pub abbrevs : List (List AbbrevOp)
  pub begins : ℕ
  pub words : ℕ

-- The open blocks, the innermost first; what BLOCKINFO defined so far, each for the block with a number; and the number that it named last.
pub record Blocks : Type 0 where
  pub open_blocks : List Block
  pub defined : List (ℕ × List AbbrevOp)
  pub named : Option ℕ

-- outside all blocks, with nothing defined
abbrev pub no_blocks : Blocks
no_blocks = record { open_blocks = []; defined = []; named = None }

-- outside all blocks ids have two bits
abbrev pub width_in : List Block → ℕ
width_in [] = OUTER_ID_WIDTH
width_in (b ∷ bs) = b.width

-- the entries stand in BLOCKINFO, which has the number 0
abbrev pub in_info : List Block → Bool
in_info [] = false
in_info (b ∷ bs) = b.number == BLOCKINFO_BLOCK_ID

abbrev pub abbrevs_in : List Block → List (List AbbrevOp)
abbrevs_in [] = []
abbrevs_in (b ∷ bs) = b.abbrevs

-- what BLOCKINFO defined for a block, in order
abbrev pub defined_for_block : ℕ → List (ℕ × List AbbrevOp) → List (List AbbrevOp)
defined_for_block number [] = []
defined_for_block number (d ∷ ds) = if d.0 == number then d.1 ∷ defined_for_block number ds else defined_for_block number ds

-- the ids of the block's abbreviations
abbrev pub IsAbbrevId : List (List AbbrevOp) → ℕ → List AbbrevOp → Type 0
IsAbbrevId abbrevs id ops = (FIRST_APPLICATION_ABBREV ≤ id) × (slice_get abbrevs (id - FIRST_APPLICATION_ABBREV) ≡ Some ops)

-- the bits of an entry: its id, and what belongs to it
abbrev pub entry_form : Blocks → Entry → BitPattern
entry_form c EndBlock at front = (fixed_form (width_in c.open_blocks) END_BLOCK ⨾ pad_form) at front
entry_form c (EnterBlock number width words) at front = (fixed_form (width_in c.open_blocks) ENTER_SUBBLOCK ⨾ vbr_form BLOCK_ID_WIDTH number ⨾ vbr_form CODE_LEN_WIDTH width ⨾ pad_form ⨾ fixed_form BLOCK_SIZE_WIDTH words) at front
entry_form c (Define ops) at front = (fixed_form (width_in c.open_blocks) DEFINE_ABBREV ⨾ vbr_form ABBREV_WIDTH (length ops) ⨾ each op_form ops) at front
entry_form c (PlainRecord code ops) at front = (fixed_form (width_in c.open_blocks) UNABBREV_RECORD ⨾ vbr_form RECORD_WIDTH code ⨾ vbr_form RECORD_WIDTH (length ops) ⨾ each (vbr_form RECORD_WIDTH) ops) at front
entry_form c (AbbrevRecord id code ops blob) at front =
    (abbrev_ops : List AbbrevOp) × IsAbbrevId (abbrevs_in c.open_blocks) id abbrev_ops × (fixed_form (width_in c.open_blocks) id ⨾ values_form abbrev_ops (code ∷ ops) blob) at front

-- the block that a definition belongs to: in BLOCKINFO the one that it named, which must be there
abbrev pub HasNamed : Blocks → Type 0
HasNamed c = (number : ℕ) × (c.named ≡ Some number)

-- In BLOCKINFO the record SETBID names a block by its first operand.
abbrev pub Names : ℕ → List ℕ → Type 0
Names code ops = code ≡ BLOCKINFO_CODE_SETBID → (number : ℕ) × (more : List ℕ) × (ops ≡ number ∷ more) × (number < 2 ^ 32)

-- Whether an entry may stand where it does. `behind` is the position behind it, and `left` is how many bits are left there.
-- Outside all blocks only a block may begin. A block ends at a word as its length says, modulo 2 ^ 32. No block begins in
-- BLOCKINFO, at most 32 are open, and the input has all its words.
abbrev pub Allowed : Blocks → ℕ → ℕ → Entry → Type 0
Allowed c behind left EndBlock = (b : Block) × (outer : List Block) × (c.open_blocks ≡ b ∷ outer) × ((behind - b.begins) / WORD_BITS % 2 ^ BLOCK_SIZE_WIDTH ≡ b.words)
Allowed c behind left (EnterBlock number width words) =
    (in_info c.open_blocks ≡ false) × (length c.open_blocks < MOST_OPEN_BLOCKS) × (number < 2 ^ 32) × (LEAST_ID_WIDTH ≤ width) × (width ≤ MOST_ID_WIDTH) × (WORD_BITS * words ≤ left)
Allowed c behind left (Define ops) = (0 < length c.open_blocks) × (is_definition ops ≡ true) × (in_info c.open_blocks ≡ true → HasNamed c)
Allowed c behind left (PlainRecord code ops) = (0 < length c.open_blocks) × (in_info c.open_blocks ≡ true → Names code ops)
Allowed c behind left (AbbrevRecord id code ops blob) = (0 < length c.open_blocks) × (in_info c.open_blocks ≡ true → Names code ops)

abbrev pub outer_blocks : List Block → List Block
outer_blocks [] = []
outer_blocks (b ∷ bs) = bs

abbrev pub with_abbrev : List AbbrevOp → List Block → List Block
with_abbrev ops [] = []
with_abbrev ops (b ∷ bs) = record b { abbrevs = b.abbrevs ++ ops ∷ [] } ∷ bs

abbrev pub with_definition : List AbbrevOp → Option ℕ → List (ℕ × List AbbrevOp) → List (ℕ × List AbbrevOp)
with_definition ops None ds = ds
with_definition ops (Some number) ds = ds ++ (number, ops) ∷ []

abbrev pub named_now : ℕ → List ℕ → Option ℕ → Option ℕ
named_now code [] named = named
named_now code (number ∷ more) named = if code == BLOCKINFO_CODE_SETBID then Some number else named

abbrev pub after_record : Blocks → ℕ → List ℕ → Blocks
after_record c code ops = if in_info c.open_blocks then record c { named = named_now code ops c.named } else c

-- The open blocks and the definitions behind an entry that ends at `behind`. A block that begins has the abbreviations that
-- BLOCKINFO defined for it before.
abbrev pub after_entry : Blocks → ℕ → Entry → Blocks
after_entry c behind EndBlock = record c { open_blocks = outer_blocks c.open_blocks }
after_entry c behind (EnterBlock number width words) = record {
  open_blocks = record { number = number; width = width; abbrevs = defined_for_block number c.defined; begins = behind; words = words } ∷ c.open_blocks;
  defined = c.defined;
  named = None;
}
after_entry c behind (Define ops) = if in_info c.open_blocks then record c { defined = with_definition ops c.named c.defined } else record c { open_blocks = with_abbrev ops c.open_blocks }
after_entry c behind (PlainRecord code ops) = after_record c code ops
after_entry c behind (AbbrevRecord id code ops blob) = after_record c code ops

-- What an entry at a position shows: definitions and what belongs to BLOCKINFO show nothing.
abbrev pub shown : Blocks → ℕ → Entry → List (ℕ × Seen)
shown c at EndBlock = if in_info c.open_blocks then [] else (at, LeaveBlock) ∷ []
shown c at (EnterBlock number width words) = if number == BLOCKINFO_BLOCK_ID then [] else (at, Enters number) ∷ []
shown c at (Define ops) = []
shown c at (PlainRecord code ops) = if in_info c.open_blocks then [] else (at, Record code ops None) ∷ []
shown c at (AbbrevRecord id code ops blob) = if in_info c.open_blocks then [] else (at, Record code ops blob) ∷ []

-- Bits from a position on are those of the entries, one behind the other, and outside all blocks behind the last one.
abbrev pub AreEntries : Blocks → ℕ → List Entry → List Bool → List (ℕ × Seen) → Type 0
AreEntries c at [] bs items = (c.open_blocks ≡ []) × (bs ≡ []) × (items ≡ [])
AreEntries c at (e ∷ es) bs items = (front : List Bool) × (rest : List Bool) × (later : List (ℕ × Seen))
    × entry_form c e at front × Allowed c (at + length front) (length rest) e
    × AreEntries (after_entry c (at + length front) e) (at + length front) es rest later
    × (bs ≡ front ++ rest) × (items ≡ shown c at e ++ later)

-- The bytes stand for the items, each at its first bit.
abbrev pub StandFor : List ℕ → List (ℕ × Seen) → Type 0
StandFor bytes items = (entries : List Entry) × AreEntries no_blocks 0 entries (bits_of bytes) items
