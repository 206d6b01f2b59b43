-- Reading the parts of a stream, with the first fault.
use Rattle.std.specs.Prelude.{◌≡◌, ℕ, zero, suc, ◌+◌, ◌*◌, ◌-◌, ◌%◌, ◌^◌, ◌==◌, Bool, true, false, List, [], ◌∷◌, ◌++◌, length, take, drop, slice_index_or, Option, Some, None, Result, Ok, Err, nat_lt, nat_le, if◌then◌else◌, ◌&&◌, not, ◌≢◌}
use Rattle.std.specs.Global.{Vec}
use Rattle.std.specs.Borrow.{Bor}
use Rattle.bitstream.specs.declared.codes.TheConstants.{LEAST_ID_WIDTH, MOST_ID_WIDTH, BLOCK_ID_WIDTH, CODE_LEN_WIDTH, BLOCK_SIZE_WIDTH, WORD_BITS, RECORD_WIDTH, ABBREV_WIDTH, LITERAL_WIDTH, ENCODING_WIDTH, ENCODING_FIXED, ENCODING_VBR, ENCODING_ARRAY, ENCODING_CHAR6, ENCODING_BLOB, MOST_FIXED_WIDTH, MOST_VBR_WIDTH, CHAR6_WIDTH, CHAR6_CHARACTERS}
use Rattle.bitstream.specs.declared.item.BitFault.{BitFault}
use Rattle.bitstream.specs.declared.item.BitFault.TheVariants.{Short, BadEncoding, BadOperands, BadBlockLength, NoMemory}
use Rattle.bitstream.specs.declared.item.AbbrevOp.{AbbrevOp}
use Rattle.bitstream.specs.declared.item.AbbrevOp.TheVariants.{Literal, Fixed, Vbr, Array, Char6, Blob}
use Rattle.bitstream.specs.declared.cursor.Opened.{Opened}
use Rattle.bitstream.specs.Bits.{value}
use Rattle.bitstream.specs.Fields.{Input, after, fixed_at, vbr_at, ◌>>=◌}

-- the bits up to the next word are passed over, whatever they are
unfoldable pub align_at : Input → Result (Unit {0} × Input) BitFault
align_at p = let pad = (WORD_BITS - p.at % WORD_BITS) % WORD_BITS in if nat_lt (length p.bits) pad then Err (Short p.at) else Ok (tt, after pad p)

-- n bytes, which are one field
abbrev pub whole_bytes : ℕ → List Bool → List ℕ
whole_bytes zero bs = []
whole_bytes (suc n) bs = value (take 8 bs) ∷ whole_bytes n (drop 8 bs)

unfoldable pub bytes_at : ℕ → Input → Result (List ℕ × Input) BitFault
bytes_at n p = if nat_lt (length p.bits) (8 * n) then Err (Short p.at) else Ok (whole_bytes n p.bits, after (8 * n) p)

-- a length, and as many bytes between two alignments
unfoldable pub blob_at : Input → Result (List ℕ × Input) BitFault
blob_at p = do
  count ← vbr_at RECORD_WIDTH p
  q ← align_at count.1
  bytes ← bytes_at count.0 q.1
  r ← align_at bytes.1
  Ok (bytes.0, r.1)

-- the character of six bits: a to z, A to Z, the digits, a full stop, an underscore; unfoldable, so that the table stays closed
unfoldable pub char6 : ℕ → ℕ
char6 n = slice_index_or CHAR6_CHARACTERS n 0

-- a width that an operand can be read with
abbrev pub has_width : AbbrevOp → Bool
has_width (Literal n) = true
has_width (Fixed w) = nat_le w MOST_FIXED_WIDTH
has_width (Vbr w) = nat_le w MOST_VBR_WIDTH
has_width Array = true
has_width Char6 = true
has_width Blob = true

-- the number that an operand stands for; an array and a blob stand for none
unfoldable pub scalar_at : AbbrevOp → Input → Result (ℕ × Input) BitFault
scalar_at (Literal n) p = Ok (n, p)
scalar_at (Fixed w) p = fixed_at w p
scalar_at (Vbr w) p = vbr_at w p
scalar_at Char6 p = do
  x ← fixed_at CHAR6_WIDTH p
  Ok (char6 x.0, x.1)
scalar_at Array p = Ok (0, p)
scalar_at Blob p = Ok (0, p)

-- ENTER_SUBBLOCK behind its id at `entered`: the block's number, its width, up to the next word, and its length in words, which the input must have
unfoldable pub opened_at : ℕ → Input → Result (Opened × Input) BitFault
opened_at entered p = do
  block ← vbr_at BLOCK_ID_WIDTH p
  if nat_lt block.0 (2 ^ 32) then (do
    width ← vbr_at CODE_LEN_WIDTH block.1
    if nat_lt width.0 LEAST_ID_WIDTH then Err (BadOperands entered) else if nat_lt MOST_ID_WIDTH width.0 then Err (BadOperands entered) else (do
      q ← align_at width.1
      said ← fixed_at BLOCK_SIZE_WIDTH q.1
      if nat_lt (length (said.1).bits) (WORD_BITS * said.0) then Err (BadBlockLength entered said.0)
          else Ok (record { block = block.0; width = width.0; begins = (said.1).at; said = said.0 }, said.1))) else Err (BadOperands entered)

-- numbers that were read stand behind others, or the fault stays
abbrev pub prefixed : {A : Type 0} → List A → Result (List A × Input) BitFault → Result (List A × Input) BitFault
prefixed xs (Ok r) = Ok (xs ++ r.0, r.1)
prefixed xs (Err e) = Err e

-- as many numbers as are counted, each as the operand says
abbrev pub numbers_at : ℕ → AbbrevOp → Input → Result (List ℕ × Input) BitFault
numbers_at zero op p = Ok ([], p)
numbers_at (suc n) op p = do
  x ← scalar_at op p
  prefixed (x.0 ∷ []) (numbers_at n op x.1)

-- What a call gave, with the place behind it, is what reading gives, or memory was wanted.
abbrev pub GivesList : {A : Type 0} → Input → Result (Vec A) BitFault → Result (List A × Input) BitFault → Type 0
GivesList behind (Ok v) read = read ≡ Ok (v.items, behind)
GivesList behind (Err e) read = e ≢ NoMemory → read ≡ Err e

-- the same of a call that leaves the list elsewhere
abbrev pub GivesInto : {A : Type 0} → Input → List A → Result (Unit {0}) BitFault → Result (List A × Input) BitFault → Type 0
GivesInto behind list (Ok v) read = read ≡ Ok (list, behind)
GivesInto behind list (Err e) read = e ≢ NoMemory → read ≡ Err e

-- the operand that the elements of an array have, which stands behind it
abbrev pub element_of : List AbbrevOp → AbbrevOp
element_of [] = Char6
element_of (op ∷ ops) = op

-- the numbers of a record, and its blob
pub record Values : Type 0 where
  pub numbers : List ℕ
  pub blob : Option (List ℕ)

-- numbers stand before those that were read, or the fault stays
abbrev pub behind_numbers : List ℕ → Result (Values × Input) BitFault → Result (Values × Input) BitFault
behind_numbers xs (Ok r) = Ok (record { numbers = xs ++ (r.0).numbers; blob = (r.0).blob }, r.1)
behind_numbers xs (Err e) = Err e

abbrev pub is_array : AbbrevOp → Bool
is_array Array = true
is_array Blob = false
is_array (Literal n) = false
is_array (Fixed w) = false
is_array (Vbr w) = false
is_array Char6 = false

abbrev pub is_blob : AbbrevOp → Bool
is_blob Array = false
is_blob Blob = true
is_blob (Literal n) = false
is_blob (Fixed w) = false
is_blob (Vbr w) = false
is_blob Char6 = false

-- a length, and as many numbers
unfoldable pub array_at : List AbbrevOp → Input → Result (List ℕ × Input) BitFault
array_at ops p = do
  count ← vbr_at RECORD_WIDTH p
  numbers_at count.0 (element_of ops) count.1

abbrev pub numbers_alone : Result (List ℕ × Input) BitFault → Result (Values × Input) BitFault
numbers_alone (Ok xs) = Ok (record { numbers = xs.0; blob = None }, xs.1)
numbers_alone (Err e) = Err e

abbrev pub blob_alone : Result (List ℕ × Input) BitFault → Result (Values × Input) BitFault
blob_alone (Ok bytes) = Ok (record { numbers = []; blob = Some bytes.0 }, bytes.1)
blob_alone (Err e) = Err e

-- a record by an abbreviation with these operands: a number for each, those of an array, or a blob
abbrev pub values_at : List AbbrevOp → Input → Result (Values × Input) BitFault
values_at [] p = Ok (record { numbers = []; blob = None }, p)
values_at (op ∷ ops) p = if is_array op then numbers_alone (array_at ops p) else if is_blob op then blob_alone (blob_at p) else (do
  x ← scalar_at op p
  behind_numbers (x.0 ∷ []) (values_at ops x.1))

abbrev pub slice_seen : Option (Bor (List ℕ)) → Option (List ℕ)
slice_seen (Some s) = Some s.now
slice_seen None = None

-- What a call gave, with the numbers that it left and the place behind it, is what reading gives, or memory was wanted.
abbrev pub GivesValues : Input → List ℕ → Result (Option (Bor (List ℕ))) BitFault → Result (Values × Input) BitFault → Type 0
GivesValues behind numbers (Ok blob) read = read ≡ Ok (record { numbers = numbers; blob = slice_seen blob }, behind)
GivesValues behind numbers (Err e) read = e ≢ NoMemory → read ≡ Err e

-- One operand of a definition that began at `entered`: a literal, or an encoding with its width where it has one.
-- A width that no operand may have is told at once.
unfoldable pub encoded_at : ℕ → ℕ → ℕ → Input → Result (AbbrevOp × Input) BitFault
encoded_at entered at e p =
    if e == ENCODING_FIXED then (do
      w ← vbr_at ABBREV_WIDTH p
      if nat_lt MOST_FIXED_WIDTH w.0 then Err (BadOperands entered) else Ok (Fixed w.0, w.1))
    else if e == ENCODING_VBR then (do
      w ← vbr_at ABBREV_WIDTH p
      if w.0 == 1 then Err (BadOperands entered) else if nat_lt MOST_VBR_WIDTH w.0 then Err (BadOperands entered) else Ok (Vbr w.0, w.1))
    else if e == ENCODING_ARRAY then Ok (Array, p)
    else if e == ENCODING_CHAR6 then Ok (Char6, p)
    else if e == ENCODING_BLOB then Ok (Blob, p)
    else Err (BadEncoding at e)

unfoldable pub op_at : ℕ → Input → Result (AbbrevOp × Input) BitFault
op_at entered p = do
  flag ← fixed_at 1 p
  if (flag.0 == 1) then (do
    v ← vbr_at LITERAL_WIDTH flag.1
    Ok (Literal v.0, v.1)) else (do
      e ← fixed_at ENCODING_WIDTH flag.1
      encoded_at entered (flag.1).at e.0 e.1)

-- whether an operand may be an array's elements' one
abbrev pub is_element_op : AbbrevOp → Bool
is_element_op (Literal n) = false
is_element_op (Fixed w) = nat_lt 0 w
is_element_op (Vbr w) = nat_lt 0 w
is_element_op Array = false
is_element_op Char6 = true
is_element_op Blob = false

-- Whether an operand may stand where it does: behind an array its elements' one; an array last but one and a blob last, neither first.
abbrev pub may_stand : Bool → Bool → ℕ → AbbrevOp → Bool
may_stand first true more op = is_element_op op
may_stand first false more Array = not first && more == 1
may_stand first false more Blob = not first && more == 0
may_stand first false more (Literal n) = true
may_stand first false more (Fixed w) = true
may_stand first false more (Vbr w) = true
may_stand first false more Char6 = true

-- the operands of a definition that began at `entered`: each is judged before the next one is read
abbrev pub ops_at : ℕ → ℕ → Bool → Bool → Input → Result (List AbbrevOp × Input) BitFault
ops_at entered zero first in_array p = Ok ([], p)
ops_at entered (suc n) first in_array p = do
  op ← op_at entered p
  if may_stand first in_array n op.0 then prefixed (op.0 ∷ []) (ops_at entered n false (is_array op.0) op.1) else Err (BadOperands entered)

unfoldable pub definition_at : ℕ → Input → Result (List AbbrevOp × Input) BitFault
definition_at entered p = do
  count ← vbr_at ABBREV_WIDTH p
  if count.0 == 0 then Err (BadOperands entered) else ops_at entered count.0 true false count.1

-- an id of w bits stands at the first place, then a code and a count, and the last place is behind these
abbrev pub HasHead : ℕ → Input → ℕ → ℕ → ℕ → Input → Type 0
HasHead w p id code count q = (a : Input) × (b : Input) × (fixed_at w p ≡ Ok (id, a)) × (vbr_at RECORD_WIDTH a ≡ Ok (code, b)) × (vbr_at RECORD_WIDTH b ≡ Ok (count, q))
