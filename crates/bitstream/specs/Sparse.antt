-- Records of which many numbers take no bits: the numbers that take some, and all of them.
use Rattle.std.specs.Prelude.{ℕ, nat_lt, if◌then◌else◌, Bool, true, false, List, [], ◌∷◌, Result, Ok, Err}
use Rattle.bitstream.specs.declared.item.BitFault.{BitFault}
use Rattle.bitstream.specs.declared.item.AbbrevOp.{AbbrevOp}
use Rattle.bitstream.specs.declared.item.AbbrevOp.TheVariants.{Literal, Fixed, Vbr, Array, Char6, Blob}
use Rattle.bitstream.specs.Fields.{Input}
use Rattle.bitstream.specs.Stream.{is_array, is_blob, Values}

-- Whether an operand takes bits in a record; an array and a blob do, for their length.
abbrev pub takes_bits : AbbrevOp → Bool
takes_bits (Literal n) = false
takes_bits (Fixed w) = nat_lt 0 w
takes_bits (Vbr w) = nat_lt 0 w
takes_bits Array = true
takes_bits Char6 = true
takes_bits Blob = true

-- The operands that take bits in a record; those from an array or a blob on stay together.
abbrev pub ops_in_bits : List AbbrevOp → List AbbrevOp
ops_in_bits [] = []
ops_in_bits (op ∷ ops) = if is_array op then op ∷ ops else if is_blob op then op ∷ ops else if takes_bits op then op ∷ ops_in_bits ops else ops_in_bits ops

-- the number of an operand that takes no bits
abbrev pub free_number : AbbrevOp → ℕ
free_number (Literal n) = n
free_number (Fixed w) = 0
free_number (Vbr w) = 0
free_number Array = 0
free_number Char6 = 0
free_number Blob = 0

-- the first of some numbers, and what is made of the others
abbrev pub first_and : List ℕ → (List ℕ → List ℕ) → List ℕ
first_and [] rest = []
first_and (n ∷ ns) rest = n ∷ rest ns

-- All numbers of a record, of which these take bits.
abbrev pub filled : List AbbrevOp → List ℕ → List ℕ
filled [] in_bits = []
filled (op ∷ ops) in_bits =
    if is_array op then in_bits else if is_blob op then in_bits
    else if takes_bits op then first_and in_bits (filled ops) else free_number op ∷ filled ops in_bits

-- the same of what was read
abbrev pub filled_values : List AbbrevOp → Result (Values × Input) BitFault → Result (Values × Input) BitFault
filled_values ops (Ok r) = Ok (record { numbers = filled ops (r.0).numbers; blob = (r.0).blob }, r.1)
filled_values ops (Err e) = Err e
