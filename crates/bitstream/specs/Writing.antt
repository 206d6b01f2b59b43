-- The bits that numbers, bytes and parts of abbreviations are written in.
use Rattle.std.specs.Prelude.{◌≡◌, ℕ, zero, suc, ◌+◌, ◌-◌, ◌%◌, ◌^◌, ◌/◌, nat_lt, if◌then◌else◌, List, Bool, ◌++◌, length, take, drop}
use Rattle.bitstream.specs.declared.codes.TheConstants.{BLOCK_SIZE_WIDTH, WORD_BITS, ABBREV_WIDTH, LITERAL_WIDTH, ENCODING_WIDTH, ENCODING_FIXED, ENCODING_VBR, ENCODING_ARRAY, ENCODING_CHAR6, ENCODING_BLOB}
use Rattle.bitstream.specs.declared.item.AbbrevOp.{AbbrevOp}
use Rattle.bitstream.specs.declared.item.AbbrevOp.TheVariants.{Literal, Fixed, Vbr, Array, Char6, Blob}
use Rattle.bitstream.specs.Bits.{bits, bits_of}

-- the bits of whole bytes, and then some pending ones
unfoldable pub written_of : List ℕ → ℕ → ℕ → List Bool
written_of bytes count pending = bits_of bytes ++ bits count pending

-- a number in groups of w bits, with fuel for more of them than it needs
abbrev pub groups_of : ℕ → ℕ → ℕ → List Bool
groups_of zero w n = bits w n
groups_of (suc fuel) w n = if nat_lt n (2 ^ (w - 1)) then bits w n else bits w (2 ^ (w - 1) + n % 2 ^ (w - 1)) ++ groups_of fuel w (n / 2 ^ (w - 1))

-- a number in as few groups of w bits as hold it
unfoldable pub vbr_bits : ℕ → ℕ → List Bool
vbr_bits w n = groups_of n w n

-- a clear bit and an encoding of three bits
abbrev pub encoding : ℕ → List Bool
encoding e = bits 1 0 ++ bits ENCODING_WIDTH e

-- One operand of a definition: a set bit and its literal, or its encoding, with its width where it has one.
abbrev pub op_bits : AbbrevOp → List Bool
op_bits (Literal n) = bits 1 1 ++ vbr_bits LITERAL_WIDTH n
op_bits (Fixed w) = encoding ENCODING_FIXED ++ vbr_bits ABBREV_WIDTH w
op_bits (Vbr w) = encoding ENCODING_VBR ++ vbr_bits ABBREV_WIDTH w
op_bits Array = encoding ENCODING_ARRAY
op_bits Char6 = encoding ENCODING_CHAR6
op_bits Blob = encoding ENCODING_BLOB

-- how many bits there are from a position to the next word
abbrev pub pad_of : ℕ → ℕ
pad_of at = (WORD_BITS - at % WORD_BITS) % WORD_BITS

-- zeros up to the next word
unfoldable pub aligned : List Bool → List Bool
aligned bs = bs ++ bits (pad_of (length bs)) 0

-- a block's length in the bits from a position on
unfoldable pub with_field : ℕ → ℕ → List Bool → List Bool
with_field at n bs = take at bs ++ (bits BLOCK_SIZE_WIDTH n ++ drop (at + BLOCK_SIZE_WIDTH) bs)

-- bytes were only added
abbrev pub Grows : List ℕ → List ℕ → Type 0
Grows old new = (more : List ℕ) × (new ≡ old ++ more)
