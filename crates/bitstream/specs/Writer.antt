-- What a writer has written, and what each call adds.
use Rattle.std.specs.Prelude.{◌≡◌, ℕ, ◌+◌, ◌-◌, ◌*◌, ◌/◌, ◌≤◌, Bool, true, false, List, [], ◌∷◌, ◌++◌, length, drop, take, nat_le, Some, slice_get, ◌&&◌, ◌||◌, ◌==◌}
use Rattle.bitstream.specs.declared.codes.TheConstants.{FIRST_APPLICATION_ABBREV, OUTER_ID_WIDTH, BLOCK_SIZE_WIDTH, MOST_FIXED_WIDTH, MOST_VBR_WIDTH}
use Rattle.bitstream.specs.declared.item.AbbrevOp.{AbbrevOp}
use Rattle.bitstream.specs.declared.item.AbbrevOp.TheVariants.{Literal, Fixed, Vbr, Array, Char6, Blob}
use Rattle.bitstream.specs.declared.writer.BitWriter.{BitWriter}
use Rattle.bitstream.specs.declared.writer.OpenBlock.{OpenBlock}
use Rattle.bitstream.specs.Buffer.{bits_in}
use Rattle.bitstream.specs.Entries.{end_bits, enter_bits, definition_bits, record_bits, blob_bits}

-- The bits so far, with zeros in the length field of each open block; the width of ids; the abbreviations of
-- the open blocks, and how many of them the outer ones have; and the open blocks, the innermost last.
pub record Writing : Type 0 where
  pub bits : List Bool
  pub width : ℕ
  pub abbrevs : List (List AbbrevOp)
  pub first : ℕ
  pub blocks : List OpenBlock

abbrev pub writing : BitWriter → Writing
writing w = record { bits = bits_in w.buffer; width = w.width; abbrevs = w.abbrevs.items; first = w.first; blocks = w.blocks.items }

abbrev pub nothing_written : Writing
nothing_written = record { bits = []; width = OUTER_ID_WIDTH; abbrevs = []; first = 0; blocks = [] }

abbrev pub with_bits : List Bool → Writing → Writing
with_bits bs s = record s { bits = s.bits ++ bs }

-- A block begins. It has no abbreviations yet, and what the outer block had comes back at its end.
abbrev pub entered : ℕ → ℕ → Writing → Writing
entered block width s =
    let bs = enter_bits s.width block width s.bits in
    record {
      bits = bs;
      width = width;
      abbrevs = s.abbrevs;
      first = length s.abbrevs;
      blocks = s.blocks ++ record { outer_width = s.width; outer_first = s.first; length_at = (length bs - BLOCK_SIZE_WIDTH) / 8 } ∷ [];
    }

-- The innermost block ends.
pub record EndsBlock (old new : Writing) : Type 0 where
  pub block : OpenBlock
  pub outer : List OpenBlock
  pub innermost : old.blocks ≡ outer ++ block ∷ []
  pub left : new ≡ record {
    bits = end_bits old.width (8 * block.length_at) old.bits;
    width = block.outer_width;
    abbrevs = take old.first old.abbrevs;
    first = block.outer_first;
    blocks = outer;
  }

-- the id that the next definition of the open block gets
abbrev pub next_id : Writing → ℕ
next_id s = FIRST_APPLICATION_ABBREV + (length s.abbrevs - s.first)

abbrev pub defined : List AbbrevOp → Writing → Writing
defined ops s = record s { bits = definition_bits s.width ops s.bits; abbrevs = s.abbrevs ++ ops ∷ [] }

abbrev pub recorded : ℕ → List ℕ → Writing → Writing
recorded code ops s = record s { bits = record_bits s.width code ops s.bits }

abbrev pub with_blob : ℕ → List ℕ → Writing → Writing
with_blob id blob s = record s { bits = blob_bits s.width id blob s.bits }

-- the id is that of an abbreviation of the open block that has a literal and a blob
abbrev pub IsBlobId : ℕ → Writing → Type 0
IsBlobId id s = (code : ℕ) × (FIRST_APPLICATION_ABBREV ≤ id) × (slice_get (drop s.first s.abbrevs) (id - FIRST_APPLICATION_ABBREV) ≡ Some (Literal code ∷ Blob ∷ []))

-- an operand that may stand alone, and one that the elements of an array may have
abbrev pub is_scalar : AbbrevOp → Bool
is_scalar (Literal n) = true
is_scalar (Fixed w) = nat_le w MOST_FIXED_WIDTH
is_scalar (Vbr w) = w == 0 || nat_le 2 w && nat_le w MOST_VBR_WIDTH
is_scalar Array = false
is_scalar Char6 = true
is_scalar Blob = false

abbrev pub is_element : AbbrevOp → Bool
is_element (Literal n) = false
is_element (Fixed w) = nat_le 1 w && nat_le w MOST_FIXED_WIDTH
is_element (Vbr w) = nat_le 2 w && nat_le w MOST_VBR_WIDTH
is_element Array = false
is_element Char6 = true
is_element Blob = false

-- An array stands last but one, with its elements' operand behind it, and a blob last.
abbrev pub is_rest : List AbbrevOp → Bool
is_rest [] = true
is_rest (Blob ∷ []) = true
is_rest (Array ∷ element ∷ []) = is_element element
is_rest (op ∷ ops) = is_scalar op && is_rest ops

-- a list of operands that a definition may have: the first is neither an array nor a blob
abbrev pub is_definition : List AbbrevOp → Bool
is_definition [] = false
is_definition (op ∷ ops) = is_scalar op && is_rest ops
