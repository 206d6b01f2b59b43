-- The entries of a stream as they are written behind the bits before them.
use Rattle.std.specs.Prelude.{ℕ, ◌+◌, ◌-◌, ◌/◌, ◌%◌, ◌^◌, List, Bool, ◌++◌, length}
use Rattle.std.specs.List.{flat_map}
use Rattle.bitstream.specs.declared.codes.TheConstants.{END_BLOCK, ENTER_SUBBLOCK, DEFINE_ABBREV, UNABBREV_RECORD, BLOCK_ID_WIDTH, CODE_LEN_WIDTH, BLOCK_SIZE_WIDTH, WORD_BITS, RECORD_WIDTH, ABBREV_WIDTH}
use Rattle.bitstream.specs.declared.item.AbbrevOp.{AbbrevOp}
use Rattle.bitstream.specs.Bits.{bits, bits_of}
use Rattle.bitstream.specs.Writing.{vbr_bits, op_bits, aligned, with_field}

-- END_BLOCK: its id, up to the next word. The length field at `at` gets the number of words behind it, modulo 2 ^ 32.
unfoldable pub end_bits : ℕ → ℕ → List Bool → List Bool
end_bits width at before = let all = aligned (before ++ bits width END_BLOCK) in with_field at ((length all - (at + BLOCK_SIZE_WIDTH)) / WORD_BITS % 2 ^ BLOCK_SIZE_WIDTH) all

-- ENTER_SUBBLOCK: its id, the block's number, its width, up to the next word, and a length field that is filled at the end
unfoldable pub enter_bits : ℕ → ℕ → ℕ → List Bool → List Bool
enter_bits id_width block width before = aligned (before ++ bits id_width ENTER_SUBBLOCK ++ vbr_bits BLOCK_ID_WIDTH block ++ vbr_bits CODE_LEN_WIDTH width) ++ bits BLOCK_SIZE_WIDTH 0

-- DEFINE_ABBREV: its id, how many operands there are, and each
unfoldable pub definition_bits : ℕ → List AbbrevOp → List Bool → List Bool
definition_bits width ops before = before ++ bits width DEFINE_ABBREV ++ vbr_bits ABBREV_WIDTH (length ops) ++ flat_map op_bits ops

-- UNABBREV_RECORD: its id, the code, how many operands there are, and each
unfoldable pub record_bits : ℕ → ℕ → List ℕ → List Bool → List Bool
record_bits width code ops before = before ++ bits width UNABBREV_RECORD ++ vbr_bits RECORD_WIDTH code ++ vbr_bits RECORD_WIDTH (length ops) ++ flat_map (vbr_bits RECORD_WIDTH) ops

-- A record by an abbreviation of a literal and a blob: its id, how many bytes there are, and these between two alignments
unfoldable pub blob_bits : ℕ → ℕ → List ℕ → List Bool → List Bool
blob_bits width id blob before = aligned (aligned (before ++ bits width id ++ vbr_bits RECORD_WIDTH (length blob)) ++ bits_of blob)
