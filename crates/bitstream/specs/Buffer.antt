-- The bits in a buffer, and those that are joined before they are written.
use Rattle.std.specs.Prelude.{List, Bool}
use Rattle.bitstream.specs.declared.buffer.BitBuffer.{BitBuffer}
use Rattle.bitstream.specs.declared.packed.Packed.{Packed}
use Rattle.bitstream.specs.Bits.{bits}
use Rattle.bitstream.specs.Writing.{written_of}

-- the bits so far
abbrev pub bits_in : BitBuffer → List Bool
bits_in b = written_of b.bytes.items b.count b.pending

-- the bits that are joined
abbrev pub packed_bits : Packed → List Bool
packed_bits p = bits p.width p.value
