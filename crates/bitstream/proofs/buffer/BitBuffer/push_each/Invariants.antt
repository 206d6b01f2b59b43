use Rattle.std.proofs.Common.{◌≡◌, ◌++◌, drop}
use Rattle.bitstream.specs.Bits.{bits_of}
use Rattle.bitstream.specs.Buffer.{bits_in}
use Rattle.bitstream.specs.Writing.{Grows}
use Rattle.bitstream.proofs.buffer.BitBuffer.push_each.Given as goal

abbrev pub invariant-loop-byte : goal.invariant-loop-byte
invariant-loop-byte l = record {
  kept : Grows l.fn.self.bytes.items l.self.bytes.items;
  made : bits_in l.self ++ bits_of (drop l.byte-index l.bytes) ≡ bits_in l.fn.self ++ bits_of l.bytes;
}
