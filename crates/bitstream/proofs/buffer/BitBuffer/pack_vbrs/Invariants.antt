use Rattle.std.proofs.Common.{◌≡◌, ◌++◌, drop}
use Rattle.std.specs.List.{flat_map}
use Rattle.bitstream.specs.Buffer.{bits_in, packed_bits}
use Rattle.bitstream.specs.Writing.{vbr_bits, Grows}
use Rattle.bitstream.proofs.buffer.BitBuffer.pack_vbrs.Given as goal

abbrev pub invariant-loop-number : goal.invariant-loop-number
invariant-loop-number l = record {
  kept : Grows l.fn.self.bytes.items l.self.bytes.items;
  made : bits_in l.self ++ packed_bits l.packed ++ flat_map (vbr_bits l.width) (drop l.number-index l.numbers) ≡ bits_in l.fn.self ++ packed_bits l.fn.first ++ flat_map (vbr_bits l.width) l.numbers;
}
