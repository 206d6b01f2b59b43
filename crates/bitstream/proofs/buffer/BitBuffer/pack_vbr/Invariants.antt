use Rattle.std.proofs.Common.{◌≡◌, ◌++◌}
use Rattle.bitstream.specs.Buffer.{bits_in, packed_bits}
use Rattle.bitstream.specs.Writing.{vbr_bits, Grows}
use Rattle.bitstream.proofs.buffer.BitBuffer.pack_vbr.Given as goal

abbrev pub invariant-each : goal.invariant-each
invariant-each l = record {
  kept : Grows l.fn.self.bytes.items l.self.bytes.items;
  made : bits_in l.self ++ packed_bits l.packed ++ vbr_bits l.width l.rest ≡ bits_in l.fn.self ++ packed_bits l.fn.first ++ vbr_bits l.width l.value;
}

abbrev pub decreases-each : goal.decreases-each
decreases-each l = l.rest
