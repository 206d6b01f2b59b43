use Rattle.std.proofs.Common.{◌≡◌, ◌*◌, length}
use Rattle.bitstream.specs.Reader.{reading}
use Rattle.bitstream.specs.Items.{items_of, total_bits}
use Rattle.swiftdeps.specs.Collected.{state}
use Rattle.swiftdeps.specs.Judging.{items_judged}
use Rattle.swiftdeps.specs.Streams.{stream_judged}
use Rattle.swiftdeps.proofs.stream.read.Given as goal

abbrev pub invariant-each : goal.invariant-each
invariant-each l = record {
  bits : total_bits (reading l.reader) ≡ 8 * length l.bytes;
  read : items_judged l.is_single (8 * length l.bytes) (items_of (reading l.reader)).0 (items_of (reading l.reader)).1 (state l.collected) ≡ stream_judged l.is_single l.bytes;
}

abbrev pub decreases-each : goal.decreases-each
decreases-each l = length (items_of (reading l.reader)).0
