use Rattle.std.proofs.Common.{refl}
use Rattle.swiftdeps.specs.Streams.{stream_judged}
use Rattle.swiftdeps.proofs.stream.read.Goals as goal

pub each-init : goal.each-init
unfolding stream_judged
each-init c = record { bits = c.new-reader.ensures.total; read = rw (c.new-reader.ensures.items, c.in_ok-collected.ensures) refl }
