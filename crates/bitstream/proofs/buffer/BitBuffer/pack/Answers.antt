use Rattle.std.proofs.Common.{◌++◌}
use Rattle.bitstream.proofs.buffer.BitBuffer.pack.Goals as goal

pub returns-clause-ok : goal.returns-clause-ok
returns-clause-ok c = λ i. c.in_ok-push_packed.ensures.ok i ++ c.new.ensures i
