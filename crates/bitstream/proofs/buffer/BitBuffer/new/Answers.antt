use Rattle.std.proofs.Common.{refl}
use Rattle.bitstream.specs.Writing.{written_of}
use Rattle.bitstream.proofs.buffer.BitBuffer.new.Goals as goal

pub returns : goal.returns
unfolding written_of
returns c = rw c.new.ensures.items refl
