use Rattle.bitstream.proofs.SpellingLaws.{fixed-again}
use Rattle.bitstream.proofs.laws.fixed_is_read_back.Goals as goal

pub returns : goal.returns
returns c = fixed-again
