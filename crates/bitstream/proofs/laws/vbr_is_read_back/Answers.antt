use Rattle.bitstream.proofs.SpellingLaws.{vbr-written}
use Rattle.bitstream.proofs.laws.vbr_is_read_back.Goals as goal

pub returns : goal.returns
returns c = vbr-written
