use Rattle.bitstream.proofs.StandLaws.{stands-read}
use Rattle.bitstream.proofs.laws.what_is_written_is_read.Goals as goal

pub returns : goal.returns
returns c = stands-read
