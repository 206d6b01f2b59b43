use Rattle.bitstream.proofs.StandLaws.{read-stands}
use Rattle.bitstream.proofs.laws.what_is_read_is_written.Goals as goal

pub returns : goal.returns
returns c = read-stands
