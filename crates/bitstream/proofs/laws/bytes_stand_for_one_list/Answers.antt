use Rattle.bitstream.proofs.StandLaws.{stands-once}
use Rattle.bitstream.proofs.laws.bytes_stand_for_one_list.Goals as goal

pub returns : goal.returns
returns c = stands-once
