use Rattle.bitstream.proofs.FrontLaws.{first-fault}
use Rattle.bitstream.proofs.laws.no_front_goes_on_at_the_first_fault.Goals as goal

pub returns : goal.returns
returns c = first-fault
