use Rattle.swiftdeps.proofs.FrontLaws.{first-fault}
use Rattle.swiftdeps.proofs.laws.no_accepted_list_goes_on_at_the_first_fault.Goals as goal

pub returns : goal.returns
returns c = first-fault
