use Rattle.waves.proofs.PrintLists.{lists-equal}
use Rattle.waves.proofs.print_laws.Goals as goal

pub returns : goal.returns
returns g c = record { equal = lists-equal }
