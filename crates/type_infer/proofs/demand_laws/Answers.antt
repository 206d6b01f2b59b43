use Rattle.type_infer.proofs.Demanded.{asked-needed, all-known}
use Rattle.type_infer.proofs.demand_laws.Goals as goal

pub returns-clause-needed : goal.returns-clause-needed
returns-clause-needed c = asked-needed

pub returns-clause-ends : goal.returns-clause-ends
returns-clause-ends c = all-known
