use Rattle.grammar.proofs.Wholes.{one_whole, no_fault, one_fault}
use Rattle.grammar.proofs.whole_laws.Goals as goal

pub returns-clause-one_tree : goal.returns-clause-one_tree
returns-clause-one_tree g c = λ f one ts v w. one_whole f ts one v w

pub returns-clause-never_both : goal.returns-clause-never_both
returns-clause-never_both g c = λ f ts rest w r. no_fault f ts rest w r

pub returns-clause-one_fault : goal.returns-clause-one_fault
returns-clause-one_fault g c = λ f ts rest other r s. one_fault f ts rest other r s
