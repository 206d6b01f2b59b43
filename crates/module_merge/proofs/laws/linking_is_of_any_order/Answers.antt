use Rattle.module_merge.proofs.TextLawLemmas.{linking_moved, end_moved}
use Rattle.module_merge.proofs.laws.linking_is_of_any_order.Goals as goal

pub returns-clause-linked : goal.returns-clause-linked
returns-clause-linked c = linking_moved

pub returns-clause-ends : goal.returns-clause-ends
returns-clause-ends c = end_moved
