use Rattle.expr_check.proofs.ExampleLemmas.{worked}
use Rattle.expr_check.proofs.laws.worked_expressions.Goals as goal

pub returns : goal.returns
returns c = worked
