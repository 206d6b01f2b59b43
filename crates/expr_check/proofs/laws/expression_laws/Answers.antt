use Rattle.checks.proofs.Made.{made_alike}
use Rattle.expr_check.specs.Messages.{orders}
use Rattle.expr_check.specs.Phrases.{expr_phrase}
use Rattle.expr_check.proofs.laws.expression_laws.Goals as goal

pub returns : goal.returns
returns c = λ meanings others tree s log h. made_alike orders meanings others ((expr_phrase tree).check s) log h
