use Rattle.std.proofs.Common.{◌≡◌, drop}
use Rattle.checks.specs.Checks.{found, grouped}
use Rattle.checks.specs.Logs.{made}
use Rattle.expr_check.specs.Messages.{orders}
use Rattle.expr_check.specs.Expressions.{binary}
use Rattle.expr_tree.specs.Fronts.{checks_in, sum_operands}
use Rattle.expr_tree.proofs.trees.Trees.sum_behind.Given as goal

abbrev pub invariant-loop-operator : goal.invariant-loop-operator
invariant-loop-operator g l =
    let meanings = g.A.Answers.meanings l.self.answers.now in
    made orders meanings (grouped binary (found l.left) (checks_in l.self.scope.now (sum_operands (drop l.operator-index l.more)))) l.log ≡ made orders meanings (grouped binary (found l.fn.first) (checks_in l.self.scope.now (sum_operands l.more))) l.fn.log
