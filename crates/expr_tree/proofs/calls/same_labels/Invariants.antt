use Rattle.std.proofs.Common.{◌≡◌, drop}
use Rattle.expr_check.specs.Expressions.{same_labels}
use Rattle.expr_tree.specs.Callees.{givens_view}
use Rattle.expr_tree.proofs.calls.same_labels.Given as goal

abbrev pub invariant-loop-given : goal.invariant-loop-given
invariant-loop-given l = same_labels l.rest (givens_view (drop l.given-index l.givens)) ≡ same_labels l.fn.params (givens_view l.givens)
