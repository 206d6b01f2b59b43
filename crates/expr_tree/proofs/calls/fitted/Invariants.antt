use Rattle.std.proofs.Common.{◌≡◌, length}
use Rattle.std.specs.Vec.Iter.{into_iter_items, into_iter_len}
use Rattle.checks.specs.Checks.{all, all_behind}
use Rattle.checks.specs.Logs.{made}
use Rattle.expr_check.specs.Messages.{orders}
use Rattle.expr_check.specs.Expressions.{fitted}
use Rattle.expr_tree.specs.Callees.{givens_view, values_view}
use Rattle.expr_tree.proofs.calls.fitted.Given as goal

abbrev pub invariant-loop-given : goal.invariant-loop-given
invariant-loop-given g l =
    let answers = g.A.Answers.meanings l.answers in
    (made orders answers (all_behind (values_view l.values) (fitted l.rest (givens_view (into_iter_items l.given-iterator)))) l.log ≡ made orders answers (all (fitted l.fn.params (givens_view l.fn.givens.items))) l.fn.log)
    × (into_iter_len l.given-iterator ≡ length (into_iter_items l.given-iterator))
