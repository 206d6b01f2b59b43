use Rattle.std.proofs.Common.{◌≡◌}
use Rattle.std.specs.Vec.Iter.{into_iter_items}
use Rattle.checks.specs.Logs.{made}
use Rattle.expr_check.specs.Messages.{orders}
use Rattle.expr_check.specs.Types.{look_up}
use Rattle.expr_check.proofs.types.look_up.Given as goal

abbrev pub invariant-loop-key : goal.invariant-loop-key
invariant-loop-key g l =
    let answers = g.A.Answers.meanings l.answers in
    made orders answers (look_up (into_iter_items l.key-iterator)) l.log ≡ made orders answers (look_up l.fn.keys.items) l.fn.log
