use Rattle.std.proofs.Common.{sym, ap, ◌∙◌}
use Rattle.expr_check.specs.Messages.{orders}
use Rattle.checks.specs.Checks.{found}
use Rattle.checks.specs.Logs.{made}
use Rattle.expr_check.specs.Phrases.{MemberOf, as_callee}
use Rattle.expr_tree.specs.Fronts.{front_view}
use Rattle.expr_tree.proofs.MemberLemmas.{callee_is_made}
use Rattle.expr_tree.proofs.postfixes.as_callee.Goals as goal

pub returns-in_ok-callee-in-Some-base : goal.returns-in_ok-callee-in-Some-base
returns-in_ok-callee-in-Some-base g c =
    callee_is_made orders (g.A.Answers.meanings c.args.answers.now) c.args.scope.now c.args.first.now _ _ _ _ _ _ c.of-first.ensures c.in_ok-callee-in-Some-base.ensures
    ∙ ap (λ b. made orders (g.A.Answers.meanings c.args.answers.now) (as_callee c.args.scope.now c.args.first.now (MemberOf (found b) c.in-MemberOf.m.now)) c.args.log.now) (sym c.in-Some-base.is)
    ∙ ap (λ f. made orders (g.A.Answers.meanings c.args.answers.now) (as_callee c.args.scope.now c.args.first.now (front_view f)) c.args.log.now) (sym c.in-MemberOf.is)
