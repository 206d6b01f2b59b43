use Rattle.std.proofs.Common.{sym, ap, ◌∙◌}
use Rattle.checks.specs.Logs.{made}
use Rattle.expr_check.specs.Messages.{orders}
use Rattle.expr_check.specs.Phrases.{as_value}
use Rattle.expr_tree.specs.Fronts.{front_view}
use Rattle.expr_tree.proofs.MemberLemmas.{member_is_made}
use Rattle.expr_tree.proofs.postfixes.as_value.Goals as goal

pub returns-in_ok-value-in-MemberOf : goal.returns-in_ok-value-in-MemberOf
returns-in_ok-value-in-MemberOf g c =
    member_is_made orders (g.A.Answers.meanings c.args.answers.now) c.args.scope.now c.args.first.now _ _ _ _ _ _ c.of-at.ensures c.in_ok-value-in-MemberOf.ensures
    ∙ ap (λ f. made orders (g.A.Answers.meanings c.args.answers.now) (as_value c.args.scope.now c.args.first.now (front_view f)) c.args.log.now) (sym c.in-MemberOf.is)
