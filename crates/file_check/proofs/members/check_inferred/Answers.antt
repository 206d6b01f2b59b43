use Rattle.std.proofs.Common.{◌∙◌, Some, ap, sym}
use Rattle.checks.specs.Logs.{made_then}
use Rattle.expr_check.specs.Phrases.{expr_phrase}
use Rattle.body_check.specs.Declarations.{own_code}
use Rattle.file_check.proofs.MemberLemmas.{inferred_run}
use Rattle.file_check.proofs.members.check_inferred.Goals as goal

pub returns : goal.returns
returns g c =
    let meanings = g.A.Answers.meanings c.args.answers.now in
    let value = expr_phrase c.args.value.now in
    ap (λ i. (Some i, c.value_wanted.new.log)) c.own_code.ensures
    ∙ ap (λ m. made_then m (λ v log. (Some (own_code v), log))) c.in_ok-got.ensures
    ∙ sym (inferred_run meanings c.args.site.now c.args.key.now value c.args.log.now)
