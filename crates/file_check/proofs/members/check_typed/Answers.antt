use Rattle.std.proofs.Common.{◌∙◌, Some, ap, sym}
use Rattle.checks.specs.Logs.{made_then}
use Rattle.expr_check.specs.Phrases.{expr_phrase}
use Rattle.body_check.specs.Declarations.{own_code}
use Rattle.file_check.specs.Members.{written_value}
use Rattle.file_check.proofs.MemberLemmas.{mapped_run}
use Rattle.file_check.proofs.members.check_typed.Goals as goal

pub returns : goal.returns
returns g c =
    let meanings = g.A.Answers.meanings c.args.answers.now in
    let check = written_value c.args.site.now c.args.key.now c.args.t.now (expr_phrase c.args.value.now) in
    ap (λ i. (Some i, c.check_written.new.log)) c.own_code.ensures
    ∙ ap (λ m. made_then m (λ v log. (Some (own_code v), log))) c.in_ok-got.ensures
    ∙ sym (mapped_run meanings own_code check c.args.log.now)
