use Rattle.std.proofs.Common.{◌∙◌, Some, ap, sym}
use Rattle.checks.specs.Checks.{sure, go_on}
use Rattle.checks.specs.Logs.{made}
use Rattle.expr_check.specs.Messages.{orders}
use Rattle.expr_check.specs.Phrases.{expr_phrase}
use Rattle.expr_check.specs.Types.{type_written}
use Rattle.file_check.specs.Runs.{run, valued_by}
use Rattle.file_check.proofs.MemberLemmas.{written_run}
use Rattle.file_check.proofs.members.check_written.Goals as goal

pub returns : goal.returns
returns g c =
    let meanings = g.A.Answers.meanings c.args.answers.now in
    let f = c.args.site.now in
    let key = c.args.key.now in
    let t = c.args.t.now in
    let value = expr_phrase c.args.value.now in
    let log = c.args.log.now in
    c.in_ok-got.ensures
    ∙ ap (λ m. run meanings (valued_by f key m.0 value) m.1) (c.in_ok-wanted.ensures ∙ ap (λ s. made orders meanings (go_on (type_written s t.name) (λ of. sure (Some of))) log) c.in_ok-scope.ensures)
    ∙ sym (written_run meanings f key t value log)
