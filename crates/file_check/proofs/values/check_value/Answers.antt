use Rattle.std.proofs.Common.{◌∙◌, ap, sym}
use Rattle.checks.specs.Logs.{made}
use Rattle.expr_check.specs.Messages.{orders}
use Rattle.expr_check.specs.Phrases.{expr_phrase}
use Rattle.body_check.specs.Statements.{annotated}
use Rattle.file_check.specs.Runs.{run, valued_by}
use Rattle.file_check.proofs.ValueLemmas.{value_run}
use Rattle.file_check.proofs.values.check_value.Goals as goal

pub returns : goal.returns
returns g c =
    let meanings = g.A.Answers.meanings c.args.answers.now in
    let f = c.args.site.now in
    let key = c.args.key.now in
    let value = expr_phrase c.args.value.now in
    let log = c.args.log.now in
    let annotation = c.args.annotation.now in
    c.in_ok-got.ensures
    ∙ ap (λ m. run meanings (valued_by f key m.0 value) m.1) (c.in_ok-wanted.ensures ∙ ap (λ s. made orders meanings (annotated s annotation) log) c.in_ok-scope.ensures)
    ∙ sym (value_run meanings f key annotation value log)
