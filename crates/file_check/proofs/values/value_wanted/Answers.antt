use Rattle.std.proofs.Common.{◌∙◌, ap, sym}
use Rattle.checks.specs.Logs.{made, made_tried}
use Rattle.expr_check.specs.Messages.{orders}
use Rattle.expr_check.specs.Phrases.{expr_phrase}
use Rattle.body_check.specs.Declarations.{outside, unless_circular, fitting_value}
use Rattle.file_check.proofs.ValueLemmas.{valued_run}
use Rattle.file_check.proofs.values.value_wanted.Goals as goal

pub returns : goal.returns
returns g c =
    let meanings = g.A.Answers.meanings c.args.answers.now in
    let f = c.args.site.now in
    let key = c.args.key.now in
    let value = expr_phrase c.args.value.now in
    let log = c.args.log.now in
    let wanted = c.args.wanted in
    ap made_tried
    (c.in_ok-got.ensures
    ∙ ap (λ s. made orders meanings (unless_circular c.meaning-meaning.result.now (fitting_value s wanted value)) log) c.in_ok-scope.ensures
    ∙ ap (λ m. made orders meanings (unless_circular m (fitting_value (outside f) wanted value)) log) c.meaning-meaning.ensures)
    ∙ sym (valued_run meanings f key wanted value log)
