use Rattle.std.proofs.Common.{◌∙◌, ap, sym}
use Rattle.checks.specs.Logs.{made}
use Rattle.expr_check.specs.Messages.{orders}
use Rattle.expr_check.specs.Phrases.{expr_phrase}
use Rattle.body_check.specs.Statements.{fitting}
use Rattle.file_check.proofs.ValueLemmas.{fitting_made}
use Rattle.file_check.proofs.values.fitting_value.Goals as goal

pub returns : goal.returns
returns g c =
    let meanings = g.A.Answers.meanings c.args.answers.now in
    let value = expr_phrase c.args.value.now in
    let wanted = c.args.wanted in
    c.in_ok-fitted.ensures
    ∙ ap (λ first. made orders meanings (fitting first wanted c.in_ok-found.found) c.check_expression.new.log) c.first_place.ensures
    ∙ ap (λ m. made orders meanings (fitting value.first wanted m.0) m.1) c.in_ok-found.ensures
    ∙ sym (fitting_made orders meanings c.args.scope.now wanted value c.args.log.now)
