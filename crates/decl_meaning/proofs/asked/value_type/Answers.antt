use Rattle.std.proofs.Common.{ap, sym, ◌∙◌}
use Rattle.std.specs.Option.{option_map}
use Rattle.checks.specs.Logs.{made}
use Rattle.expr_check.specs.Messages.{orders}
use Rattle.expr_check.specs.Phrases.{expr_phrase}
use Rattle.type_infer.specs.Readings.{value_type}
use Rattle.decl_meaning.specs.Asking.{read}
use Rattle.decl_meaning.proofs.ReadLemmas.{read_value}
use Rattle.decl_meaning.proofs.asked.value_type.Goals as goal

pub returns-in-None : goal.returns-in-None
returns-in-None g c =
    let m = g.A.Answers.meanings c.args.answers.now in
    ap (λ o. (option_map (λ v. v.ty) o, c.check_expression.new.log.asked)) (sym c.in-None.is)
    ∙ read_value m c.args.path.now c.args.tree.now c.in_ok-check_expression.field-0 c.mute.new.self c.check_expression.new.log
    (c.in_ok-check_expression.ensures ∙ ap (λ s. made orders m ((expr_phrase c.args.tree.now).check s) c.mute.new.self) c.in_ok-scope.ensures)
    ∙ ap (read m (value_type c.args.path.now c.args.tree.now)) (ap (λ l. l.asked) c.mute.ensures ∙ c.asked.view_is)

pub returns : goal.returns
returns g c =
    let m = g.A.Answers.meanings c.args.answers.now in
    ap (λ o. (option_map (λ v. v.ty) o, c.check_expression.new.log.asked)) (sym c.in-Some.is)
    ∙ read_value m c.args.path.now c.args.tree.now c.in_ok-check_expression.field-0 c.mute.new.self c.check_expression.new.log
    (c.in_ok-check_expression.ensures ∙ ap (λ s. made orders m ((expr_phrase c.args.tree.now).check s) c.mute.new.self) c.in_ok-scope.ensures)
    ∙ ap (read m (value_type c.args.path.now c.args.tree.now)) (ap (λ l. l.asked) c.mute.ensures ∙ c.asked.view_is)
