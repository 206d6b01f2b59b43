use Rattle.std.proofs.Common.{ap, ◌∙◌, ◌∷◌, [], codes}
use Rattle.type_rules.specs.Shown.{shown_type}
use Rattle.checks.specs.Logs.{saying}
use Rattle.expr_check.specs.Messages.{about, orders, text_of}
use Rattle.expr_check.proofs.say.say_no_binary.Goals as goal

pub returns : goal.returns
unfolding text_of
returns c =
    c.in_ok-say.ensures
    ∙ ap (λ text. saying orders c.args.log.now (record { line = c.args.at.line; column = c.args.at.column; text = text } ∷ []))
    (c.in_ok-text.ensures
    ∙ ap (λ left. about (codes "binary operator '") c.args.operator.now (about (codes "' cannot be applied to '") left (about (codes "' and '") c.shown-right.result.now (codes "'")))) c.shown-left.ensures
    ∙ ap (λ right. about (codes "binary operator '") c.args.operator.now (about (codes "' cannot be applied to '") (shown_type c.args.left.now) (about (codes "' and '") right (codes "'")))) c.shown-right.ensures)
