use Rattle.std.proofs.Common.{ap, ◌∙◌, ◌∷◌, [], codes}
use Rattle.checks.specs.Logs.{saying}
use Rattle.expr_check.specs.Messages.{about, orders, text_of}
use Rattle.expr_check.proofs.say.say_no_member.Goals as goal

pub returns : goal.returns
unfolding text_of
returns c =
    c.in_ok-say_between.ensures
    ∙ ap (λ name. saying orders c.args.log.now (record { line = c.args.at.line; column = c.args.at.column; text = about (codes "value of type '") name (about (codes "' has no member '") c.args.name.now (codes "'")) } ∷ [])) c.shown.ensures
