use Rattle.std.proofs.Common.{ap, ◌∙◌, ◌∷◌, [], ◌++◌, codes}
use Rattle.checks.specs.Logs.{saying}
use Rattle.expr_check.specs.Messages.{orders, text_of}
use Rattle.body_check.proofs.say.say_missing_return.Goals as goal

pub returns : goal.returns
unfolding text_of
returns c =
    c.in_ok-say_about.ensures
    ∙ ap (λ name. saying orders c.args.log.now (record { line = c.args.at.line; column = c.args.at.column; text = codes "missing return in a function that returns '" ++ name ++ codes "'" } ∷ [])) c.shown.ensures
