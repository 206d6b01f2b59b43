use Rattle.std.proofs.Common.{◌∙◌, [], ◌∷◌, None, ap, sym}
use Rattle.checks.specs.Checks.{hushed}
use Rattle.checks.specs.Logs.{saying}
use Rattle.expr_check.specs.Message as is
use Rattle.expr_check.specs.Messages.{line, orders, place_of}
use Rattle.body_check.specs.Declarations.{extension_members}
use Rattle.file_check.specs.Runs.{run}
use Rattle.file_check.proofs.ExtensionLemmas.{of_none_run}
use Rattle.file_check.proofs.extensions.of_none.Goals as goal

pub returns : goal.returns
returns g c =
    let meanings = g.A.Answers.meanings c.args.answers.now in
    let f = c.args.site.now in
    let d = c.args.tree.now in
    let log = c.args.log.now in
    let context = c.args.context.now in
    let members = hushed (extension_members f context None d) in
    c.in_ok-units.ensures
    ∙ ap (λ l. run meanings members l)
    (c.in_ok-say_not_a_struct.ensures
    ∙ ap (λ p. saying orders log (line p (is.NotAStruct c.as_str-name.result.now) ∷ [])) c.of.ensures
    ∙ ap (λ n. saying orders log (line (place_of d.name) (is.NotAStruct n) ∷ [])) c.as_str-name.ensures)
    ∙ sym (of_none_run meanings f context d log)
