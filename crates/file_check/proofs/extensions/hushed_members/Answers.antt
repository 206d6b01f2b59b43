use Rattle.std.proofs.Common.{◌∙◌, Some, None, ap, sym}
use Rattle.checks.specs.Logs.{made_hushed, muting}
use Rattle.body_check.specs.Declarations.{extension_members}
use Rattle.file_check.specs.Runs.{run}
use Rattle.file_check.proofs.RunLaws.{run_hushed}
use Rattle.file_check.proofs.extensions.hushed_members.Goals as goal

pub returns : goal.returns
returns g c =
    let meanings = g.A.Answers.meanings c.args.answers.now in
    let f = c.args.site.now in
    let d = c.args.tree.now in
    let log = c.args.log.now in
    let members = extension_members f c.args.context.now None d in
    ap (λ l. (Some c.in_ok-units.units, l)) (c.mute-2.ensures ∙ ap (λ b. muting b c.extension_members.new.log) c.is_muted-before.ensures)
    ∙ ap (λ m. made_hushed log.muted m) (c.in_ok-units.ensures ∙ ap (λ l. run meanings members l) c.mute.ensures)
    ∙ sym (run_hushed meanings members log)
