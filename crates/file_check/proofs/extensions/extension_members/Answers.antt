use Rattle.std.proofs.Common.{◌∙◌, [], ◌++◌, Some, map, ap, sym}
use Rattle.body_check.specs.Declarations.{extension_member_check}
use Rattle.file_check.specs.Runs.{gathered}
use Rattle.file_check.proofs.ExtensionLemmas.{order_run}
use Rattle.file_check.proofs.extensions.extension_members.Goals as goal

pub returns : goal.returns
returns g c =
    let meanings = g.A.Answers.meanings c.args.answers.now in
    let f = c.args.site.now in
    let d = c.args.tree.now in
    let log = c.args.log.now in
    let each = extension_member_check f c.args.context.now c.args.of.now in
    c.in_ok-units.ensures
    ∙ ap (λ ms. gathered (λ us vs. us ++ vs) meanings (Some []) (map each ms) log) c.as_slice-members.ensures
    ∙ sym (order_run meanings (map each d.members) log)
