use Rattle.std.proofs.Common.{◌∙◌, [], Some, map, ap, sym}
use Rattle.checks.specs.Logs.{saying}
use Rattle.expr_check.specs.Messages.{orders}
use Rattle.body_check.specs.Declarations.{struct_member_check}
use Rattle.file_check.specs.StructSizes.{sized}
use Rattle.file_check.specs.Members.{code_of, more, mapped, struct_code}
use Rattle.file_check.specs.Runs.{gathered}
use Rattle.file_check.proofs.StructLemmas.{fields_run}
use Rattle.file_check.proofs.structs.check_fields.Goals as goal

pub returns : goal.returns
returns g c =
    let meanings = g.A.Answers.meanings c.args.answers.now in
    let f = c.args.site.now in
    let d = c.args.tree.now in
    let log = c.args.log.now in
    let context = c.args.context.now in
    let fields = c.args.fields.now in
    let checks = map (struct_member_check f context) d.members in
    ap (λ us. (Some us, c.check_members.new.log)) c.in_ok-units.ensures
    ∙ ap (λ m. mapped (struct_code context) m)
    (c.in_ok-parts.ensures
    ∙ ap (λ ms. gathered more meanings (Some (code_of [] [])) (map (struct_member_check f context) ms) c.check_size.new.log) c.as_slice-members.ensures
    ∙ ap (λ l. gathered more meanings (Some (code_of [] [])) checks l) (c.in_ok-check_size.ensures ∙ ap (λ l. saying orders l (sized meanings f context d fields)) c.in_ok-say_circle.ensures))
    ∙ sym (fields_run meanings f context d fields log)
