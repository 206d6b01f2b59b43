use Rattle.std.proofs.Common.{◌∙◌, ap, sym}
use Rattle.dep_key.specs.KeyBuilders.{nominal}
use Rattle.checks.specs.Logs.{asking}
use Rattle.expr_check.specs.Messages.{orders}
use Rattle.file_check.specs.Members.{struct_fields}
use Rattle.file_check.specs.Runs.{run}
use Rattle.file_check.proofs.RunLaws.{run_used_meaning}
use Rattle.file_check.proofs.structs.check_inside.Goals as goal

pub returns : goal.returns
returns g c =
    let meanings = g.A.Answers.meanings c.args.answers.now in
    let f = c.args.site.now in
    let d = c.args.tree.now in
    let log = c.args.log.now in
    let context = c.args.context.now in
    c.in_ok-units.ensures
    ∙ ap (λ l. run meanings (struct_fields f context d c.in_ok-fields.fields.now) l) c.in_ok-fields.ensures.asked
    ∙ ap (λ m. run meanings (struct_fields f context d m) (asking orders log c.in_ok-key.key)) c.in_ok-fields.ensures.means
    ∙ ap (λ k. run meanings (struct_fields f context d (meanings k)) (asking orders log k)) c.in_ok-key.ensures
    ∙ sym (run_used_meaning meanings (nominal context) (λ fields. struct_fields f context d fields) log)
