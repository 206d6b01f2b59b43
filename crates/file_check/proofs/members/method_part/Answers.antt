use Rattle.std.proofs.Common.{◌∙◌, Some, ap, sym}
use Rattle.type_rules.specs.declared.ty.Ty.TheVariants as ty
use Rattle.checks.specs.Logs.{made_then}
use Rattle.body_check.specs.Declarations.{method_check, units_alone}
use Rattle.file_check.specs.Runs.{run}
use Rattle.file_check.proofs.MemberLemmas.{mapped_run}
use Rattle.file_check.proofs.members.method_part.Goals as goal

pub returns : goal.returns
returns g c =
    let meanings = g.A.Answers.meanings c.args.answers.now in
    let f = c.args.site.now in
    let context = c.args.context.now in
    let access = c.args.access.now in
    let d = c.args.tree.now in
    ap (λ m. made_then m (λ units log. (Some (units_alone units), log)))
    (c.in_ok-units.ensures ∙ ap (λ of. run meanings (method_check f context (Some of) access d) c.args.log.now) c.in_ok-of.ensures)
    ∙ sym (mapped_run meanings units_alone (method_check f context (Some (ty.Struct context)) access d) c.args.log.now)
