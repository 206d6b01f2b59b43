use Rattle.std.proofs.Common.{◌∙◌, Some, ap, sym}
use Rattle.type_rules.specs.declared.ty.Ty.TheVariants as ty
use Rattle.checks.specs.Logs.{made}
use Rattle.expr_check.specs.Messages.{orders, place_of}
use Rattle.expr_check.specs.Types.{laid_out}
use Rattle.body_check.specs.Declarations.{extension_members}
use Rattle.file_check.specs.Runs.{run}
use Rattle.file_check.proofs.ExtensionLemmas.{of_struct_run}
use Rattle.file_check.proofs.extensions.of_struct.Goals as goal

pub returns : goal.returns
returns g c =
    let meanings = g.A.Answers.meanings c.args.answers.now in
    let f = c.args.site.now in
    let d = c.args.tree.now in
    let log = c.args.log.now in
    let context = c.args.context.now in
    c.in_ok-units.ensures
    ∙ ap (λ t. run meanings (extension_members f context (Some t) d) c.laid_out.new.log) c.in_ok-receiver.ensures
    ∙ ap (λ m. run meanings (extension_members f context (Some (ty.Struct context)) d) m.1)
    (c.in_ok-laid_out.ensures
    ∙ ap (λ p. made orders meanings (laid_out p c.in_ok-whole.whole) log) c.of.ensures
    ∙ ap (λ t. made orders meanings (laid_out (place_of d.name) t) log) c.in_ok-whole.ensures)
    ∙ sym (of_struct_run meanings f context d log)
