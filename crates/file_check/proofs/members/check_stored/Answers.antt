use Rattle.std.proofs.Common.{◌∙◌, ap, sym}
use Rattle.swift_ast.specs.declared.declarations.StoredValue.TheVariants.{Typed}
use Rattle.body_check.specs.Declarations.{stored_check}
use Rattle.file_check.specs.Runs.{run}
use Rattle.file_check.proofs.members.check_stored.Goals as goal

pub returns-in_ok-initial-in-Some : goal.returns-in_ok-initial-in-Some
returns-in_ok-initial-in-Some g c =
    let meanings = g.A.Answers.meanings c.args.answers.now in
    c.in_ok-initial-in-Some.ensures
    ∙ sym (ap (λ v. run meanings (stored_check c.args.site.now c.args.key.now v) c.args.log.now) (c.in-Typed.is ∙ ap (λ x. Typed c.in-Typed.field-0 c.in-Typed.t x) c.in-Some.is))
