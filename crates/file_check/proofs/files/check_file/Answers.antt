use Rattle.std.proofs.Common.{◌∙◌, ap}
use Rattle.body_check.specs.Declarations.{file_check}
use Rattle.body_check.specs.Files.{units_or_none, file_units}
use Rattle.file_check.specs.Runs.{run}
use Rattle.file_check.proofs.FileCheckLemmas.{checked}
use Rattle.file_check.proofs.files.check_file.Goals as goal

pub returns-clause-errors : goal.returns-clause-errors
returns-clause-errors g c =
    let meanings = g.A.Answers.meanings c.args.answers.now in
    let file = c.args.file.now in
    c.into_sets-errors.ensures.errors ∙ ap (λ m. m.1.errors) (c.in_ok-units.ensures ∙ ap (λ l. run meanings (file_check file) l) c.new-log.ensures ∙ checked meanings file)

pub returns-clause-units : goal.returns-clause-units
unfolding file_units
returns-clause-units g c =
    let meanings = g.A.Answers.meanings c.args.answers.now in
    let file = c.args.file.now in
    ap (λ m. units_or_none m.0) (c.in_ok-units.ensures ∙ ap (λ l. run meanings (file_check file) l) c.new-log.ensures ∙ checked meanings file)

pub returns-clause-uses : goal.returns-clause-uses
returns-clause-uses g c =
    let meanings = g.A.Answers.meanings c.args.answers.now in
    let file = c.args.file.now in
    c.into_sets-errors.ensures.asked ∙ ap (λ m. m.1.asked) (c.in_ok-units.ensures ∙ ap (λ l. run meanings (file_check file) l) c.new-log.ensures ∙ checked meanings file)
