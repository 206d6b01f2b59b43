use Rattle.std.proofs.Common.{◌∙◌, [], ap, sym}
use Rattle.dep_key.specs.KeyBuilders.{top_level}
use Rattle.body_check.specs.Declarations.{declared, name_in_keys}
use Rattle.file_check.specs.Members.{struct_inside}
use Rattle.file_check.specs.Runs.{run, behind_standing}
use Rattle.file_check.proofs.FunctionLemmas.{run_stood}
use Rattle.file_check.proofs.structs.check_struct.Goals as goal

pub returns : goal.returns
returns g c =
    let meanings = g.A.Answers.meanings c.args.answers.now in
    let f = c.args.site.now in
    let d = c.args.tree.now in
    let log = c.args.log.now in
    let n = declared [] c.args.access.now d.name in
    let key = top_level (name_in_keys f c.args.access.now d.name) in
    c.in_ok-units.ensures
    ∙ ap (λ l. run meanings (struct_inside f c.in_ok-key.key.name d) l) c.in_ok-check_top_standing.ensures
    ∙ ap (λ k. run meanings (struct_inside f k.name d) (behind_standing meanings f n k d.name log)) c.in_ok-key.ensures
    ∙ sym (run_stood meanings f n key d.name (struct_inside f key.name d) log)
