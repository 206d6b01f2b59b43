use Rattle.std.proofs.Common.{◌∙◌, [], ◌∷◌, Some, ap, sym}
use Rattle.checks.specs.Logs.{made_then}
use Rattle.body_check.specs.Declarations.{declared, stored_check}
use Rattle.file_check.specs.Members.{code_of}
use Rattle.file_check.specs.Runs.{run, behind_standing}
use Rattle.file_check.proofs.MemberLemmas.{stored_run}
use Rattle.file_check.proofs.members.stored_part.Goals as goal

pub returns : goal.returns
returns g c =
    let meanings = g.A.Answers.meanings c.args.answers.now in
    let f = c.args.site.now in
    let d = c.args.tree.now in
    let context = c.args.context.now in
    let n = declared context c.args.access.now d.name in
    ap (λ m. made_then m (λ i log. (Some (code_of (i ∷ []) []), log))) c.in_ok-initial.ensures
    ∙ ap (λ l. made_then (run meanings (stored_check f c.in_ok-key.key d.value) l) (λ i log. (Some (code_of (i ∷ []) []), log))) c.in_ok-check_standing.ensures
    ∙ ap (λ k. made_then (run meanings (stored_check f k d.value) (behind_standing meanings f n k d.name c.args.log.now)) (λ i log. (Some (code_of (i ∷ []) []), log))) c.in_ok-key.ensures
    ∙ sym (stored_run meanings f context c.args.access.now d c.args.log.now)
