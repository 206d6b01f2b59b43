use Rattle.std.proofs.Common.{◌∙◌, [], Some, ap, sym}
use Rattle.dep_key.specs.KeyBuilders.{top_level}
use Rattle.checks.specs.Logs.{made_then}
use Rattle.expr_check.specs.Phrases.{expr_phrase}
use Rattle.body_check.specs.Declarations.{declared, name_in_keys, value_check, global_units}
use Rattle.file_check.specs.Runs.{run, behind_standing}
use Rattle.file_check.proofs.DeclarationLemmas.{global_run}
use Rattle.file_check.proofs.declarations.check_global.Goals as goal

pub returns : goal.returns
returns g c =
    let meanings = g.A.Answers.meanings c.args.answers.now in
    let f = c.args.site.now in
    let d = c.args.tree.now in
    let access = c.args.access.now in
    let n = declared [] access d.name in
    let key = top_level (name_in_keys f access d.name) in
    let log = c.args.log.now in
    let value = expr_phrase d.value in
    ap (λ us. (Some us, c.check_value.new.log)) (c.in_ok-units.ensures ∙ ap (λ symbol. global_units symbol c.in_ok-value.value) c.in_ok-symbol.ensures)
    ∙ ap (λ m. made_then m (λ v log. (Some (global_units c.in_ok-key.key.name v), log))) c.in_ok-value.ensures
    ∙ ap (λ l. made_then (run meanings (value_check f c.in_ok-key.key d.annotation value) l) (λ v log. (Some (global_units c.in_ok-key.key.name v), log))) c.in_ok-check_top_standing.ensures
    ∙ ap (λ k. made_then (run meanings (value_check f k d.annotation value) (behind_standing meanings f n k d.name log)) (λ v log. (Some (global_units k.name v), log))) c.in_ok-key.ensures
    ∙ sym (global_run meanings f access d log)
