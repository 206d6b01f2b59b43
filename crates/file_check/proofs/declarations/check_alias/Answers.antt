use Rattle.std.proofs.Common.{◌∙◌, [], Some, ap, sym}
use Rattle.dep_key.specs.KeyBuilders.{top_level}
use Rattle.checks.specs.Logs.{saying}
use Rattle.expr_check.specs.Messages.{orders}
use Rattle.body_check.specs.Declarations.{declared, name_in_keys}
use Rattle.file_check.specs.OwnTypes.{type_lines, first_meant}
use Rattle.file_check.specs.Runs.{behind_standing}
use Rattle.file_check.proofs.DeclarationLemmas.{alias_run}
use Rattle.file_check.proofs.declarations.check_alias.Goals as goal

pub returns : goal.returns
returns g c =
    let meanings = g.A.Answers.meanings c.args.answers.now in
    let f = c.args.site.now in
    let d = c.args.tree.now in
    let access = c.args.access.now in
    let n = declared [] access d.name in
    let key = top_level (name_in_keys f access d.name) in
    let log = c.args.log.now in
    let t = d.type_name.name in
    ap (λ us. (Some us, c.check_own_type.new.log)) c.new.ensures
    ∙ ap (λ l. (Some [], l))
    (c.in_ok-check_own_type.ensures
    ∙ ap (λ path. saying orders c.check_top_standing.new.log (type_lines t (first_meant meanings path t.text))) c.path.ensures
    ∙ ap (λ l. saying orders l (type_lines t (first_meant meanings f.path t.text))) c.in_ok-check_top_standing.ensures
    ∙ ap (λ k. saying orders (behind_standing meanings f n k d.name log) (type_lines t (first_meant meanings f.path t.text))) c.in_ok-key.ensures)
    ∙ sym (alias_run meanings f access d log)
