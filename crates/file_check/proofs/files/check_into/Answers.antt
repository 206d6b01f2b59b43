use Rattle.std.proofs.Common.{◌∙◌, ◌++◌, [], Some, map, ap, sym}
use Rattle.body_check.specs.Declarations.{site, decl_check}
use Rattle.file_check.specs.Runs.{gathered}
use Rattle.file_check.proofs.FileCheckLemmas.{file_run}
use Rattle.file_check.proofs.files.check_into.Goals as goal

pub returns : goal.returns
returns g c =
    let meanings = g.A.Answers.meanings c.args.answers.now in
    let file = c.args.file.now in
    let log = c.args.log.now in
    c.in_ok-units.ensures
    ∙ ap (λ f. gathered (λ us vs. us ++ vs) meanings (Some []) (map (decl_check f) c.as_slice-decls.result.now) log) c.in_ok-site.ensures
    ∙ ap (λ ds. gathered (λ us vs. us ++ vs) meanings (Some []) (map (decl_check (site file)) ds) log) c.as_slice-decls.ensures
    ∙ sym (file_run meanings file log)
