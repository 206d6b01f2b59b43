use Rattle.std.proofs.Common.{◌≡◌, ◌++◌, [], Some, map, drop}
use Rattle.body_check.specs.Declarations.{decl_check}
use Rattle.file_check.specs.Runs.{gathered}
use Rattle.file_check.proofs.files.check_decls.Given as goal

abbrev pub invariant-loop-decl : goal.invariant-loop-decl
invariant-loop-decl g l =
    let meanings = g.A.Answers.meanings l.answers in
    gathered (λ us vs. us ++ vs) meanings (Some l.units) (map (decl_check l.site) (drop l.decl-index l.decls)) l.log ≡ gathered (λ us vs. us ++ vs) meanings (Some []) (map (decl_check l.site) l.decls) l.fn.log
