use Rattle.std.proofs.Common.{◌∙◌, ◌+◌, ◌∷◌, ◌++◌, Some, map, drop, ap, sym}
use Rattle.std.proofs.lemmas.List.{at_drop_more}
use Rattle.body_check.specs.Declarations.{decl_check}
use Rattle.file_check.specs.Runs.{gathered, joined}
use Rattle.file_check.proofs.files.check_decls.Goals as goal

pub loop-decl-preserved : goal.loop-decl-preserved
loop-decl-preserved g c =
    let meanings = g.A.Answers.meanings c.args.answers.now in
    let each = decl_check c.args.site.now in
    let decls = c.args.decls.now in
    let i = c.loop-decl.decl-index in
    let d = c.decl-item.result in
    let log = c.loop-decl.log in
    let had = c.loop-decl.units in
    let rest = map each (drop (i + 1) decls) in
    ap (λ us. gathered (λ us vs. us ++ vs) meanings (Some us) rest c.check_decl.new.log) c.in_ok-append.ensures
    ∙ ap (λ r. gathered (λ us vs. us ++ vs) meanings (joined (λ us vs. us ++ vs) (Some had) r.0) rest r.1) c.in_ok-more.ensures
    ∙ sym (at_drop_more (λ ds. gathered (λ us vs. us ++ vs) meanings (Some had) (map each ds) log) decls i d c.loop-decl-test.true ∙ ap (λ d. gathered (λ us vs. us ++ vs) meanings (Some had) (each d ∷ rest) log) (sym c.decl-item.is))
    ∙ c.loop-decl.invariant
