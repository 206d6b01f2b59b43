use Rattle.std.proofs.Common.{map, sym, ◌∙◌, ap, subst, Err}
use Rattle.std.proofs.lemmas.Result.{err_from_is_err_and}
use Rattle.swift_ast.specs.Leaves.{leaf_of}
use Rattle.swift_ast.proofs.DeclarationLaws.{decls_one}
use Rattle.swift_parser.specs.Whole.{ParsesFile}
use Rattle.swift_parser.proofs.FileLemmas.{parsed, refused}
use Rattle.swift_parser.proofs.file.file_tree.Goals as goal

pub returns-in_err-decls : goal.returns-in_err-decls
returns-in_err-decls c =
    let found = err_from_is_err_and c.from_residual.result c.from_residual.ensures.1 in
    subst (λ z. ParsesFile c.args.path.now c.args.bytes.now z) (sym (found.1 ∙ ap (λ e. Err e) found.2))
    (refused c.args.path.now c.args.bytes.now (map leaf_of c.args.tokens.now) c.in_err-decls.field-0.0 c.requires.readable c.requires.tokens c.in_err-decls.ensures)

pub returns-in-Ok : goal.returns-in-Ok
returns-in-Ok c =
    parsed decls_one c.args.path.now c.args.bytes.now (map leaf_of c.args.tokens.now) (record { path = c.in-Ok.path; decls = c.in_ok-decls.decls }) c.requires.readable c.requires.tokens c.in_ok-decls.ensures c.in-Ok.ensures
