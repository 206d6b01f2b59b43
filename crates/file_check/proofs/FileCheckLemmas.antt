-- What is made of a file.
use Rattle.std.proofs.Common.{◌≡◌, false, [], ◌++◌, Some, map}
use Rattle.dep_key.specs.declared.key.Key.{Key}
use Rattle.type_rules.specs.declared.meaning.Meaning.{Meaning}
use Rattle.swift_ast.specs.declared.declarations.FileTree.{FileTree}
use Rattle.checks.specs.Logs.{Logged, nothing}
use Rattle.expr_check.specs.declared.line.Line.{Line}
use Rattle.body_check.specs.Declarations.{site, decl_check, file_check}
use Rattle.body_check.specs.Files.{file_checked, file_errors, file_uses}
use Rattle.body_check.proofs.FileLemmas.{made_file}
use Rattle.file_check.specs.Runs.{run, gathered}
use Rattle.file_check.proofs.ExtensionLemmas.{order_run}

pub file_run : (meanings : Key → Meaning) (file : FileTree) (log : Logged Key Line) → run meanings (file_check file) log ≡ gathered (λ us vs. us ++ vs) meanings (Some []) (map (decl_check (site file)) file.decls) log
unfolding file_check
file_run meanings file log = order_run meanings (map (decl_check (site file)) file.decls) log

pub checked : (meanings : Key → Meaning) (file : FileTree) → run meanings (file_check file) nothing ≡ ((file_checked meanings file).value, record { errors = file_errors meanings file; asked = file_uses meanings file; muted = false })
unfolding run
checked meanings file = made_file meanings file
