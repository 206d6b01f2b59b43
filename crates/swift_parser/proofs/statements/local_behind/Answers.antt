use Rattle.std.proofs.Common.{◌++◌}
use Rattle.swift_ast.specs.Statements.{specifier_form, stmt_form}
use Rattle.swift_ast.specs.Declarations.{global_form}
use Rattle.swift_parser.proofs.Exits.{passes}
use Rattle.swift_parser.proofs.StatementLemmas as lemmas
use Rattle.swift_parser.proofs.statements.local_behind.Goals as goal

pub returns-in_err-found-clause-reads : goal.returns-in_err-found-clause-reads
returns-in_err-found-clause-reads c =
    passes global_form stmt_form c.from_residual.result c.in_err-found.field-0.0 (specifier_form.tokens c.args.specifier ++ c.args.tokens.now) c.binding_behind.new.tokens (specifier_form.tokens c.args.specifier ++ c.args.tokens.now) c.binding_behind.new.tokens c.from_residual.ensures.1 c.in_err-found.ensures.reads
    (λ r. lemmas.local_refused c.args.specifier c.args.tokens.now c.requires r)

pub returns-clause-reads : goal.returns-clause-reads
returns-clause-reads c =
    lemmas.local_taken c.in_ok-found.found c.in_ok-found.ensures.reads
