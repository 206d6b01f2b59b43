use Rattle.grammar.specs.Forms.{token}
use Rattle.swift_ast.specs.declared.terminals.Terminal.TheVariants as T
use Rattle.swift_ast.specs.Tests.{on, is}
use Rattle.swift_ast.specs.Statements.{type_form}
use Rattle.swift_ast.proofs.StatementExits as exits
use Rattle.swift_parser.proofs.Exits.{passes}
use Rattle.swift_parser.proofs.statements.type_name.Goals as goal

pub returns-in_err-name-clause-reads : goal.returns-in_err-name-clause-reads
returns-in_err-name-clause-reads c =
    passes (token (on (is T.Identifier))) type_form c.from_residual.result c.in_err-name.field-0.0 c.args.tokens.now c.expect.new.self c.args.tokens.now c.expect.new.self c.from_residual.ensures.1 c.in_err-name.ensures.reads
    (λ r. exits.type_refused r)

pub returns-clause-reads : goal.returns-clause-reads
returns-clause-reads c =
    exits.type_taken c.in_ok-name.ensures.reads
