use Rattle.grammar.specs.Forms.{token}
use Rattle.swift_ast.specs.declared.terminals.Terminal.TheVariants as T
use Rattle.swift_ast.specs.Tests.{on, is}
use Rattle.swift_ast.specs.Statements.{block_form}
use Rattle.swift_ast.proofs.StatementShows as shows
use Rattle.swift_ast.proofs.StatementExits as exits
use Rattle.swift_parser.proofs.Exits.{passes}
use Rattle.swift_parser.proofs.statements.Grammar.level.Goals as goal

pub returns-in_err-opening-clause-reads : goal.returns-in_err-opening-clause-reads
returns-in_err-opening-clause-reads g c =
    passes (token (on (is T.LeftBrace))) block_form c.from_residual.result c.in_err-opening.field-0.0 c.args.tokens.now c.expect.new.self c.args.tokens.now c.expect.new.self c.from_residual.ensures.1 c.in_err-opening.ensures.reads
    (λ r. exits.block_unopened r)

pub returns-in_err-stmts-clause-reads : goal.returns-in_err-stmts-clause-reads
returns-in_err-stmts-clause-reads g c =
    passes shows.stmts_form block_form c.from_residual-in_err-stmts.result c.in_err-stmts.field-0.0 c.expect.new.self c.stmts.new.tokens c.args.tokens.now c.stmts.new.tokens c.from_residual-in_err-stmts.ensures.1 c.in_err-stmts.ensures.reads
    (λ r. exits.block_inside c.in_ok-opening.ensures.reads r)

pub returns-in_err-closing-clause-reads : goal.returns-in_err-closing-clause-reads
returns-in_err-closing-clause-reads g c =
    passes (token (on (is T.RightBrace))) block_form c.from_residual-in_err-closing.result c.in_err-closing.field-0.0 c.stmts.new.tokens c.expect-2.new.self c.args.tokens.now c.expect-2.new.self c.from_residual-in_err-closing.ensures.1 c.in_err-closing.ensures.reads
    (λ r. exits.block_unclosed c.in_ok-opening.ensures.reads c.in_ok-stmts.ensures.reads r)

pub returns-clause-reads : goal.returns-clause-reads
returns-clause-reads g c =
    exits.block_done c.in_ok-opening.ensures.reads c.in_ok-stmts.ensures.reads c.in_ok-closing.ensures.reads
