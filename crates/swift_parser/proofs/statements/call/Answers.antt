use Rattle.std.proofs.Common.{sym, ◌∙◌}
use Rattle.swift_ast.specs.Expressions.{postfix_form}
use Rattle.swift_ast.specs.Statements.{stmt_form}
use Rattle.swift_ast.proofs.StatementExits as exits
use Rattle.swift_parser.proofs.Exits.{passes}
use Rattle.swift_parser.proofs.StatementLemmas as lemmas
use Rattle.swift_parser.proofs.statements.call.Goals as goal

pub returns-in_err-found-clause-reads : goal.returns-in_err-found-clause-reads
returns-in_err-found-clause-reads c =
    passes postfix_form stmt_form c.from_residual.result c.in_err-found.field-0.0 c.args.tokens.now c.postfix.new.tokens c.args.tokens.now c.postfix.new.tokens c.from_residual.ensures.1 c.in_err-found.ensures.reads
    (λ r. exits.call_refused c.requires.no_local c.requires.no_return c.requires.no_if c.requires.no_while r)

pub returns-then-not-is_call-clause-reads : goal.returns-then-not-is_call-clause-reads
returns-then-not-is_call-clause-reads c =
    exits.call_not c.in_ok-found.found c.requires.no_local c.requires.no_return c.requires.no_if c.requires.no_while c.in_ok-found.ensures.reads (sym c.is_call.ensures ∙ c.if-not-is_call.true) (lemmas.no_assign c.in_ok-found.found c.args.tokens.now c.postfix.new.tokens c.requires.no_assign c.in_ok-found.ensures.reads)

pub returns-clause-reads : goal.returns-clause-reads
returns-clause-reads c =
    exits.call_done c.in_ok-found.found c.in_ok-found.ensures.reads (sym c.is_call.ensures ∙ c.if-not-is_call.false)
