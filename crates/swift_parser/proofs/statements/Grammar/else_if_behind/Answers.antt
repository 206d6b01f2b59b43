use Rattle.std.proofs.Common.{◌∷◌}
use Rattle.swift_ast.specs.Expressions.{expr_form}
use Rattle.swift_ast.specs.Statements.{block_form, else_if_form}
use Rattle.swift_ast.proofs.StatementExits as exits
use Rattle.swift_parser.proofs.Exits.{passes}
use Rattle.swift_parser.proofs.statements.Grammar.else_if_behind.Goals as goal

pub returns-in_err-condition-clause-reads : goal.returns-in_err-condition-clause-reads
returns-in_err-condition-clause-reads g c =
    passes expr_form else_if_form c.from_residual.result c.in_err-condition.field-0.0 c.args.tokens.now c.expr.new.tokens (c.args.else_keyword ∷ (c.args.if_keyword ∷ c.args.tokens.now)) c.expr.new.tokens c.from_residual.ensures.1 c.in_err-condition.ensures.reads
    (λ r. exits.else_if_no_condition c.args.else_keyword c.args.if_keyword c.requires.else_keyword c.requires.if_keyword r)

pub returns-in_err-body-clause-reads : goal.returns-in_err-body-clause-reads
returns-in_err-body-clause-reads g c =
    passes block_form else_if_form c.from_residual-in_err-body.result c.in_err-body.field-0.0 c.expr.new.tokens c.inner.new.tokens (c.args.else_keyword ∷ (c.args.if_keyword ∷ c.args.tokens.now)) c.inner.new.tokens c.from_residual-in_err-body.ensures.1 c.in_err-body.ensures.reads
    (λ r. exits.else_if_no_block c.args.else_keyword c.args.if_keyword c.requires.else_keyword c.requires.if_keyword c.in_ok-condition.ensures.reads r)

pub returns-clause-reads : goal.returns-clause-reads
returns-clause-reads g c =
    exits.else_if_done c.args.else_keyword c.args.if_keyword c.requires.else_keyword c.requires.if_keyword c.in_ok-condition.ensures.reads c.in_ok-body.ensures.reads
