use Rattle.std.proofs.Common.{◌∷◌, sym, ◌∙◌}
use Rattle.swift_ast.specs.Expressions.{expr_form}
use Rattle.swift_ast.specs.Statements.{stmt_form}
use Rattle.swift_ast.proofs.StatementExits as exits
use Rattle.swift_parser.proofs.Exits.{passes}
use Rattle.swift_parser.proofs.statements.return_behind.Goals as goal

pub returns-in_err-value-clause-reads : goal.returns-in_err-value-clause-reads
returns-in_err-value-clause-reads c =
    passes expr_form stmt_form c.from_residual.result c.in_err-value.field-0.0 c.args.tokens.now c.expr.new.tokens (c.args.keyword ∷ c.args.tokens.now) c.expr.new.tokens c.from_residual.ensures.1 c.in_err-value.ensures.reads
    (λ r. exits.return_no_value c.args.keyword c.requires (sym c.sees.ensures ∙ c.if-not-sees.false) r)

pub returns-clause-reads : goal.returns-clause-reads
returns-clause-reads c =
    exits.return_done c.args.keyword c.requires (sym c.sees.ensures ∙ c.if-not-sees.false) c.in_ok-value.ensures.reads
