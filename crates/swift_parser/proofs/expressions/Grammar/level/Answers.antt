use Rattle.std.proofs.Common.{sym, ◌∙◌}
use Rattle.grammar.proofs.Basics.{not_begins}
use Rattle.swift_ast.specs.Tests.{on, is_infix_operator}
use Rattle.swift_ast.specs.Expressions.{prefix_form, expr_form}
use Rattle.swift_ast.proofs.ExpressionExits as exits
use Rattle.swift_parser.proofs.Exits.{passes}
use Rattle.swift_parser.proofs.expressions.Grammar.level.Goals as goal

pub returns-in_err-front-clause-reads : goal.returns-in_err-front-clause-reads
returns-in_err-front-clause-reads g c = passes prefix_form expr_form c.from_residual.result c.in_err-front.field-0.0 c.args.tokens.now c.prefix.new.tokens c.args.tokens.now c.prefix.new.tokens c.from_residual.ensures.1 c.in_err-front.ensures.reads (λ r. exits.lone_refused r)

pub returns-then-sees-clause-reads : goal.returns-then-sees-clause-reads
returns-then-sees-clause-reads g c = c.expr_behind.ensures.reads c.args.tokens.now c.in_ok-front.ensures.reads

pub returns-clause-reads : goal.returns-clause-reads
returns-clause-reads g c = c.lone_expr.ensures.taken c.args.tokens.now c.prefix.new.tokens c.in_ok-front.ensures.reads (not_begins (on is_infix_operator) c.prefix.new.tokens (sym c.sees.ensures ∙ c.if-sees.false))
