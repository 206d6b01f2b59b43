use Rattle.std.proofs.Common.{◌∷◌}
use Rattle.swift_ast.specs.Expressions.{prefix_form, postfix_form}
use Rattle.swift_ast.proofs.ExpressionExits as exits
use Rattle.swift_parser.proofs.Exits.{passes}
use Rattle.swift_parser.proofs.expressions.Grammar.operand_behind.Goals as goal

pub returns-in_err-operand-clause-reads : goal.returns-in_err-operand-clause-reads
returns-in_err-operand-clause-reads g c = passes postfix_form prefix_form c.from_residual-in_err-operand.result c.in_err-operand.field-0.0 c.args.tokens.now c.postfix.new.tokens (c.args.operator ∷ c.args.tokens.now) c.postfix.new.tokens c.from_residual-in_err-operand.ensures.1 c.in_err-operand.ensures.reads
    (λ r. exits.prefix_refused (exits.operator_in c.args.operator c.args.tokens.now c.requires.operator) r)
