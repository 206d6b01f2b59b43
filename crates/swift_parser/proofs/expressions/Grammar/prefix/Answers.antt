use Rattle.swift_ast.specs.Expressions.{prefix_form, postfix_form}
use Rattle.swift_ast.proofs.ExpressionExits as exits
use Rattle.swift_parser.proofs.Exits.{passes}
use Rattle.swift_parser.proofs.PartLemmas.{operator_read}
use Rattle.swift_parser.proofs.expressions.Grammar.prefix.Goals as goal

pub returns-in_err-operand-clause-reads : goal.returns-in_err-operand-clause-reads
returns-in_err-operand-clause-reads g c = passes postfix_form prefix_form c.from_residual-in_err-operand.result c.in_err-operand.field-0.0 c.eat.new.self c.postfix.new.tokens c.args.tokens.now c.postfix.new.tokens c.from_residual-in_err-operand.ensures.1 c.in_err-operand.ensures.reads
    (λ r. exits.prefix_refused (operator_read c.in_ok-operator.field-0 c.args.tokens.now c.eat.new.self c.in_ok-operator.ensures.eaten) r)
