use Rattle.swift_ast.specs.Expressions.{expr_form, arg_form}
use Rattle.swift_parser.proofs.Exits.{passes}
use Rattle.swift_parser.proofs.PartLemmas.{arg_stopped, arg_read}
use Rattle.swift_parser.proofs.expressions.Grammar.arg.Goals as goal

pub returns-in_err-value-clause-reads : goal.returns-in_err-value-clause-reads
returns-in_err-value-clause-reads g c = passes expr_form arg_form c.from_residual-in_err-value.result c.in_err-value.field-0.0 c.eat_label.new.self c.inner.new.tokens c.args.tokens.now c.inner.new.tokens c.from_residual-in_err-value.ensures.1 c.in_err-value.ensures.reads
    (λ r. arg_stopped c.in_ok-label.label c.args.tokens.now c.eat_label.new.self c.inner.new.tokens c.in_ok-label.ensures.eaten r)

pub returns-clause-reads : goal.returns-clause-reads
returns-clause-reads g c = arg_read c.in_ok-label.label c.in_ok-value.value c.args.tokens.now c.eat_label.new.self c.inner.new.tokens c.in_ok-label.ensures.eaten c.in_ok-value.ensures.reads
