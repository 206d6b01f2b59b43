use Rattle.std.proofs.Common.{sym, subst, arith}
use Rattle.swift_ast.specs.Tests.{on, is_product_operator}
use Rattle.swift_ast.specs.Expressions.{product_operator_form, product_form, prefix_form}
use Rattle.swift_ast.proofs.ExpressionExits as exits
use Rattle.swift_parser.proofs.Exits.{passes, untaken, took}
use Rattle.swift_parser.proofs.expressions.Grammar.product_behind.Goals as goal

pub returns-in_err-operand-clause-reads : goal.returns-in_err-operand-clause-reads
returns-in_err-operand-clause-reads g c = λ old t.
    let u = took (on is_product_operator) product_operator_form c.in_ok-operator.field-0 c.in-Some.operator c.loop-more.tokens c.product_operator.new.tokens c.in_ok-operator.ensures.takes c.in-Some.is in
    passes prefix_form product_form c.from_residual-in_err-operand.result c.in_err-operand.field-0.0 c.product_operator.new.tokens c.prefix.new.tokens old c.prefix.new.tokens c.from_residual-in_err-operand.ensures.1 c.in_err-operand.ensures.reads
    (λ r. exits.product_later (c.args.front, c.loop-more.more) (c.loop-more.invariant.0 old t) u r)

pub loop-more-preserved : goal.loop-more-preserved
loop-more-preserved g c =
    let u = took (on is_product_operator) product_operator_form c.in_ok-operator.field-0 c.in-Some.operator c.loop-more.tokens c.product_operator.new.tokens c.in_ok-operator.ensures.takes c.in-Some.is in (
      λ old t. subst (λ ps. exits.ProductSo (c.args.front, ps) old c.prefix.new.tokens) (sym c.in_ok-push.ensures.ok)
          (exits.product_pushed (c.args.front, c.loop-more.more) (c.loop-more.invariant.0 old t) u c.in_ok-operand.ensures.reads),
      omega (arith, c.loop-more.invariant.1, c.in_ok-operand.ensures.shrinks, c.in_ok-operator.ensures.shrinks),
    )

pub returns-clause-reads : goal.returns-clause-reads
returns-clause-reads g c =
    let e = untaken (on is_product_operator) product_operator_form c.in_ok-operator.field-0 c.loop-more.tokens c.product_operator.new.tokens c.in_ok-operator.ensures.takes c.in_default.is in
    λ old t. exits.product_done (c.args.front, c.loop-more.more) (subst (λ ts. exits.ProductSo (c.args.front, c.loop-more.more) old ts) e.0 (c.loop-more.invariant.0 old t)) e.1
