use Rattle.std.proofs.Common.{sym, subst, arith}
use Rattle.swift_ast.specs.Tests.{on, is_sum_operator}
use Rattle.swift_ast.specs.Expressions.{sum_operator_form, sum_form, product_form}
use Rattle.swift_ast.proofs.ExpressionExits as exits
use Rattle.swift_parser.proofs.Exits.{passes, untaken, took}
use Rattle.swift_parser.proofs.expressions.Grammar.sum_behind.Goals as goal

pub returns-in_err-first-clause-reads : goal.returns-in_err-first-clause-reads
returns-in_err-first-clause-reads g c = λ old t.
    passes product_form sum_form c.from_residual.result c.in_err-first.field-0.0 old c.product_behind.new.tokens old c.product_behind.new.tokens c.from_residual.ensures.1 (c.in_err-first.ensures.reads old t) (λ r. exits.sum_first r)

pub loop-more-init : goal.loop-more-init
loop-more-init g c = (
  λ old t. subst (λ ps. exits.SumSo (c.in_ok-first.first, ps) old c.product_behind.new.tokens) (sym c.new-more.ensures) (exits.sum_begun_with (c.in_ok-first.ensures.reads old t)),
  c.in_ok-first.ensures.shrinks,
)

pub returns-in_err-operand-clause-reads : goal.returns-in_err-operand-clause-reads
returns-in_err-operand-clause-reads g c = λ old t.
    let u = took (on is_sum_operator) sum_operator_form c.in_ok-operator.field-0 c.in-Some.operator c.loop-more.tokens c.sum_operator.new.tokens c.in_ok-operator.ensures.takes c.in-Some.is in
    passes product_form sum_form c.from_residual-in_err-operand.result c.in_err-operand.field-0.0 c.sum_operator.new.tokens c.product.new.tokens old c.product.new.tokens c.from_residual-in_err-operand.ensures.1 c.in_err-operand.ensures.reads
    (λ r. exits.sum_later (c.in_ok-first.first, c.loop-more.more) (c.loop-more.invariant.0 old t) u r)

pub loop-more-preserved : goal.loop-more-preserved
loop-more-preserved g c =
    let u = took (on is_sum_operator) sum_operator_form c.in_ok-operator.field-0 c.in-Some.operator c.loop-more.tokens c.sum_operator.new.tokens c.in_ok-operator.ensures.takes c.in-Some.is in (
      λ old t. subst (λ ps. exits.SumSo (c.in_ok-first.first, ps) old c.product.new.tokens) (sym c.in_ok-push.ensures.ok)
          (exits.sum_pushed (c.in_ok-first.first, c.loop-more.more) (c.loop-more.invariant.0 old t) u c.in_ok-operand.ensures.reads),
      omega (arith, c.loop-more.invariant.1, c.in_ok-operand.ensures.shrinks, c.in_ok-operator.ensures.shrinks),
    )

pub returns-clause-reads : goal.returns-clause-reads
returns-clause-reads g c =
    let e = untaken (on is_sum_operator) sum_operator_form c.in_ok-operator.field-0 c.loop-more.tokens c.sum_operator.new.tokens c.in_ok-operator.ensures.takes c.in_default.is in
    λ old t. exits.sum_done (c.in_ok-first.first, c.loop-more.more) (subst (λ ts. exits.SumSo (c.in_ok-first.first, c.loop-more.more) old ts) e.0 (c.loop-more.invariant.0 old t)) e.1
