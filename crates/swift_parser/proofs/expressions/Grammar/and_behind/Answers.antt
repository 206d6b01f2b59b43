use Rattle.std.proofs.Common.{sym, subst, arith}
use Rattle.swift_ast.specs.declared.terminals.Terminal.TheVariants as T
use Rattle.swift_ast.specs.Tests.{on, is}
use Rattle.swift_ast.specs.Expressions.{and_form, cmp_form}
use Rattle.swift_ast.proofs.ExpressionExits as exits
use Rattle.swift_parser.proofs.Exits.{passes, uneaten, ate}
use Rattle.swift_parser.proofs.expressions.Grammar.and_behind.Goals as goal

pub returns-in_err-first-clause-reads : goal.returns-in_err-first-clause-reads
returns-in_err-first-clause-reads g c = λ old t.
    passes cmp_form and_form c.from_residual.result c.in_err-first.field-0.0 old c.cmp_behind.new.tokens old c.cmp_behind.new.tokens c.from_residual.ensures.1 (c.in_err-first.ensures.reads old t) (λ r. exits.and_first r)

pub loop-more-init : goal.loop-more-init
loop-more-init g c = (
  λ old t. subst (λ ps. exits.AndSo (c.in_ok-first.first, ps) old c.cmp_behind.new.tokens) (sym c.new-more.ensures) (exits.and_begun_with (c.in_ok-first.ensures.reads old t)),
  c.in_ok-first.ensures.shrinks,
)

pub returns-in_err-operand-clause-reads : goal.returns-in_err-operand-clause-reads
returns-in_err-operand-clause-reads g c = λ old t.
    let u = ate (on (is T.And)) c.in_ok-operator.field-0 c.in-Some.operator c.loop-more.tokens c.eat.new.self c.in_ok-operator.ensures.eaten c.in-Some.is in
    passes cmp_form and_form c.from_residual-in_err-operand.result c.in_err-operand.field-0.0 c.eat.new.self c.cmp.new.tokens old c.cmp.new.tokens c.from_residual-in_err-operand.ensures.1 c.in_err-operand.ensures.reads
    (λ r. exits.and_later (c.in_ok-first.first, c.loop-more.more) (c.loop-more.invariant.0 old t) u r)

pub loop-more-preserved : goal.loop-more-preserved
loop-more-preserved g c =
    let u = ate (on (is T.And)) c.in_ok-operator.field-0 c.in-Some.operator c.loop-more.tokens c.eat.new.self c.in_ok-operator.ensures.eaten c.in-Some.is in (
      λ old t. subst (λ ps. exits.AndSo (c.in_ok-first.first, ps) old c.cmp.new.tokens) (sym c.in_ok-push.ensures.ok)
          (exits.and_pushed (c.in_ok-first.first, c.loop-more.more) (c.loop-more.invariant.0 old t) u c.in_ok-operand.ensures.reads),
      omega (arith, c.loop-more.invariant.1, c.in_ok-operand.ensures.shrinks, c.in_ok-operator.ensures.shrinks),
    )

pub returns-clause-reads : goal.returns-clause-reads
returns-clause-reads g c =
    let e = uneaten (on (is T.And)) c.in_ok-operator.field-0 c.loop-more.tokens c.eat.new.self c.in_ok-operator.ensures.eaten c.in_default.is in
    λ old t. exits.and_done (c.in_ok-first.first, c.loop-more.more) (subst (λ ts. exits.AndSo (c.in_ok-first.first, c.loop-more.more) old ts) e.0 (c.loop-more.invariant.0 old t)) e.1
