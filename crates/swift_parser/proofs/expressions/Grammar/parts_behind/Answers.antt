use Rattle.std.proofs.Common.{sym, subst, arith}
use Rattle.swift_ast.specs.Tests.{on, begins_part}
use Rattle.swift_ast.specs.Expressions.{postfix_form, part_form}
use Rattle.swift_ast.proofs.ExpressionExits as exits
use Rattle.swift_parser.proofs.Exits.{passes_if, found, none_found}
use Rattle.swift_parser.proofs.expressions.Grammar.parts_behind.Goals as goal

pub returns-in_err-behind-clause-reads : goal.returns-in_err-behind-clause-reads
returns-in_err-behind-clause-reads g c = λ old t. passes_if (on begins_part) part_form postfix_form c.from_residual.result c.in_err-behind.field-0.0 c.loop-parts.tokens c.part.new.tokens old c.part.new.tokens c.from_residual.ensures.1 c.in_err-behind.ensures.reads
    (λ h r. exits.postfix_later (c.loop-parts.front-1, c.loop-parts.parts) (c.loop-parts.invariant.0 old t) h r)

pub loop-parts-preserved : goal.loop-parts-preserved
loop-parts-preserved g c =
    let u = found (on begins_part) part_form c.in_ok-behind.field-0 c.in-Some.behind c.loop-parts.tokens c.part.new.tokens c.in_ok-behind.ensures.reads c.in-Some.is in (
      λ old t. subst (λ ps. exits.PostfixSo (c.loop-parts.front-1, ps) old c.part.new.tokens) (sym c.in_ok-push.ensures.ok)
          (exits.postfix_pushed (c.loop-parts.front-1, c.loop-parts.parts) (c.loop-parts.invariant.0 old t) u),
      omega (arith, c.loop-parts.invariant.1, c.in_ok-behind.ensures.shrinks),
    )

pub returns-clause-reads : goal.returns-clause-reads
returns-clause-reads g c =
    let e = none_found (on begins_part) part_form c.in_ok-behind.field-0 c.loop-parts.tokens c.part.new.tokens c.in_ok-behind.ensures.reads c.in_default.is in
    λ old t. exits.postfix_done (c.loop-parts.front-1, c.loop-parts.parts) (subst (λ ts. exits.PostfixSo (c.loop-parts.front-1, c.loop-parts.parts) old ts) e.0 (c.loop-parts.invariant.0 old t)) e.1
