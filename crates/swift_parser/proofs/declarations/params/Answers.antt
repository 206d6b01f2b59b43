use Rattle.std.proofs.Common.{sym, ◌∙◌, subst, arith}
use Rattle.swift_ast.specs.declared.terminals.Terminal.TheVariants as T
use Rattle.swift_ast.specs.Tests.{on, is}
use Rattle.swift_ast.specs.Declarations.{param_form, params_rule}
use Rattle.swift_ast.proofs.DeclarationExits as exits
use Rattle.swift_parser.proofs.Exits.{passes, uneaten, ate}
use Rattle.swift_parser.proofs.declarations.params.Goals as goal

pub returns-in_err-first-clause-reads : goal.returns-in_err-first-clause-reads
returns-in_err-first-clause-reads c = passes param_form params_rule c.from_residual.result c.in_err-first.field-0.0 c.args.tokens.now c.param.new.tokens c.args.tokens.now c.param.new.tokens c.from_residual.ensures.1 c.in_err-first.ensures.reads
    (λ r. exits.params_first (sym c.sees.ensures ∙ c.if-not-sees.false) r)

pub returns-in_err-next-clause-reads : goal.returns-in_err-next-clause-reads
returns-in_err-next-clause-reads c =
    let u = ate (on (is T.Comma)) c.in_ok-comma.field-0 c.in-Some.comma c.loop-more.tokens c.eat.new.self c.in_ok-comma.ensures.eaten c.in-Some.is in
    passes param_form params_rule c.from_residual-in_err-next.result c.in_err-next.field-0.0 c.eat.new.self c.param-in-Some.new.tokens c.args.tokens.now c.param-in-Some.new.tokens c.from_residual-in_err-next.ensures.1 c.in_err-next.ensures.reads
    (λ r. exits.params_later (c.in_ok-first.first, c.loop-more.more) (sym c.sees.ensures ∙ c.if-not-sees.false) c.loop-more.invariant.0 u r)

pub loop-more-preserved : goal.loop-more-preserved
loop-more-preserved c = let u = ate (on (is T.Comma)) c.in_ok-comma.field-0 c.in-Some.comma c.loop-more.tokens c.eat.new.self c.in_ok-comma.ensures.eaten c.in-Some.is in (
  subst (λ ps. exits.ParamsSo (c.in_ok-first.first, ps) c.args.tokens.now c.param-in-Some.new.tokens) (sym c.in_ok-push.ensures.ok)
      (exits.params_pushed (c.in_ok-first.first, c.loop-more.more) c.loop-more.invariant.0 u c.in_ok-next.ensures.reads),
  omega (arith, c.loop-more.invariant.1, c.in_ok-next.ensures.shrinks, c.in_ok-comma.ensures.shrinks),
)

pub returns-clause-reads : goal.returns-clause-reads
returns-clause-reads c =
    let e = uneaten (on (is T.Comma)) c.in_ok-comma.field-0 c.loop-more.tokens c.eat.new.self c.in_ok-comma.ensures.eaten c.in_default.is in
    exits.params_done (c.in_ok-first.first, c.loop-more.more) (subst (λ ts. exits.ParamsSo (c.in_ok-first.first, c.loop-more.more) c.args.tokens.now ts) e.0 c.loop-more.invariant.0) e.1
