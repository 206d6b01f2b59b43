use Rattle.std.proofs.Common.{◌∷◌, sym, subst, arith}
use Rattle.swift_ast.specs.declared.terminals.Terminal.TheVariants as T
use Rattle.swift_ast.specs.Tests.{on, is}
use Rattle.swift_ast.specs.Statements.{block_form, else_if_form}
use Rattle.swift_ast.proofs.StatementShows as shows
use Rattle.swift_ast.proofs.StatementExits as exits
use Rattle.swift_parser.proofs.Exits.{passes, eaten, uneaten}
use Rattle.swift_parser.proofs.statements.Grammar.else_parts.Goals as goal

pub returns-in_err-body-clause-reads : goal.returns-in_err-body-clause-reads
returns-in_err-body-clause-reads g c =
    let e = eaten (on (is T.Else)) c.in_ok-else_keyword.field-0 c.in-Some.else_keyword c.loop-else_ifs.tokens c.eat.new.self c.in_ok-else_keyword.ensures.eaten c.in-Some.is in
    let s = subst (λ ts. exits.ElseSo c.loop-else_ifs.else_ifs c.args.tokens.now ts) e.0 c.loop-else_ifs.invariant.0 in
    let d = uneaten (on (is T.If)) c.in_ok-if_keyword.field-0 c.eat.new.self c.eat-in-Some.new.self c.in_ok-if_keyword.ensures.eaten c.in_default-2.is in
    let n = subst (λ ts. exits.ElseSo c.loop-else_ifs.else_ifs c.args.tokens.now (c.in-Some.else_keyword ∷ ts)) d.0 s in
    passes block_form shows.else_parts_form c.from_residual-in_err-body.result c.in_err-body.field-0.0 c.eat-in-Some.new.self c.inner.new.tokens c.args.tokens.now c.inner.new.tokens c.from_residual-in_err-body.ensures.1 c.in_err-body.ensures.reads
    (λ r. exits.else_no_block c.loop-else_ifs.else_ifs c.in-Some.else_keyword n e.1 d.1 r)

pub returns-in_default-2-clause-reads : goal.returns-in_default-2-clause-reads
returns-in_default-2-clause-reads g c =
    let e = eaten (on (is T.Else)) c.in_ok-else_keyword.field-0 c.in-Some.else_keyword c.loop-else_ifs.tokens c.eat.new.self c.in_ok-else_keyword.ensures.eaten c.in-Some.is in
    let s = subst (λ ts. exits.ElseSo c.loop-else_ifs.else_ifs c.args.tokens.now ts) e.0 c.loop-else_ifs.invariant.0 in
    let d = uneaten (on (is T.If)) c.in_ok-if_keyword.field-0 c.eat.new.self c.eat-in-Some.new.self c.in_ok-if_keyword.ensures.eaten c.in_default-2.is in
    let n = subst (λ ts. exits.ElseSo c.loop-else_ifs.else_ifs c.args.tokens.now (c.in-Some.else_keyword ∷ ts)) d.0 s in
    exits.else_last c.loop-else_ifs.else_ifs c.in-Some.else_keyword n e.1 c.in_ok-body.ensures.reads

pub returns-in_err-found-clause-reads : goal.returns-in_err-found-clause-reads
returns-in_err-found-clause-reads g c =
    let e = eaten (on (is T.Else)) c.in_ok-else_keyword.field-0 c.in-Some.else_keyword c.loop-else_ifs.tokens c.eat.new.self c.in_ok-else_keyword.ensures.eaten c.in-Some.is in
    let s = subst (λ ts. exits.ElseSo c.loop-else_ifs.else_ifs c.args.tokens.now ts) e.0 c.loop-else_ifs.invariant.0 in
    let i = eaten (on (is T.If)) c.in_ok-if_keyword.field-0 c.in-Some-2.if_keyword c.eat.new.self c.eat-in-Some.new.self c.in_ok-if_keyword.ensures.eaten c.in-Some-2.is in
    let m = subst (λ ts. exits.ElseSo c.loop-else_ifs.else_ifs c.args.tokens.now (c.in-Some.else_keyword ∷ ts)) i.0 s in
    passes else_if_form shows.else_parts_form c.from_residual-in_err-found.result c.in_err-found.field-0.0 (c.in-Some.else_keyword ∷ (c.in-Some-2.if_keyword ∷ c.eat-in-Some.new.self)) c.else_if_behind.new.tokens c.args.tokens.now c.else_if_behind.new.tokens c.from_residual-in_err-found.ensures.1 c.in_err-found.ensures.reads
    (λ r. exits.else_no_if c.loop-else_ifs.else_ifs c.in-Some.else_keyword c.in-Some-2.if_keyword m e.1 i.1 r)

pub loop-else_ifs-preserved : goal.loop-else_ifs-preserved
loop-else_ifs-preserved g c =
    let e = eaten (on (is T.Else)) c.in_ok-else_keyword.field-0 c.in-Some.else_keyword c.loop-else_ifs.tokens c.eat.new.self c.in_ok-else_keyword.ensures.eaten c.in-Some.is in
    let s = subst (λ ts. exits.ElseSo c.loop-else_ifs.else_ifs c.args.tokens.now ts) e.0 c.loop-else_ifs.invariant.0 in
    let i = eaten (on (is T.If)) c.in_ok-if_keyword.field-0 c.in-Some-2.if_keyword c.eat.new.self c.eat-in-Some.new.self c.in_ok-if_keyword.ensures.eaten c.in-Some-2.is in
    let m = subst (λ ts. exits.ElseSo c.loop-else_ifs.else_ifs c.args.tokens.now (c.in-Some.else_keyword ∷ ts)) i.0 s in (
      subst (λ es. exits.ElseSo es c.args.tokens.now c.else_if_behind.new.tokens) (sym c.in_ok-push.ensures.ok)
          (exits.else_pushed c.loop-else_ifs.else_ifs m c.in_ok-found.ensures.reads),
      omega (arith, c.loop-else_ifs.invariant.1, c.in_ok-found.ensures.shrinks, c.in_ok-if_keyword.ensures.shrinks, c.in_ok-else_keyword.ensures.shrinks),
    )

pub returns-clause-reads : goal.returns-clause-reads
returns-clause-reads g c =
    let e = uneaten (on (is T.Else)) c.in_ok-else_keyword.field-0 c.loop-else_ifs.tokens c.eat.new.self c.in_ok-else_keyword.ensures.eaten c.in_default.is in
    exits.else_done c.loop-else_ifs.else_ifs (subst (λ ts. exits.ElseSo c.loop-else_ifs.else_ifs c.args.tokens.now ts) e.0 c.loop-else_ifs.invariant.0) e.1
