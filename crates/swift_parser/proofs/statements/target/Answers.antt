use Rattle.std.proofs.Common.{sym, subst, arith}
use Rattle.grammar.specs.Forms.{token}
use Rattle.swift_ast.specs.declared.terminals.Terminal.TheVariants as T
use Rattle.swift_ast.specs.Tests.{on, is}
use Rattle.swift_ast.specs.Statements.{target_form}
use Rattle.swift_ast.proofs.StatementExits as exits
use Rattle.swift_parser.proofs.Exits.{passes, eaten, uneaten}
use Rattle.swift_parser.proofs.statements.target.Goals as goal

pub returns-in_err-root-clause-reads : goal.returns-in_err-root-clause-reads
returns-in_err-root-clause-reads c =
    passes (token (on (is T.Identifier))) target_form c.from_residual.result c.in_err-root.field-0.0 c.args.tokens.now c.expect.new.self c.args.tokens.now c.expect.new.self c.from_residual.ensures.1 c.in_err-root.ensures.reads
    (λ r. exits.target_first r)

pub returns-in_err-name-clause-reads : goal.returns-in_err-name-clause-reads
returns-in_err-name-clause-reads c =
    let e = eaten (on (is T.Dot)) c.in_ok-dot.field-0 c.in-Some.dot c.loop-members.tokens c.eat.new.self c.in_ok-dot.ensures.eaten c.in-Some.is in
    let s = subst (λ ts. exits.TargetSo (c.in_ok-root.root, c.loop-members.members) c.args.tokens.now ts) e.0 c.loop-members.invariant.0 in
    passes (token (on (is T.Identifier))) target_form c.from_residual-in_err-name.result c.in_err-name.field-0.0 c.eat.new.self c.expect-in-Some.new.self c.args.tokens.now c.expect-in-Some.new.self c.from_residual-in_err-name.ensures.1 c.in_err-name.ensures.reads
    (λ r. exits.target_later (c.in_ok-root.root, c.loop-members.members) c.in-Some.dot s e.1 r)

pub loop-members-preserved : goal.loop-members-preserved
loop-members-preserved c =
    let e = eaten (on (is T.Dot)) c.in_ok-dot.field-0 c.in-Some.dot c.loop-members.tokens c.eat.new.self c.in_ok-dot.ensures.eaten c.in-Some.is in
    let s = subst (λ ts. exits.TargetSo (c.in_ok-root.root, c.loop-members.members) c.args.tokens.now ts) e.0 c.loop-members.invariant.0 in (
      subst (λ ps. exits.TargetSo (c.in_ok-root.root, ps) c.args.tokens.now c.expect-in-Some.new.self) (sym c.in_ok-push.ensures.ok)
          (exits.target_pushed (c.in_ok-root.root, c.loop-members.members) c.in-Some.dot s e.1 c.in_ok-name.ensures.reads),
      omega (arith, c.loop-members.invariant.1, c.in_ok-name.ensures.shrinks, c.in_ok-dot.ensures.shrinks),
    )

pub returns-clause-reads : goal.returns-clause-reads
returns-clause-reads c =
    let e = uneaten (on (is T.Dot)) c.in_ok-dot.field-0 c.loop-members.tokens c.eat.new.self c.in_ok-dot.ensures.eaten c.in_default.is in
    exits.target_done (c.in_ok-root.root, c.loop-members.members) (subst (λ ts. exits.TargetSo (c.in_ok-root.root, c.loop-members.members) c.args.tokens.now ts) e.0 c.loop-members.invariant.0) e.1
