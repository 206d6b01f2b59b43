use Rattle.std.proofs.Common.{◌∷◌}
use Rattle.grammar.specs.Forms.{token}
use Rattle.grammar.proofs.Basics.{refused_from}
use Rattle.swift_ast.specs.declared.terminals.Terminal.TheVariants as T
use Rattle.swift_ast.specs.Tests.{on, is}
use Rattle.swift_ast.specs.Declarations.{param_form}
use Rattle.swift_ast.proofs.DeclarationExits as exits
use Rattle.swift_parser.proofs.Exits.{passes, eaten, uneaten}
use Rattle.swift_parser.proofs.declarations.param.Goals as goal

pub returns-in_err-name-clause-reads : goal.returns-in_err-name-clause-reads
returns-in_err-name-clause-reads c =
    let e = eaten (on (is T.Wildcard)) c.in_ok-wildcard.field-0 c.in-Some.wildcard c.args.tokens.now c.eat.new.self c.in_ok-wildcard.ensures.eaten c.in-Some.is in
    passes (token (on (is T.Identifier))) param_form c.from_residual-in_err-name.result c.in_err-name.field-0.0 c.eat.new.self c.expect.new.self c.args.tokens.now c.expect.new.self c.from_residual-in_err-name.ensures.1 c.in_err-name.ensures.reads
    (λ r. refused_from param_form (c.in-Some.wildcard ∷ c.eat.new.self) c.args.tokens.now c.expect.new.self (exits.param_no_name c.in-Some.wildcard e.1 r) e.0)

pub returns-in_err-first-clause-reads : goal.returns-in_err-first-clause-reads
returns-in_err-first-clause-reads c =
    let u = uneaten (on (is T.Wildcard)) c.in_ok-wildcard.field-0 c.args.tokens.now c.eat.new.self c.in_ok-wildcard.ensures.eaten c.in_default.is in
    passes (token (on (is T.Identifier))) param_form c.from_residual-in_err-first.result c.in_err-first.field-0.0 c.eat.new.self c.expect-2.new.self c.args.tokens.now c.expect-2.new.self c.from_residual-in_err-first.ensures.1 c.in_err-first.ensures.reads
    (λ r. refused_from param_form c.eat.new.self c.args.tokens.now c.expect-2.new.self (exits.param_unnamed u.1 r) u.0)
