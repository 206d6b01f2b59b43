use Rattle.std.proofs.Common.{◌∷◌}
use Rattle.grammar.specs.Forms.{token}
use Rattle.grammar.proofs.Basics.{refused_from}
use Rattle.swift_ast.specs.declared.terminals.Terminal.TheVariants as T
use Rattle.swift_ast.specs.Tests.{on, is}
use Rattle.swift_ast.specs.Expressions.{expr_form}
use Rattle.swift_ast.specs.Statements.{type_form}
use Rattle.swift_ast.specs.Declarations.{initial_rule, stored_value_form}
use Rattle.swift_ast.proofs.DeclarationExits as exits
use Rattle.swift_parser.proofs.Exits.{passes, eaten, uneaten}
use Rattle.swift_parser.proofs.declarations.stored_value.Goals as goal

pub returns-in_err-assign-clause-reads : goal.returns-in_err-assign-clause-reads
returns-in_err-assign-clause-reads c =
    let u = uneaten (on (is T.Colon)) c.in_ok-colon.field-0 c.args.tokens.now c.eat.new.self c.in_ok-colon.ensures.eaten c.in_default.is in
    passes (token (on (is T.Assign))) stored_value_form c.from_residual-in_err-assign.result c.in_err-assign.field-0.0 c.eat.new.self c.expect.new.self c.args.tokens.now c.expect.new.self c.from_residual-in_err-assign.ensures.1 c.in_err-assign.ensures.reads
    (λ r. refused_from stored_value_form c.eat.new.self c.args.tokens.now c.expect.new.self (exits.stored_no_assign u.1 r) u.0)

pub returns-in_err-value-clause-reads : goal.returns-in_err-value-clause-reads
returns-in_err-value-clause-reads c =
    let u = uneaten (on (is T.Colon)) c.in_ok-colon.field-0 c.args.tokens.now c.eat.new.self c.in_ok-colon.ensures.eaten c.in_default.is in
    passes expr_form stored_value_form c.from_residual-in_err-value.result c.in_err-value.field-0.0 c.expect.new.self c.expr.new.tokens c.args.tokens.now c.expr.new.tokens c.from_residual-in_err-value.ensures.1 c.in_err-value.ensures.reads
    (λ r. refused_from stored_value_form c.eat.new.self c.args.tokens.now c.expr.new.tokens (exits.stored_no_value u.1 c.in_ok-assign.ensures.reads r) u.0)

pub returns-in_err-written-clause-reads : goal.returns-in_err-written-clause-reads
returns-in_err-written-clause-reads c =
    let e = eaten (on (is T.Colon)) c.in_ok-colon.field-0 c.in-Some.colon c.args.tokens.now c.eat.new.self c.in_ok-colon.ensures.eaten c.in-Some.is in
    passes type_form stored_value_form c.from_residual-in_err-written.result c.in_err-written.field-0.0 c.eat.new.self c.type_name.new.tokens c.args.tokens.now c.type_name.new.tokens c.from_residual-in_err-written.ensures.1 c.in_err-written.ensures.reads
    (λ r. refused_from stored_value_form (c.in-Some.colon ∷ c.eat.new.self) c.args.tokens.now c.type_name.new.tokens (exits.stored_no_type c.in-Some.colon e.1 r) e.0)

pub returns-in_err-value-2-clause-reads : goal.returns-in_err-value-2-clause-reads
returns-in_err-value-2-clause-reads c =
    let e = eaten (on (is T.Colon)) c.in_ok-colon.field-0 c.in-Some.colon c.args.tokens.now c.eat.new.self c.in_ok-colon.ensures.eaten c.in-Some.is in
    passes initial_rule stored_value_form c.from_residual-in_err-value-2.result c.in_err-value-2.field-0.0 c.type_name.new.tokens c.initial.new.tokens c.args.tokens.now c.initial.new.tokens c.from_residual-in_err-value-2.ensures.1 c.in_err-value-2.ensures.reads
    (λ r. refused_from stored_value_form (c.in-Some.colon ∷ c.eat.new.self) c.args.tokens.now c.initial.new.tokens (exits.stored_no_initial c.in-Some.colon e.1 c.in_ok-written.ensures.reads r) e.0)
