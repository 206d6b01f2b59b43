use Rattle.std.proofs.Common.{◌∷◌, subst}
use Rattle.grammar.specs.Forms.{nothing, token}
use Rattle.grammar.specs.Faults.{Parsed}
use Rattle.swift_ast.specs.declared.terminals.Terminal.TheVariants as T
use Rattle.swift_ast.specs.Tests.{on, is}
use Rattle.swift_ast.specs.Expressions.{expr_form}
use Rattle.swift_ast.specs.Declarations.{struct_member_form}
use Rattle.swift_ast.proofs.DeclarationExits as exits
use Rattle.swift_parser.proofs.Exits.{passes, uneaten}
use Rattle.swift_parser.proofs.declarations.property_behind.Goals as goal

pub returns-in_err-name-clause-reads : goal.returns-in_err-name-clause-reads
returns-in_err-name-clause-reads c = passes (token (on (is T.Identifier))) struct_member_form c.from_residual.result c.in_err-name.field-0.0 c.args.tokens.now c.expect.new.self (c.args.keyword ∷ c.args.tokens.now) c.expect.new.self c.from_residual.ensures.1 c.in_err-name.ensures.reads
    (λ r. exits.property_no_name c.args.keyword c.requires.keyword r)

pub returns-in_err-assign-clause-reads : goal.returns-in_err-assign-clause-reads
returns-in_err-assign-clause-reads c =
    let u = uneaten (on (is T.Colon)) c.in_ok-colon.field-0 c.expect.new.self c.eat.new.self c.in_ok-colon.ensures.eaten c.in_default.is in
    passes (token (on (is T.Assign))) struct_member_form c.from_residual-in_err-assign.result c.in_err-assign.field-0.0 c.eat.new.self c.expect-2.new.self (c.args.keyword ∷ c.args.tokens.now) c.expect-2.new.self c.from_residual-in_err-assign.ensures.1 c.in_err-assign.ensures.reads
    (λ r. exits.property_no_assign c.args.keyword c.requires.keyword (subst (λ ts. Parsed (token (on (is T.Identifier))) c.in_ok-name.name nothing c.args.tokens.now ts) u.0 c.in_ok-name.ensures.reads) u.1 r)

pub returns-in_err-value-clause-reads : goal.returns-in_err-value-clause-reads
returns-in_err-value-clause-reads c =
    let u = uneaten (on (is T.Colon)) c.in_ok-colon.field-0 c.expect.new.self c.eat.new.self c.in_ok-colon.ensures.eaten c.in_default.is in
    passes expr_form struct_member_form c.from_residual-in_err-value.result c.in_err-value.field-0.0 c.expect-2.new.self c.expr.new.tokens (c.args.keyword ∷ c.args.tokens.now) c.expr.new.tokens c.from_residual-in_err-value.ensures.1 c.in_err-value.ensures.reads
    (λ r. exits.property_no_value c.args.keyword c.requires.keyword (subst (λ ts. Parsed (token (on (is T.Identifier))) c.in_ok-name.name nothing c.args.tokens.now ts) u.0 c.in_ok-name.ensures.reads) u.1 c.in_ok-assign.ensures.reads r)
