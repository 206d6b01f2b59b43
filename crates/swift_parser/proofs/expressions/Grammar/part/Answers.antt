use Rattle.std.proofs.Common.{◌≡◌, true, ◌∷◌, refl, sym, ◌∙◌, subst}
use Rattle.grammar.specs.Forms.{token, begins_by}
use Rattle.grammar.proofs.Basics.{refused_from}
use Rattle.swift_ast.specs.declared.terminals.Terminal.TheVariants as T
use Rattle.swift_ast.specs.Tests.{on, is, opens_args, begins_part}
use Rattle.swift_ast.specs.Expressions.{part_form, args_form}
use Rattle.swift_ast.proofs.TestFacts.{within}
use Rattle.swift_ast.proofs.ExpressionExits as exits
use Rattle.swift_parser.proofs.Exits.{passes_to, eaten, uneaten}
use Rattle.swift_parser.proofs.expressions.Grammar.part.Goals as goal

pub returns-in_err-name-clause-reads : goal.returns-in_err-name-clause-reads
returns-in_err-name-clause-reads g c =
    let e = eaten (on (is T.Dot)) c.in_ok-dot.field-0 c.in-Some.dot c.args.tokens.now c.eat.new.self c.in_ok-dot.ensures.eaten c.in-Some.is in
    passes_to (on begins_part) (token (on (is T.Identifier))) part_form c.from_residual-in_err-name.result c.in_err-name.field-0.0 c.eat.new.self c.expect.new.self c.args.tokens.now c.expect.new.self c.from_residual-in_err-name.ensures.1 c.in_err-name.ensures.reads
    (subst (λ ts. begins_by (on begins_part) ts ≡ true) (sym e.0) (within (is T.Dot) begins_part refl c.in-Some.dot e.1))
    (λ r. refused_from part_form (c.in-Some.dot ∷ c.eat.new.self) c.args.tokens.now c.expect.new.self (exits.part_member_refused c.in-Some.dot e.1 r) e.0)

pub returns-in_err-args-clause-reads : goal.returns-in_err-args-clause-reads
returns-in_err-args-clause-reads g c =
    let d = uneaten (on (is T.Dot)) c.in_ok-dot.field-0 c.args.tokens.now c.eat.new.self c.in_ok-dot.ensures.eaten c.in_default.is in
    let e = eaten (on opens_args) c.in_ok-opening.field-0 c.in-Some-2.opening c.eat.new.self c.eat-2.new.self c.in_ok-opening.ensures.eaten c.in-Some-2.is in
    passes_to (on begins_part) args_form part_form c.from_residual-in_err-args.result c.in_err-args.field-0.0 (c.in-Some-2.opening ∷ c.eat-2.new.self) c.args_behind.new.tokens c.args.tokens.now c.args_behind.new.tokens c.from_residual-in_err-args.ensures.1 c.in_err-args.ensures.reads
    (subst (λ ts. begins_by (on begins_part) ts ≡ true) (sym (d.0 ∙ e.0)) (within opens_args begins_part refl c.in-Some-2.opening e.1))
    (λ r. refused_from part_form (c.in-Some-2.opening ∷ c.eat-2.new.self) c.args.tokens.now c.args_behind.new.tokens (exits.part_args_refused c.in-Some-2.opening e.1 r) (d.0 ∙ e.0))
