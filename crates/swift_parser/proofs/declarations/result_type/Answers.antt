use Rattle.std.proofs.Common.{◌∷◌}
use Rattle.grammar.proofs.Basics.{refused_from}
use Rattle.swift_ast.specs.declared.terminals.Terminal.TheVariants as T
use Rattle.swift_ast.specs.Tests.{on, is}
use Rattle.swift_ast.specs.Statements.{type_form}
use Rattle.swift_ast.specs.Declarations.{result_rule}
use Rattle.swift_ast.proofs.DeclarationExits as exits
use Rattle.swift_parser.proofs.Exits.{passes, eaten}
use Rattle.swift_parser.proofs.declarations.result_type.Goals as goal

pub returns-in_err-written-clause-reads : goal.returns-in_err-written-clause-reads
returns-in_err-written-clause-reads c =
    let e = eaten (on (is T.Arrow)) c.in_ok-arrow.field-0 c.in-Some.arrow c.args.tokens.now c.eat.new.self c.in_ok-arrow.ensures.eaten c.in-Some.is in
    passes type_form result_rule c.from_residual-in_err-written.result c.in_err-written.field-0.0 c.eat.new.self c.type_name.new.tokens c.args.tokens.now c.type_name.new.tokens c.from_residual-in_err-written.ensures.1 c.in_err-written.ensures.reads
    (λ r. refused_from result_rule (c.in-Some.arrow ∷ c.eat.new.self) c.args.tokens.now c.type_name.new.tokens (exits.result_refused c.in-Some.arrow e.1 r) e.0)
