use Rattle.std.proofs.Common.{◌∷◌}
use Rattle.grammar.proofs.Basics.{refused_from}
use Rattle.swift_ast.specs.declared.terminals.Terminal.TheVariants as T
use Rattle.swift_ast.specs.Tests.{on, is}
use Rattle.swift_ast.specs.Expressions.{expr_form}
use Rattle.swift_ast.specs.Declarations.{initial_rule}
use Rattle.swift_ast.proofs.DeclarationExits as exits
use Rattle.swift_parser.proofs.Exits.{passes, eaten}
use Rattle.swift_parser.proofs.declarations.initial.Goals as goal

pub returns-in_err-value-clause-reads : goal.returns-in_err-value-clause-reads
returns-in_err-value-clause-reads c =
    let e = eaten (on (is T.Assign)) c.in_ok-assign.field-0 c.in-Some.assign c.args.tokens.now c.eat.new.self c.in_ok-assign.ensures.eaten c.in-Some.is in
    passes expr_form initial_rule c.from_residual-in_err-value.result c.in_err-value.field-0.0 c.eat.new.self c.expr.new.tokens c.args.tokens.now c.expr.new.tokens c.from_residual-in_err-value.ensures.1 c.in_err-value.ensures.reads
    (λ r. refused_from initial_rule (c.in-Some.assign ∷ c.eat.new.self) c.args.tokens.now c.expr.new.tokens (exits.initial_refused c.in-Some.assign e.1 r) e.0)
