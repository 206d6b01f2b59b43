use Rattle.std.proofs.Common.{refl, sym, ◌∙◌}
use Rattle.grammar.specs.Forms.{token}
use Rattle.grammar.proofs.Basics.{apart_stops}
use Rattle.swift_ast.specs.declared.terminals.Terminal.TheVariants as T
use Rattle.swift_ast.specs.Tests.{on, is, is_simple_atom}
use Rattle.swift_ast.specs.Expressions.{atom_form}
use Rattle.swift_ast.proofs.TestFacts.{apart}
use Rattle.swift_ast.proofs.ExpressionExits as exits
use Rattle.swift_parser.proofs.Exits.{passes}
use Rattle.swift_parser.proofs.expressions.Grammar.atom.Goals as goal

pub returns-in_err-opening-clause-reads : goal.returns-in_err-opening-clause-reads
returns-in_err-opening-clause-reads g c =
    passes (token (on (is T.LeftParenthesis))) atom_form c.from_residual.result c.in_err-opening.field-0.0 c.args.tokens.now c.expect.new.self c.args.tokens.now c.expect.new.self c.from_residual.ensures.1 c.in_err-opening.ensures.reads
    (λ r. exits.atom_unopened (apart_stops (on (is T.LeftParenthesis)) (on is_simple_atom) c.args.tokens.now (apart (is T.LeftParenthesis) is_simple_atom refl) (sym c.sees.ensures ∙ c.if-not-sees.false)) r)
