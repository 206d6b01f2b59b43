use Rattle.std.proofs.Common.{List, sym, subst}
use Rattle.grammar.specs.Faults.{FailsAt}
use Rattle.grammar.proofs.Basics.{not_begins}
use Rattle.grammar.proofs.Sequences.{token_refused}
use Rattle.swift_ast.specs.declared.terminals.Terminal.TheVariants as T
use Rattle.swift_ast.specs.Leaves.{Leaf}
use Rattle.swift_ast.specs.Tests.{on, is, is_simple_atom}
use Rattle.swift_ast.specs.Expressions.{atom_form}
use Rattle.swift_ast.proofs.ExpressionExits as exits
use Rattle.token_cursor.specs.declared.token_class.TokenClass.TheVariants as test
use Rattle.token_cursor.specs.Reading.{TakesIf}
use Rattle.token_cursor.proofs.Samples.{sample_of, sample_holds}
use Rattle.swift_parser.proofs.expressions.lone_atom.Goals as goal

pub returns-in-None-clause-reads : goal.returns-in-None-clause-reads
returns-in-None-clause-reads c =
    let t = subst (λ o. TakesIf (on is_simple_atom) atom_form o c.args.tokens.now c.simple_atom.new.tokens) c.in-None.is c.in_ok-atom.ensures.takes in
    subst (λ (ts : List Leaf). FailsAt atom_form c.args.tokens.now ts) (sym t.0)
    (exits.atom_unopened t.1 (token_refused (on (is T.LeftParenthesis)) (sample_of (test.Is T.LeftParenthesis)) c.args.tokens.now (sample_holds (test.Is T.LeftParenthesis)) (not_begins (on (is T.LeftParenthesis)) c.args.tokens.now c.requires.unopened)))
