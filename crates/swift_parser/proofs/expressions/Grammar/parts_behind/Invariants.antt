use Rattle.std.proofs.Common.{List, ◌≤◌, length}
use Rattle.grammar.specs.Faults.{Parsed}
use Rattle.swift_ast.specs.Leaves.{Leaf}
use Rattle.swift_ast.specs.Expressions.{atom_form}
use Rattle.swift_ast.proofs.ExpressionExits as exits
use Rattle.swift_parser.proofs.expressions.Grammar.parts_behind.Given as goal

abbrev pub invariant-loop-parts : goal.invariant-loop-parts
invariant-loop-parts g l =
    ((old : List Leaf) → Parsed atom_form l.fn.front (atom_form.continues l.fn.front) old l.fn.tokens → exits.PostfixSo (l.front, l.parts) old l.tokens)
    × (length l.tokens ≤ length l.fn.tokens)

abbrev pub decreases-loop-parts : goal.decreases-loop-parts
decreases-loop-parts g l = length l.tokens
