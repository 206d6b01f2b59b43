use Rattle.std.proofs.Common.{List, ◌≤◌, length}
use Rattle.grammar.specs.Faults.{Parsed}
use Rattle.swift_ast.specs.Leaves.{Leaf}
use Rattle.swift_ast.specs.Expressions.{prefix_form}
use Rattle.swift_ast.proofs.ExpressionExits as exits
use Rattle.swift_parser.proofs.expressions.Grammar.and_behind.Given as goal

abbrev pub invariant-loop-more : goal.invariant-loop-more
invariant-loop-more g l =
    ((old : List Leaf) → Parsed prefix_form l.fn.front (prefix_form.continues l.fn.front) old l.fn.tokens → exits.AndSo (l.first, l.more) old l.tokens)
    × (length l.tokens ≤ length l.fn.tokens)

abbrev pub decreases-loop-more : goal.decreases-loop-more
decreases-loop-more g l = length l.tokens
