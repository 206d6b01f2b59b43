use Rattle.std.proofs.Common.{◌≡◌, ◌≤◌, map, drop}
use Rattle.swift_ast.specs.Leaves.{leaf_of}
use Rattle.swift_ast.specs.Tests.{on, opens_level, closes_level}
use Rattle.grammar.specs.Levels.{too_deep}
use Rattle.swift_parser.proofs.file.too_deep_at.Given as goal

abbrev pub invariant-loop-at : goal.invariant-loop-at
invariant-loop-at l =
    (too_deep (on opens_level) (on closes_level) 100 0 (map leaf_of l.fn.tokens) ≡ too_deep (on opens_level) (on closes_level) 100 l.held (map leaf_of (drop l.at l.fn.tokens)))
    × (l.held ≤ 100)
