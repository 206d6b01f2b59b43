use Rattle.std.proofs.Common.{ℕ, List, length, map}
use Rattle.std.specs.Str.{IsUtf8}
use Rattle.swift_ast.specs.Leaves.{leaf_of}
use Rattle.swift_token.specs.Positions.{IsPositionBehind}
use Rattle.swift_token.proofs.Lexed.{Lexed}
use Rattle.swift_token.proofs.lexer.tokens.Given as goal

abbrev pub invariant-tokens : goal.invariant-tokens
invariant-tokens l = (before : List ℕ) × Lexed l.fn.text before l.rest (map leaf_of l.tokens.items) × IsPositionBehind l.place before × IsUtf8 l.rest

abbrev pub decreases-tokens : goal.decreases-tokens
decreases-tokens l = length l.rest
