use Rattle.std.proofs.Common.{ℕ, List, ◌+◌, ◌≤◌, ◌++◌, take}
use Rattle.swift_token.specs.Positions.{IsPositionBehind}
use Rattle.swift_token.proofs.positions.Position.behind.Given as goal

abbrev pub invariant-loop-byte : goal.invariant-loop-byte
invariant-loop-byte l = record {
  line_bound : l.line ≤ l.fn.self.line + l.byte-index;
  column_bound : l.column ≤ l.fn.self.column + l.byte-index;
  place : (before : List ℕ) → IsPositionBehind l.fn.self before → IsPositionBehind (record { line = l.line; column = l.column }) (before ++ take l.byte-index l.bytes);
}
