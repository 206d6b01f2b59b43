-- Places as the lexer keeps them.
use Rattle.std.specs.Prelude.{ℕ, ◌≡◌, List}
use Rattle.swift_token.specs.Spelling.{line_behind, column_behind}
use Rattle.swift_token.specs.declared.positions.Position.{Position}

-- The place is the one behind the text.
pub record IsPositionBehind (p : Position) (before : List ℕ) : Type 0 where
  pub line : p.line ≡ line_behind before
  pub column : p.column ≡ column_behind before
