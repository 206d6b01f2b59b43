-- Pieces of code with labels.
use Rattle.std.specs.Prelude.{ℕ, ◌+◌, List, [], ◌∷◌, ◌++◌, true, false}
use Rattle.object_emit.specs.declared.instruction.Instruction.{Instruction}
use Rattle.object_emit.specs.declared.instruction.Instruction.TheVariants as op

-- Instructions, and the first label number that is free behind them.
pub record Emitted : Type 0 where
  pub code : List Instruction
  pub next : ℕ

-- A piece of code, for each number from which its labels may be taken.
abbrev pub Piece : Type 0
Piece = ℕ → Emitted

-- instructions that take no label
abbrev pub plain : List Instruction → Piece
plain code n = record { code = code; next = n }

abbrev pub one : Instruction → Piece
one instruction = plain (instruction ∷ [])

-- a piece behind what was emitted before
abbrev pub behind : Emitted → Piece → Emitted
behind before p = record { code = before.code ++ (p before.next).code; next = (p before.next).next }

-- two pieces, one behind the other
abbrev pub joined : Piece → Piece → Piece
joined p q n = behind (p n) q

abbrev pub in_row : List Piece → Piece
in_row [] = plain []
in_row (p ∷ ps) = joined p (in_row ps)

-- a piece that takes labels for itself, the first of which it is told
abbrev pub taking : ℕ → (ℕ → Piece) → Piece
taking count p n = p n (n + count)

-- The right operand of `&&`: where the left one is false, so is the whole.
abbrev pub and_piece : Piece → Piece
and_piece right = taking 2 (λ n. in_row (one (op.Unless n) ∷ right ∷ plain (op.Jump (n + 1) ∷ op.Label n ∷ op.Bool false ∷ op.Label (n + 1) ∷ []) ∷ []))

-- The right operand of `||`: where the left one is true, so is the whole.
abbrev pub or_piece : Piece → Piece
or_piece right = taking 2 (λ n. in_row (plain (op.Unless n ∷ op.Bool true ∷ op.Jump (n + 1) ∷ op.Label n ∷ []) ∷ right ∷ one (op.Label (n + 1)) ∷ []))

abbrev pub while_piece : Piece → Piece → Piece
while_piece condition block = taking 2 (λ n. in_row (one (op.Label n) ∷ condition ∷ one (op.Unless (n + 1)) ∷ block ∷ plain (op.Jump n ∷ op.Label (n + 1) ∷ []) ∷ []))

-- A branch of an `if` that ends at a label. It takes one behind the condition.
abbrev pub branch_piece : ℕ → Piece × Piece → Piece
branch_piece end (condition, block) = joined condition (taking 1 (λ n. in_row (one (op.Unless n) ∷ block ∷ plain (op.Jump end ∷ op.Label n ∷ []) ∷ [])))

abbrev pub branches_piece : ℕ → List (Piece × Piece) → Piece
branches_piece end [] = plain []
branches_piece end (b ∷ branches) = joined (branch_piece end b) (branches_piece end branches)

abbrev pub if_piece : List (Piece × Piece) → Piece → Piece
if_piece branches last = taking 1 (λ n. in_row (branches_piece n branches ∷ last ∷ one (op.Label n) ∷ []))
