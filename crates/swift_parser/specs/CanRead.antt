-- Function values that read expressions, and blocks, where fewer tokens are left than a limit.
use Rattle.std.specs.Prelude.{ℕ, ◌-◌, ◌<◌, ◌≤◌, List, length, Result}
use Rattle.std.specs.declared.alloc.Global.{Global}
use denote.Ref.{MutBor}
use Rattle.swift_ast.specs.declared.expressions.Expr.{Expr}
use Rattle.swift_ast.specs.declared.statements.Block.{Block}
use Rattle.swift_ast.specs.Leaves.{Leaf}
use Rattle.swift_ast.specs.Expressions.{expr_form}
use Rattle.swift_ast.specs.Statements.{block_form}
use Rattle.token_cursor.specs.declared.stop.Stop.{Stop}
use Rattle.token_cursor.specs.Reading.{Parses}

-- A function value can read an expression, where its contract is `pre` and `post` and fewer tokens are left than the limit:
-- it may then be called, tells what `Parses` says of an expression, and leaves no more tokens than there were.
pub record CanReadExpr (limit : ℕ) (pre : Global → MutBor (List Leaf) → ℕ → Type 0) (post : Global → MutBor (List Leaf) → ℕ → Result Expr Stop → MutBor (List Leaf) → Type 0) : Type 0 where
  pub callable : (alloc : Global) (old : MutBor (List Leaf)) → length old.now < limit → pre alloc old (limit - 1)
  pub reads : (alloc : Global) (old new : MutBor (List Leaf)) (r : Result Expr Stop) → post alloc old (limit - 1) r new → Parses expr_form r old.now new.now
  pub shrinks : (alloc : Global) (old new : MutBor (List Leaf)) (r : Result Expr Stop) → post alloc old (limit - 1) r new → length new.now ≤ length old.now

-- The same of a block.
pub record CanReadBlock (limit : ℕ) (pre : Global → MutBor (List Leaf) → ℕ → Type 0) (post : Global → MutBor (List Leaf) → ℕ → Result Block Stop → MutBor (List Leaf) → Type 0) : Type 0 where
  pub callable : (alloc : Global) (old : MutBor (List Leaf)) → length old.now < limit → pre alloc old (limit - 1)
  pub reads : (alloc : Global) (old new : MutBor (List Leaf)) (r : Result Block Stop) → post alloc old (limit - 1) r new → Parses block_form r old.now new.now
  pub shrinks : (alloc : Global) (old new : MutBor (List Leaf)) (r : Result Block Stop) → post alloc old (limit - 1) r new → length new.now ≤ length old.now
