-- Function values that check expressions.
use Rattle.std.specs.Prelude.{◌≡◌, ℕ, ◌-◌, ◌<◌, Option, IfOk, Result}
use Rattle.std.specs.declared.alloc.Global.{Global}
use denote.Ref.{Bor, MutBor}
use Rattle.dep_key.specs.declared.key.Key.{Key}
use Rattle.dep_key.specs.declared.no_memory.NoMemory.{NoMemory}
use Rattle.type_rules.specs.declared.meaning.Meaning.{Meaning}
use Rattle.swift_ast.specs.declared.expressions.Expr.{Expr}
use Rattle.checks.specs.Logs.{Logged, made}
use Rattle.expr_check.specs.declared.line.Line.{Line}
use Rattle.expr_check.specs.declared.typed.Typed.{Typed}
use Rattle.expr_check.specs.declared.scope.Scope.{Scope}
use Rattle.expr_check.specs.Messages.{orders}
use Rattle.expr_check.specs.Phrases.{expr_phrase}

-- A function value can check expressions, where its contract is `pre` and `post` and more brackets may be open: it may then be called, and
-- makes what the check of the expression is.
pub record CanCheck {X : Type 0} (meanings : X → Key → Meaning) (limit : ℕ) (pre : Global → Bor X → MutBor (Logged Key Line) → Bor Scope → Bor Expr → ℕ → Type 0)
    (post : Global → Bor X → MutBor (Logged Key Line) → Bor Scope → Bor Expr → ℕ → Result (Option Typed) NoMemory → MutBor (Logged Key Line) → Type 0) : Type 0 where
  pub callable : (alloc : Global) (answers : Bor X) (log : MutBor (Logged Key Line)) (scope : Bor Scope) (tree : Bor Expr) → 0 < limit → pre alloc answers log scope tree (limit - 1)
  pub checks : (alloc : Global) (answers : Bor X) (old new : MutBor (Logged Key Line)) (scope : Bor Scope) (tree : Bor Expr) (r : Result (Option Typed) NoMemory) →
      post alloc answers old scope tree (limit - 1) r new → IfOk r (λ got. (got, new.now) ≡ made orders (meanings answers.now) ((expr_phrase tree.now).check scope.now) old.now)
