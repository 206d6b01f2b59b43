-- Blocks.
use Rattle.std.proofs.Common.{◌≡◌, ℕ, Bool, length, List, [], ◌∷◌, ◌++◌, Option, Some, refl, sym, ap, ◌∙◌}
use Rattle.dep_key.specs.declared.key.Key.{Key}
use Rattle.type_rules.specs.declared.meaning.Meaning.{Meaning}
use Rattle.typed_code.specs.declared.step.Step.{Step}
use Rattle.checks.specs.Checks.{sure}
use Rattle.checks.specs.Logs.{Logged, made, made_then}
use Rattle.expr_check.specs.declared.line.Line.{Line}
use Rattle.expr_check.specs.declared.scope.Local.{Local}
use Rattle.expr_check.specs.declared.scope.Scope.{Scope}
use Rattle.expr_check.specs.Messages.{orders}
use Rattle.expr_check.specs.Scopes.{innermost, in_innermost, entering, leaving, declaring}
use Rattle.expr_check.proofs.CheckLaws.{bind}
use Rattle.type_rules.specs.declared.ty.Ty.{Ty}
use Rattle.body_check.specs.Blocks.{outer_blocks, without_innermost, surroundings}
use Rattle.body_check.specs.Statements.{Read, Statement, row_behind, in_block}

pub outer_last : (bs : List (List Local)) (b : List Local) → outer_blocks (bs ++ b ∷ []) ≡ bs
outer_last [] b = refl
outer_last (x ∷ []) b = refl
outer_last (x ∷ y ∷ bs) b = ap (λ l. x ∷ l) (outer_last (y ∷ bs) b)

pub in_last : (bs : List (List Local)) (b : List Local) (l : Local) → in_innermost (bs ++ b ∷ []) l ≡ bs ++ (b ++ l ∷ []) ∷ []
in_last [] b l = refl
in_last (x ∷ []) b l = refl
in_last (x ∷ y ∷ bs) b l = ap (λ m. x ∷ m) (in_last (y ∷ bs) b l)

pub innermost_more : (b : List Local) (bs : List (List Local)) → (bs ≡ [] → ⊥) → innermost (b ∷ bs) ≡ innermost bs
innermost_more b [] h = absurd (h refl)
innermost_more b (x ∷ bs) h = refl

outer_declared : (bs : List (List Local)) (l : Local) → outer_blocks (in_innermost bs l) ≡ outer_blocks bs
outer_declared [] l = refl
outer_declared (b ∷ []) l = refl
outer_declared (b ∷ c ∷ []) l = refl
outer_declared (b ∷ c ∷ d ∷ bs) l = ap (λ m. b ∷ m) (outer_declared (c ∷ d ∷ bs) l)

-- a declaration stays in its block
pub declared_inside : (s : Scope) (name : List ℕ) (of : Option Ty) (mutable : Bool) → surroundings (declaring s name of mutable) ≡ surroundings s
declared_inside s name of mutable = ap (λ bs. record s { blocks = bs; types = [] }) (outer_declared s.blocks (record { name = name; ty = of; mutable = mutable; number = length s.types }))

-- out of a block that was entered, where what stands in it stayed inside
pub left : (s t u : Scope) → surroundings t ≡ surroundings (entering s) → u ≡ without_innermost t → u ≡ leaving s t
left s t u h e = e ∙ ap (λ (x : Scope). record x { types = t.types }) h ∙ ap (λ bs. record s { blocks = bs; types = t.types }) (outer_last s.blocks [])

pub left_alone : (s t u : Scope) → surroundings t ≡ surroundings (entering s) → u ≡ without_innermost t → u ≡ leaving s u
left_alone s t u h e = left s t u h e ∙ sym (ap (λ (x : Scope). leaving s x) e)

abbrev behind_block : Scope → Scope × Option (List Step) → Read
behind_block s r = sure (leaving s r.0, r.1)

-- a block, by the statements in it
pub block_read : (m : Key → Meaning) (xs : List Statement) (s t u : Scope) (code : Option (List Step)) (log new : Logged Key Line) → (Some (t, code), new) ≡ made orders m (row_behind (Some []) xs (entering s)) log → surroundings t ≡ surroundings (entering s) → u ≡ without_innermost t →
    (Some (u, code), new) ≡ made orders m (in_block xs s) log
block_read m xs s t u code log new r h e =
    ap (λ x. (Some (x, code), new)) (left s t u h e)
    ∙ sym (bind orders m (row_behind (Some []) xs (entering s)) (behind_block s) log ∙ ap (λ x. made_then x (λ p l. made orders m (behind_block s p) l)) (sym r))

-- a block leaves all around it
pub stays_inside : (s t : Scope) → t ≡ leaving s t → surroundings t ≡ surroundings s
stays_inside s t h = ap surroundings h
