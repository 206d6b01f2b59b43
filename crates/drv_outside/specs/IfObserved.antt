use Rattle.std.specs.Prelude.{◌≡◌, Option, Some, None, option_map, IfSome, ⊤}
use Rattle.std.proofs.Common.{refl, subst, sym}
use Rattle.drv_outside.specs.TreeState.{TreeState}

-- What a tree held before and holds after, where it tells: a tree that told it before tells it still, and the two are so.
abbrev pub IfObserved : Option TreeState → Option TreeState → (TreeState → TreeState → Type 0) → Type 0
IfObserved None after P = ⊤
IfObserved (Some t) None P = ⊥
IfObserved (Some t) (Some u) P = P t u

-- from what a call makes of the tree and what its answer tells
pub if_observed : (P : TreeState → TreeState → Type 0) (f : TreeState → TreeState) (Q : TreeState → Type 0) (before after : Option TreeState) → after ≡ option_map f before → IfSome before Q → ((t : TreeState) → Q t → P t (f t)) → IfObserved before after P
if_observed P f Q None after e q h = tt
if_observed P f Q (Some t) after e q h = subst (λ o. IfObserved (Some t) o P) (sym e) (h t q)

-- one change after another is one change
pub option_map_twice : (g f : TreeState → TreeState) (o : Option TreeState) → option_map g (option_map f o) ≡ option_map (λ t. g (f t)) o
option_map_twice g f None = refl
option_map_twice g f (Some t) = refl
