-- The test for keys that moved.
use Rattle.std.proofs.Common.{◌≡◌, ◌≢◌, ◌↔◌, ℕ, Bool, true, false, not, List, Option, Some, None, nat_eq, refl, ap, sym, ◌∙◌}
use Rattle.std.specs.Prelude.{IsTrue}
use Rattle.std.specs.Cmp.Lexicographic.{pointwise, bytes_decides}
use Rattle.dep_key.specs.declared.key.Key.{Key}
use Rattle.dep_key.specs.declared.graph.Node.{Node}
use Rattle.dep_key.specs.Moved.{Moved, has_moved, print_of, same_print}

moved_at : (o p : Option (List ℕ)) → IsTrue (not (same_print o p)) ↔ (o ≢ p)
moved_at None None = (λ h. cc, λ differ. absurd (differ refl))
moved_at None (Some q) = (λ h e. cc, λ differ. refl)
moved_at (Some p) None = (λ h e. cc, λ differ. refl)
moved_at (Some p) (Some q) = (
  λ h e. (let same : p ≡ q = cc in let is : pointwise nat_eq p q ≡ true = (bytes_decides p q).1 same in let bad : not true ≡ true = ap not (sym is) ∙ h in cc),
  λ differ. (elim (pointwise nat_eq p q) as (λ b. pointwise nat_eq p q ≡ b → not b ≡ true) [ true ↦ λ e. absurd (differ (ap Some ((bytes_decides p q).0 e))) | false ↦ λ e. refl ]) refl,
)

pub moved_tells : (old new : List Node) (key : Key) → IsTrue (has_moved old new key) ↔ Moved old new key
moved_tells old new key = moved_at (print_of old key) (print_of new key)
