-- What is entered into a set stands in it, and nothing else.
use Rattle.std.proofs.Common.{◌≡◌, List, [], ◌∷◌, refl, sym, subst, ◌⊎◌, inl, inr}
use Rattle.std.specs.BTreeSet.{insert_key}
use Rattle.std.specs.Ordering.{match_ordering}
use Rattle.std.specs.declared.cmp.Ordering.TheVariants.{Less, Equal, Greater}
use Rattle.queries.specs.Queries.{Among}
use Rattle.checks.specs.Logs.{entered}
use Rattle.dep_key.specs.declared.key.Key.{Key}
use Rattle.dep_key.specs.KeyOrder.{key_order}
use Rattle.dep_key.specs.KeysApart.{keys_apart}

inserted-here : (ks : List Key) (k : Key) → Among (insert_key key_order ks k) k
inserted-here [] k = inl refl
inserted-here (x ∷ ks) k = (elim (key_order k x) as (λ r. key_order k x ≡ r → Among (match_ordering r (k ∷ x ∷ ks) (x ∷ ks) (x ∷ insert_key key_order ks k)) k) [
  | Less ↦ λ e. inl refl
  | Equal ↦ λ e. inl (sym (keys_apart k x e))
  | Greater ↦ λ e. inr (inserted-here ks k)
]) refl

inserted-kept : (ks : List Key) (k u : Key) → Among ks u → Among (insert_key key_order ks k) u
inserted-kept [] k u m = absurd m
inserted-kept (x ∷ ks) k u m = elim (key_order k x) as (λ r. Among (match_ordering r (k ∷ x ∷ ks) (x ∷ ks) (x ∷ insert_key key_order ks k)) u) [
  | Less ↦ inr m
  | Equal ↦ m
  | Greater ↦ elim m [ inl e ↦ inl e | inr n ↦ inr (inserted-kept ks k u n) ]
]

inserted-from : (ks : List Key) (k u : Key) → Among (insert_key key_order ks k) u → (k ≡ u) ⊎ Among ks u
inserted-from [] k u m = m
inserted-from (x ∷ ks) k u m = (elim (key_order k x) as (λ r. Among (match_ordering r (k ∷ x ∷ ks) (x ∷ ks) (x ∷ insert_key key_order ks k)) u → (k ≡ u) ⊎ Among (x ∷ ks) u) [
  | Less ↦ λ m. m
  | Equal ↦ λ m. inr m
  | Greater ↦ λ m. elim m [ inl e ↦ inr (inl e) | inr n ↦ elim (inserted-from ks k u n) [ inl e ↦ inl e | inr n ↦ inr (inr n) ] ]
]) m

entered-kept : (set ks : List Key) (u : Key) → Among set u → Among (entered key_order set ks) u
entered-kept set [] u m = m
entered-kept set (k ∷ ks) u m = entered-kept (insert_key key_order set k) ks u (inserted-kept set k u m)

pub entered-has : (set ks : List Key) (u : Key) → Among ks u → Among (entered key_order set ks) u
entered-has set [] u m = absurd m
entered-has set (k ∷ ks) u (inl e) = entered-kept (insert_key key_order set k) ks u (subst (λ z. Among (insert_key key_order set k) z) e (inserted-here set k))
entered-has set (k ∷ ks) u (inr m) = entered-has (insert_key key_order set k) ks u m

pub entered-from : (set ks : List Key) (u : Key) → Among (entered key_order set ks) u → Among set u ⊎ Among ks u
entered-from set [] u m = inl m
entered-from set (k ∷ ks) u m = elim (entered-from (insert_key key_order set k) ks u m) [
  | inl n ↦ elim (inserted-from set k u n) [ inl e ↦ inr (inl e) | inr n ↦ inl n ]
  | inr n ↦ inr (inr n)
]
