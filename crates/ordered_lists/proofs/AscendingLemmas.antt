-- A list in which each element is below the next is sorted.
use Rattle.std.proofs.Common.{◌≡◌, ℕ, true, List, [], ◌∷◌, Some, refl, sym, ap, subst, nat_cmp}
use Rattle.std.specs.List.{AllByRecursion}
use Rattle.std.specs.List.Sorted.{IsStrictlySortedBy}
use Rattle.std.specs.Ordering.{is_lt}
use Rattle.std.specs.Cmp.{IsTotalOrder}
use Rattle.std.specs.Cmp.Lexicographic.{slice_cmp}
use Rattle.std.specs.declared.cmp.Ordering.{Ordering}
use Rattle.std.specs.declared.cmp.Ordering.TheVariants.{Less}
use Rattle.std.proofs.lemmas.Bool.{and_parts, and_from}
use Rattle.ordered_lists.specs.Ascending.{steps_up, steps_up_after}
use Rattle.ordered_lists.proofs.OptionLemmas.{lt_is}

module _ {T : Type 0} {cmp : T → T → Ordering} (o : IsTotalOrder cmp) where
  below_all : (x y : T) (ys : List T) → cmp x y ≡ Less → AllByRecursion (λ z. cmp y z ≡ Less) ys → AllByRecursion (λ z. cmp x z ≡ Less) ys
  below_all x y [] h all = tt
  below_all x y (z ∷ zs) h all = (o.trans x y z h all.0, below_all x y zs h all.1)

  sorted_after : (x : T) (xs : List T) → steps_up_after cmp (Some x) xs ≡ true → AllByRecursion (λ y. cmp x y ≡ Less) xs × IsStrictlySortedBy cmp xs
  unfolding IsStrictlySortedBy
  sorted_after x [] h = (tt, tt)
  sorted_after x (y ∷ ys) h =
      let less : cmp x y ≡ Less = lt_is (cmp x y) (and_parts (is_lt (cmp x y)) _ h).0 in
      let rest = sorted_after y ys (and_parts (is_lt (cmp x y)) _ h).1 in
      ((less, below_all x y ys less rest.0), rest)

  pub sorted : (xs : List T) → steps_up cmp xs ≡ true → IsStrictlySortedBy cmp xs
  unfolding IsStrictlySortedBy
  sorted [] h = tt
  sorted (x ∷ xs) h = sorted_after x xs h

module _ {T : Type 0} (cmp : T → T → Ordering) where
  steps_after : (x : T) (xs : List T) → AllByRecursion (λ y. cmp x y ≡ Less) xs → IsStrictlySortedBy cmp xs → steps_up_after cmp (Some x) xs ≡ true
  unfolding IsStrictlySortedBy
  steps_after x [] h up = refl
  steps_after x (y ∷ ys) h up = and_from _ _ (ap is_lt h.0) (steps_after y ys up.0 up.1)

  pub steps : (xs : List T) → IsStrictlySortedBy cmp xs → steps_up cmp xs ≡ true
  unfolding IsStrictlySortedBy
  steps [] up = refl
  steps (x ∷ xs) up = steps_after x xs up.0 up.1

one_sorted : (text : List ℕ) → IsStrictlySortedBy (slice_cmp nat_cmp) (text ∷ [])
unfolding IsStrictlySortedBy
one_sorted text = (tt, tt)

-- A list of one text ascends.
pub one_ascends : (texts : List (List ℕ)) (text : List ℕ) → texts ≡ text ∷ [] → IsStrictlySortedBy (slice_cmp nat_cmp) texts
one_ascends texts text e = subst (IsStrictlySortedBy (slice_cmp nat_cmp)) (sym e) (one_sorted text)
