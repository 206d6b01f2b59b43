-- The same elements have one order.
use Rattle.std.proofs.Common.{◌≡◌, ◌∙◌, ◌+◌, ◌<◌, ◌≤◌, ℕ, Bool, true, false, cond, List, [], ◌∷◌, refl, sym, ap, subst, arith, get_or, suc, length}
use Rattle.std.specs.Prelude.{⊤}
use Rattle.std.specs.List.{AllByRecursion}
use Rattle.std.specs.List.Sorted.{IsPermutation, IsSorted}
use Rattle.std.specs.Ordering.{eq_by_cmp, is_lt, is_eq, ordering_reverse}
use Rattle.std.specs.Cmp.{IsTotalOrder, eq_by_cmp_equiv}
use Rattle.std.specs.FinMap.{IsAntisymmetric}
use Rattle.std.specs.declared.cmp.Ordering.{Ordering}
use Rattle.std.specs.declared.cmp.Ordering.TheVariants.{Less, Equal, Greater}
use Rattle.std.proofs.lemmas.List.Sums.{sum_by-cons}
use Rattle.std.proofs.lemmas.List.Sorted.{sum_by-IsPermutation, sorted_far, ranks_by}
use Rattle.ordered_lists.specs.Repeats.{times}

is_equal : (r : Ordering) → is_eq r ≡ true → r ≡ Equal
is_equal Less e = cc
is_equal Equal e = refl
is_equal Greater e = cc

equal_not_less : (r : Ordering) → is_eq r ≡ true → is_lt r ≡ false
equal_not_less Less e = cc
equal_not_less Equal e = refl
equal_not_less Greater e = cc

neither_less : (r : Ordering) → is_lt r ≡ false → is_lt (ordering_reverse r) ≡ false → r ≡ Equal
neither_less Less e f = cc
neither_less Equal e f = refl
neither_less Greater e f = cc

module _ {T : Type 0} {cmp : T → T → Ordering} (o : IsTotalOrder cmp) where
  abbrev pub one : T → T → ℕ
  one y x = cond (eq_by_cmp cmp y x) 1 0

  pub times-cons : (y x : T) (xs : List T) → times cmp y (x ∷ xs) ≡ one y x + times cmp y xs
  times-cons y x xs = sum_by-cons (λ a. cond (eq_by_cmp cmp y a) 1 0) x xs

  itself : (x : T) → eq_by_cmp cmp x x ≡ true
  itself x = (eq_by_cmp_equiv o).refl x

  pub stands : (x : T) (xs : List T) → 0 < times cmp x (x ∷ xs)
  stands x xs = let here : one x x ≡ 1 = ap (λ b. cond b 1 0) (itself x) in let more = times-cons x x xs in omega (arith, here, more)

  not_below_itself : (x : T) → is_lt (cmp x x) ≡ false
  not_below_itself x = equal_not_less (cmp x x) (itself x)

  -- each element is at or below all that follow
  abbrev Ascends : List T → Type 0
  Ascends [] = ⊤
  Ascends (x ∷ xs) = AllByRecursion (λ y. is_lt (cmp y x) ≡ false) xs × Ascends xs

  above_of : (x : T) (xs : List T) → ((k : ℕ) → k < length xs → is_lt (cmp (get_or xs k x) x) ≡ false) → AllByRecursion (λ y. is_lt (cmp y x) ≡ false) xs
  above_of x [] h = tt
  above_of x (y ∷ ys) h = (h 0 (omega arith), above_of x ys (λ k p. h (suc k) (omega arith)))

  ascends_of : (xs : List T) → ((i j : ℕ) (d : T) → i ≤ j → j < length xs → is_lt (cmp (get_or xs j d) (get_or xs i d)) ≡ false) → Ascends xs
  ascends_of [] h = tt
  ascends_of (x ∷ xs) h = (above_of x xs (λ k p. h 0 (suc k) x (omega arith) (omega arith)), ascends_of xs (λ i j d p q. h (suc i) (suc j) d (omega arith) (omega arith)))

  ascends : (xs : List T) → IsSorted cmp xs → Ascends xs
  ascends xs up = ascends_of xs (sorted_far (λ x y. is_lt (cmp x y)) (ranks_by o (λ x. x)) xs up)

  module _ (exact : IsAntisymmetric cmp) where
    here_or_later : (z y x : T) (n : ℕ) (same : Bool) → eq_by_cmp cmp z y ≡ same → is_lt (cmp y x) ≡ false → (0 < n → is_lt (cmp z x) ≡ false) → 0 < cond same 1 0 + n → is_lt (cmp z x) ≡ false
    here_or_later z y x n true e h later p = subst (λ w. is_lt (cmp w x) ≡ false) (sym (exact z y (is_equal (cmp z y) e))) h
    here_or_later z y x n false e h later p = later (omega (arith, p))

    -- What stands in a list isn't below what none of them is below.
    not_below : (x z : T) (ys : List T) → AllByRecursion (λ y. is_lt (cmp y x) ≡ false) ys → 0 < times cmp z ys → is_lt (cmp z x) ≡ false
    not_below x z [] all p = absurd (omega (arith, p))
    not_below x z (y ∷ ys) all p = here_or_later z y x (times cmp z ys) (eq_by_cmp cmp z y) refl all.0 (not_below x z ys all.1) (subst (λ n. 0 < n) (times-cons z y ys) p)

    same_first : (x y : T) (xs ys : List T) → Ascends (x ∷ xs) → Ascends (y ∷ ys) → ((z : T) → times cmp z (x ∷ xs) ≡ times cmp z (y ∷ ys)) → x ≡ y
    same_first x y xs ys up upper h =
        let first = not_below y x (y ∷ ys) (not_below_itself y, upper.0) (subst (λ n. 0 < n) (h x) (stands x xs)) in
        let second = not_below x y (x ∷ xs) (not_below_itself x, up.0) (subst (λ n. 0 < n) (sym (h y)) (stands y ys)) in
        exact x y (neither_less (cmp x y) first (ap is_lt (sym (o.antisymm y x)) ∙ second))

    same_rest : (x y : T) (xs ys : List T) → x ≡ y → ((z : T) → times cmp z (x ∷ xs) ≡ times cmp z (y ∷ ys)) → (z : T) → times cmp z xs ≡ times cmp z ys
    same_rest x y xs ys e h z =
        let whole = h z in
        let first = times-cons z x xs in
        let second = times-cons z y ys in
        let same : one z x ≡ one z y = ap (one z) e in
        omega (arith, whole, first, second, same)

    -- Lists that ascend and have each element equally often are one list.
    one_list : (xs ys : List T) → Ascends xs → Ascends ys → ((z : T) → times cmp z xs ≡ times cmp z ys) → xs ≡ ys
    one_list [] [] up upper h = refl
    one_list [] (y ∷ ys) up upper h = absurd (let same = h y in let some = stands y ys in omega (arith, same, some))
    one_list (x ∷ xs) [] up upper h = absurd (let same = h x in let some = stands x xs in omega (arith, same, some))
    one_list (x ∷ xs) (y ∷ ys) up upper h =
        let first = same_first x y xs ys up upper h in
        let rest = one_list xs ys up.1 upper.1 (same_rest x y xs ys first h) in
        λ i. first i ∷ rest i

    -- Two orders of the same elements that ascend are one.
    pub one_order : (xs one other : List T) → IsPermutation xs one → IsPermutation xs other → IsSorted cmp one → IsSorted cmp other → one ≡ other
    one_order xs first second moved moved_too up upper = one_list first second (ascends first up) (ascends second upper) (λ z.
        sum_by-IsPermutation (λ a. cond (eq_by_cmp cmp z a) 1 0) xs first moved ∙ sym (sum_by-IsPermutation (λ a. cond (eq_by_cmp cmp z a) 1 0) xs second moved_too))
