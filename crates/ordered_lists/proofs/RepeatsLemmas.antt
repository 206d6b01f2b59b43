-- One more element of a list: how often each stands in it, and the least that is repeated.
use Rattle.std.proofs.Common.{◌≡◌, ◌≢◌, ◌∙◌, ◌+◌, ◌<◌, ◌≤◌, ◌++◌, ℕ, Bool, true, false, not, cond, List, [], ◌∷◌, Option, Some, None, refl, sym, ap, arith, nat_lt}
use Rattle.std.specs.List.{count_by}
use Rattle.std.proofs.lemmas.List.Sums.{sum_by_push}
use Rattle.std.specs.Ordering.{eq_by_cmp, is_lt, is_eq}
use Rattle.std.specs.Cmp.{IsTotalOrder, eq_by_cmp_equiv}
use Rattle.std.specs.declared.cmp.Ordering.{Ordering}
use Rattle.std.specs.declared.cmp.Ordering.TheVariants.{Less, Equal, Greater}
use Rattle.ordered_lists.specs.Repeats.{times, IsRepeated, HasNoRepeat, IsLeastRepeated, IsLeastRepeat, least_with}

module _ {T : Type 0} {cmp : T → T → Ordering} (o : IsTotalOrder cmp) where
  abbrev pub one : T → T → ℕ
  one y x = cond (eq_by_cmp cmp y x) 1 0

  pub times-push : (y x : T) (xs : List T) → times cmp y (xs ++ x ∷ []) ≡ times cmp y xs + one y x
  times-push y x xs = sum_by_push (λ a. cond (eq_by_cmp cmp y a) 1 0) xs x

  equal_is : (x y : T) → eq_by_cmp cmp x y ≡ true → cmp x y ≡ Equal
  equal_is x y e = elim (cmp x y) as (λ r. is_eq r ≡ true → r ≡ Equal) [ Less ↦ λ h. cc | Equal ↦ λ h. refl | Greater ↦ λ h. cc ] e

  times-equal : (y x : T) (xs : List T) → eq_by_cmp cmp y x ≡ true → times cmp y xs ≡ times cmp x xs
  times-equal y x xs e = λ i. count_by (λ a. is_eq (o.congr y x a (equal_is y x e) i)) xs

  itself : (x : T) → eq_by_cmp cmp x x ≡ true
  itself x = (eq_by_cmp_equiv o).refl x

  -- what is repeated with one more element is that element or was repeated before
  repeated_before : (xs : List T) (x y : T) → IsRepeated cmp (xs ++ x ∷ []) y → eq_by_cmp cmp y x ≡ false → IsRepeated cmp xs y
  repeated_before xs x y h e = let more = times-push y x xs in let apart : one y x ≡ 0 = ap (λ b. cond b 1 0) e in omega (arith, h, more, apart)

  still_repeated : (xs : List T) (x y : T) → IsRepeated cmp xs y → IsRepeated cmp (xs ++ x ∷ []) y
  still_repeated xs x y h = let more = times-push y x xs in omega (arith, h, more)

  now_repeated : (xs : List T) (x : T) → 0 < times cmp x xs → IsRepeated cmp (xs ++ x ∷ []) x
  now_repeated xs x h = let more = times-push x x xs in let same : one x x ≡ 1 = ap (λ b. cond b 1 0) (itself x) in omega (arith, h, more, same)

  by_equal : {A : Type 0} (y x : T) → (eq_by_cmp cmp y x ≡ true → A) → (eq_by_cmp cmp y x ≡ false → A) → A
  by_equal {A} y x f g = elim (eq_by_cmp cmp y x) as (λ b. eq_by_cmp cmp y x ≡ b → A) [ true ↦ f | false ↦ g ] refl

  not_below : (y x : T) → eq_by_cmp cmp y x ≡ true → cmp y x ≢ Less
  not_below y x e less = let f : is_eq Less ≡ true = ap is_eq (sym less) ∙ e in cc

  -- a new element repeats nothing
  new_repeats : (xs : List T) (x y : T) → times cmp x xs ≡ 0 → IsRepeated cmp (xs ++ x ∷ []) y → IsRepeated cmp xs y
  new_repeats xs x y none h = by_equal y x (λ e.
      let more = times-push y x xs in let same : times cmp y xs ≡ times cmp x xs = times-equal y x xs e in let small : one y x ≤ 1 = at_most (eq_by_cmp cmp y x) in absurd (omega (arith, h, more, same, small, none)))
      (repeated_before xs x y h)
    where
      at_most : (b : Bool) → cond b 1 0 ≤ 1
      at_most true = omega arith
      at_most false = omega arith

  once : (xs : List T) (y : T) → (IsRepeated cmp xs y → ⊥) → times cmp y xs ≤ 1
  once xs y h = elim (nat_lt 1 (times cmp y xs)) as (λ b. nat_lt 1 (times cmp y xs) ≡ b → times cmp y xs ≤ 1) [
    | true ↦ λ e. absurd (h (grind (arith, e)))
    | false ↦ λ e. grind (arith, e)
  ] refl

  with_new : (xs : List T) (x : T) (least : Option T) → times cmp x xs ≡ 0 → IsLeastRepeat cmp xs least → IsLeastRepeat cmp (xs ++ x ∷ []) least
  with_new xs x None none h = λ y. once (xs ++ x ∷ []) y (λ r. let twice : 2 ≤ times cmp y xs = new_repeats xs x y none r in let single = h y in absurd (omega (arith, twice, single)))
  with_new xs x (Some z) none h = (still_repeated xs x z h.0, λ y r. h.1 y (new_repeats xs x y none r))

  with_lower : (xs : List T) (x z : T) → 0 < times cmp x xs → IsLeastRepeated cmp xs z → cmp x z ≡ Less → IsLeastRepeated cmp (xs ++ x ∷ []) x
  with_lower xs x z known h lower = (now_repeated xs x known, λ y r. by_equal y x (not_below y x) (λ e less. h.1 y (repeated_before xs x y r e) (o.trans y x z less lower)))

  with_upper : (xs : List T) (x z : T) → IsLeastRepeated cmp xs z → is_lt (cmp x z) ≡ false → IsLeastRepeated cmp (xs ++ x ∷ []) z
  with_upper xs x z h upper = (still_repeated xs x z h.0, λ y r. by_equal y x (λ e less. let f : is_lt (cmp x z) ≡ true = ap is_lt (sym (o.congr y x z (equal_is y x e)) ∙ less) in cc) (λ e. h.1 y (repeated_before xs x y r e)))

  with_first : (xs : List T) (x : T) → 0 < times cmp x xs → HasNoRepeat cmp xs → IsLeastRepeated cmp (xs ++ x ∷ []) x
  with_first xs x known h = (now_repeated xs x known, λ y r. by_equal y x (not_below y x) (λ e. let twice : 2 ≤ times cmp y xs = repeated_before xs x y r e in let single = h y in absurd (omega (arith, twice, single))))

  less_is : (x z : T) → is_lt (cmp x z) ≡ true → cmp x z ≡ Less
  less_is x z e = elim (cmp x z) as (λ r. is_lt r ≡ true → r ≡ Less) [ Less ↦ λ h. refl | Equal ↦ λ h. cc | Greater ↦ λ h. cc ] e

  with_known : (xs : List T) (x : T) (least : Option T) → 0 < times cmp x xs → IsLeastRepeat cmp xs least → IsLeastRepeat cmp (xs ++ x ∷ []) (least_with cmp least x false)
  with_known xs x None known h = with_first xs x known h
  with_known xs x (Some z) known h = elim (is_lt (cmp x z)) as (λ b. is_lt (cmp x z) ≡ b → IsLeastRepeat cmp (xs ++ x ∷ []) (cond b (Some x) (Some z))) [
    | true ↦ λ e. with_lower xs x z known h (less_is x z e)
    | false ↦ λ e. with_upper xs x z h e
  ] refl

  pub with_one : (xs : List T) (x : T) (least : Option T) (seen is_new : Bool) → seen ≡ nat_lt 0 (times cmp x xs) → is_new ≡ not seen → IsLeastRepeat cmp xs least → IsLeastRepeat cmp (xs ++ x ∷ []) (least_with cmp least x is_new)
  with_one xs x least true true e f h = cc
  with_one xs x least false false e f h = cc
  with_one xs x least true false e f h = with_known xs x least (grind (arith, e)) h
  with_one xs x least false true e f h = with_new xs x least (grind (arith, e)) h

  seen_one : (at : Bool) (n : ℕ) → cond at true (nat_lt 0 n) ≡ nat_lt 0 (n + cond at 1 0)
  seen_one true n = grind arith
  seen_one false n = grind arith

  -- what is among the elements once one more is seen
  pub seen_with : (xs : List T) (x y : T) → cond (eq_by_cmp cmp x y) true (nat_lt 0 (times cmp y xs)) ≡ nat_lt 0 (times cmp y (xs ++ x ∷ []))
  seen_with xs x y = ap (λ b. cond b true (nat_lt 0 (times cmp y xs))) ((eq_by_cmp_equiv o).symm x y) ∙ seen_one (eq_by_cmp cmp y x) (times cmp y xs) ∙ ap (nat_lt 0) (sym (times-push y x xs))
