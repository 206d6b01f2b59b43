-- Texts that ascend, and their numbers.
use Rattle.std.proofs.Common.{◌≡◌, ℕ, zero, suc, ◌<◌, ◌≤◌, Bool, true, false, cond, nat_eq, List, [], ◌∷◌, ◌++◌, length, Option, Some, None, refl, sym, ap, ◌∙◌, subst, arith}
use Rattle.std.proofs.Math.Numerals.{sub-one}
use Rattle.std.proofs.Math.Dec.{eqb-suc-zero}
use Rattle.std.proofs.lemmas.Option.{slice_get_within}
use Rattle.dep_key.specs.KeyShapes.{is_filled}
use Rattle.std.specs.Prelude.{slice_get, IsTrue}
use Rattle.std.specs.List.{AllByRecursion}
use Rattle.std.specs.List.Sorted.{IsStrictlySortedBy}
use Rattle.std.specs.Ordering.{is_lt, nat_cmp}
use Rattle.std.specs.Cmp.{IsTotalOrder}
use Rattle.std.specs.Cmp.Lexicographic.{slice_cmp, pointwise, nat_list_cmp_total, bytes_decides}
use Rattle.std.specs.declared.cmp.Ordering.{Ordering}
use Rattle.std.specs.declared.cmp.Ordering.TheVariants.{Less, Equal, Greater}
use Rattle.swiftdeps.specs.Judging.{last, text_at}
use Rattle.swiftdeps.specs.Spelling.{place_of, number_of, HasNumber, IsIdentifier, AreIdentifiers}

pub lt_is : (o : Ordering) → is_lt o ≡ true → o ≡ Less
lt_is Less e = refl
lt_is Equal e = absurd cc
lt_is Greater e = absurd cc

pub last_tail : {K : Type 0} (x y : K) (ys : List K) → last (x ∷ y ∷ ys) ≡ last (y ∷ ys)
last_tail x y ys = ap (slice_get (x ∷ y ∷ ys)) (sub-one (suc (suc (length ys)))) ∙ ap (slice_get (y ∷ ys)) (sym (sub-one (suc (length ys))))

module _ {K : Type 0} {R : K → K → Ordering} (o : IsTotalOrder R) where
  -- a key below another is below all that the other is below
  below_all : (a k : K) (ks : List K) → R a k ≡ Less → AllByRecursion (λ y. R k y ≡ Less) ks → AllByRecursion (λ y. R a y ≡ Less) ks
  below_all a k [] h all = tt
  below_all a k (y ∷ ys) h all = (o.trans a k y h all.0, below_all a k ys h all.1)

  -- whether a key is above the one before it, where there is one
  abbrev pub above : Option K → K → Bool
  above None k = true
  above (Some b) k = is_lt (R b k)

  all_push : (a : K) (ks : List K) (k : K) → R a k ≡ Less → AllByRecursion (λ y. R a y ≡ Less) ks → AllByRecursion (λ y. R a y ≡ Less) (ks ++ k ∷ [])
  all_push a [] k h all = (h, tt)
  all_push a (y ∷ ys) k h all = (all.0, all_push a ys k h all.1)

  -- the last of ascending keys is not below the first
  first_below : (x : K) (xs : List K) (k : K) → IsStrictlySortedBy R (x ∷ xs) → above (last (x ∷ xs)) k ≡ true → R x k ≡ Less
  unfolding IsStrictlySortedBy
  first_below x [] k s h = lt_is _ h
  first_below x (y ∷ ys) k s h = o.trans x y k s.0.0 (first_below y ys k s.1 (sym (ap (λ (b : Option K). above b k) (last_tail x y ys)) ∙ h))

  pub sorted_push : (xs : List K) (k : K) → IsStrictlySortedBy R xs → above (last xs) k ≡ true → IsStrictlySortedBy R (xs ++ k ∷ [])
  unfolding IsStrictlySortedBy
  sorted_push [] k s h = (tt, tt)
  sorted_push (x ∷ []) k s h = ((lt_is _ h, tt), (tt, tt))
  sorted_push (x ∷ y ∷ ys) k s h = (all_push x (y ∷ ys) k (first_below x (y ∷ ys) k s h) s.0, sorted_push (y ∷ ys) k s.1 (sym (ap (λ (b : Option K). above b k) (last_tail x y ys)) ∙ h))

  -- and the other way: what stands behind ascending keys is above the last of them
  pub sorted_above : (xs : List K) (k : K) (ks : List K) → IsStrictlySortedBy R (xs ++ k ∷ ks) → above (last xs) k ≡ true
  unfolding IsStrictlySortedBy
  sorted_above [] k ks s = refl
  sorted_above (x ∷ []) k ks s = ap is_lt s.0.0
  sorted_above (x ∷ y ∷ ys) k ks s = ap (λ (b : Option K). above b k) (last_tail x y ys) ∙ sorted_above (y ∷ ys) k ks s.1

-- ---- the numbers of texts

same_text : (text : List ℕ) → pointwise nat_eq text text ≡ true
same_text text = (bytes_decides text text).1 refl

-- a text that comes after an identifier is another one
pub other_text : (a b : List ℕ) → slice_cmp nat_cmp a b ≡ Less → pointwise nat_eq a b ≡ false
other_text a b h = by (pointwise nat_eq a b) refl
  where
    by : (t : Bool) → t ≡ pointwise nat_eq a b → t ≡ false
    by false e = refl
    by true e = absurd (less_itself b (sym h ∙ ap (λ (x : List ℕ). slice_cmp nat_cmp x b) ((bytes_decides a b).0 (sym e))))
      where
        less_itself : (b : List ℕ) → Less ≡ slice_cmp nat_cmp b b → ⊥
        less_itself b e = not_less (slice_cmp nat_cmp b b) (sym e) (nat_list_cmp_total.antisymm b b)
          where
            not_less : (r : Ordering) → r ≡ Less → r ≡ Rattle.std.specs.Ordering.ordering_reverse r → ⊥
            not_less Less e h = cc
            not_less Equal e h = cc
            not_less Greater e h = cc

some_is : {A : Type 0} (a b : A) → Some a ≡ Some b → a ≡ b
some_is a b e = cc

pub at_all : {A : Type 0} (P : A → Type 0) (xs : List A) (n : ℕ) (x : A) → AllByRecursion P xs → slice_get xs n ≡ Some x → P x
at_all P [] n x all e = absurd cc
at_all P (y ∷ ys) zero x all e = subst P (some_is y x e) all.0
at_all P (y ∷ ys) (suc n) x all e = at_all P ys n x all.1 e

pub place_again : (names : List (List ℕ)) (n : ℕ) (text : List ℕ) → IsStrictlySortedBy (slice_cmp nat_cmp) names → slice_get names n ≡ Some text → place_of names text ≡ n
unfolding IsStrictlySortedBy
place_again [] n text s e = absurd cc
place_again (x ∷ xs) zero text s e = subst (λ (t : List ℕ). place_of (x ∷ xs) t ≡ 0) (some_is x text e) (rw (same_text x) refl)
place_again (x ∷ xs) (suc n) text s e =
    let below = at_all (λ (y : List ℕ). slice_cmp nat_cmp x y ≡ Less) xs n text s.0 e in
    rw (other_text x text below) (ap suc (place_again xs n text s.1 e))

pub text_at_suc : (names : List (List ℕ)) (n : ℕ) → text_at names (suc n) ≡ slice_get names n
text_at_suc names n = rw (eqb-suc-zero n) (ap (slice_get names) (sub-one (suc n)))

-- what a number stands for has this number
pub number_again : (names : List (List ℕ)) (n : ℕ) (text : List ℕ) → AreIdentifiers names → text_at names n ≡ Some text → number_of names text ≡ n
number_again names zero text are e = subst (λ (t : List ℕ). number_of names t ≡ 0) (some_is [] text e) refl
number_again names (suc n) text are e = by text refl
  where
    got : slice_get names n ≡ Some text
    got = sym (text_at_suc names n) ∙ e

    by : (t : List ℕ) → t ≡ text → number_of names t ≡ suc n
    by [] h = absurd (empty_is_not (at_all IsIdentifier names n [] are.1 (got ∙ ap Some (sym h))).0)
      where
        empty_is_not : IsTrue (is_filled []) → ⊥
        empty_is_not e = cc
    by (b ∷ bs) h = ap suc (place_again names n (b ∷ bs) are.0 (got ∙ ap Some (sym h)))

pub number_within : (names : List (List ℕ)) (n : ℕ) (text : List ℕ) → text_at names n ≡ Some text → n ≤ length names
number_within names zero text e = omega arith
number_within names (suc n) text e =
    let got : slice_get names n ≡ Some text = sym (text_at_suc names n) ∙ e in
    omega (arith, slice_get_within names n text got)

pub has_number : (names : List (List ℕ)) (n : ℕ) (text : List ℕ) → AreIdentifiers names → text_at names n ≡ Some text → HasNumber names text
has_number names n text are e = subst (λ k. k ≤ length names) (sym (number_again names n text are e)) (number_within names n text e)

found_at : (names : List (List ℕ)) (text : List ℕ) → place_of names text < length names → slice_get names (place_of names text) ≡ Some text
found_at [] text h = absurd (omega (arith, h))
found_at (x ∷ xs) text h = by (pointwise nat_eq x text) refl h (found_at xs text)
  where
    by : (t : Bool) → t ≡ pointwise nat_eq x text → cond t 0 (suc (place_of xs text)) < suc (length xs) → (place_of xs text < length xs → slice_get xs (place_of xs text) ≡ Some text) → slice_get (x ∷ xs) (cond t 0 (suc (place_of xs text))) ≡ Some text
    by true e h later = ap Some ((bytes_decides x text).0 (sym e))
    by false e h later = later (omega (arith, h))

-- a text that has a number is what this number stands for
pub text_again : (names : List (List ℕ)) (text : List ℕ) → HasNumber names text → text_at names (number_of names text) ≡ Some text
text_again names [] h = refl
text_again names (b ∷ bs) h = text_at_suc names (place_of names (b ∷ bs)) ∙ found_at names (b ∷ bs) (omega (arith, h))
