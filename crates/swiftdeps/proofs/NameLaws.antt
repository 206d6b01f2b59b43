-- Which texts were added to names, in which order they stand, and where.
use Rattle.std.proofs.Common.{◌≡◌, ◌⊎◌, inl, inr, ℕ, zero, suc, ◌+◌, ◌<◌, ◌≤◌, Bool, true, false, cond, not, ◌||◌, nat_lt, nat_eq, List, [], ◌∷◌, ◌++◌, length, get_or, take, map, Some, None, refl, sym, ap, ◌∙◌, subst, arith}
use Rattle.std.specs.Prelude.{IsTrue}
use Rattle.std.specs.List.{Contains, AllByRecursion, AllZip, slice_get, IsDistinct, flat_map, list_any, position, position_or_len, dedup, dedup_from}
use Rattle.std.specs.List.Sorted.{IsStrictlySortedBy, IsSorted, IsPermutation}
use Rattle.std.specs.Ordering.{nat_cmp}
use Rattle.std.specs.Str.{bytes_eq}
use Rattle.std.specs.declared.string.String.{String}
use Rattle.std.specs.String.{string_bytes, string_eq, string_eq_equiv, string_cmp, string_cmp_total}
use Rattle.std.specs.Cmp.Lexicographic.{slice_cmp, pointwise, nat_list_eq_equiv, bytes_decides, texts_ties}
use Rattle.std.specs.declared.cmp.Ordering.TheVariants.{Less}
use Rattle.std.proofs.Math.Seq.{take_all}
use Rattle.std.proofs.lemmas.Bool.Decides.{nat_tests}
use Rattle.std.proofs.lemmas.List.{map-append}
use Rattle.std.proofs.lemmas.List.Elements.{Contains-append_left, Contains-append_right, Contains-append_cases}
use Rattle.std.proofs.lemmas.List.Kept.{IsStrictlySortedBy-dedup}
use Rattle.std.proofs.lemmas.List.Sorted.{Contains-permutation, IsPermutation-sym}
use Rattle.std.proofs.lemmas.List.Sums.{prefix_len-le-length}
use Rattle.indexmap.specs.IndexSet.{insert_key}
use Rattle.dep_key.specs.declared.graph.FileGraph.{FileGraph}
use Rattle.dep_key.specs.KeyShapes.{is_filled}
use Rattle.swiftdeps.specs.Spelling.{AreAscendingTexts, place_of}
use Rattle.swiftdeps.specs.Written.{texts_in, Adds, AreNamesOf}
use Rattle.swiftdeps.proofs.WriteLaws.{flat_more}

abbrev pub Among : {A : Type 0} → List A → A → Type 0
Among [] x = ⊥
Among (y ∷ ys) x = (y ≡ x) ⊎ Among ys x

among_at : {A : Type 0} (xs : List A) (x : A) (k : ℕ) → k < length xs → get_or xs k x ≡ x → Among xs x
among_at [] x k h e = absurd (omega (arith, h))
among_at (y ∷ ys) x zero h e = inl e
among_at (y ∷ ys) x (suc k) h e = inr (among_at ys x k (omega (arith, h)) e)

pub to_among : {A : Type 0} (xs : List A) (x : A) → Contains xs x → Among xs x
to_among xs x c = among_at xs x c.0 c.1 c.2

pub from_among : {A : Type 0} (xs : List A) (x : A) → Among xs x → Contains xs x
from_among [] x h = absurd h
from_among (y ∷ ys) x (inl e) = (0, omega arith, e)
from_among (y ∷ ys) x (inr h) = let c = from_among ys x h in (suc c.0, omega (arith, c.1), c.2)

-- ---- texts that were added

pub adds_none : (a : List (List ℕ)) → Adds [] a a
adds_none a text = (inl, back)
  where
    back : Contains a text ⊎ IsTrue (is_filled text) × Contains [] text → Contains a text
    back (inl c) = c
    back (inr h) = absurd (omega (arith, h.1.1))

pub adds_both : (xs ys a b c : List (List ℕ)) → Adds xs a b → Adds ys b c → Adds (xs ++ ys) a c
adds_both xs ys a b c f g text = (λ h. second ((g text).0 h), back)
  where
    first : Contains a text ⊎ IsTrue (is_filled text) × Contains xs text → Contains a text ⊎ IsTrue (is_filled text) × Contains (xs ++ ys) text
    first (inl h) = inl h
    first (inr h) = inr (h.0, Contains-append_left xs ys text h.1)

    second : Contains b text ⊎ IsTrue (is_filled text) × Contains ys text → Contains a text ⊎ IsTrue (is_filled text) × Contains (xs ++ ys) text
    second (inl h) = first ((f text).0 h)
    second (inr h) = inr (h.0, Contains-append_right xs ys text h.1)

    one_of : IsTrue (is_filled text) → Contains xs text ⊎ Contains ys text → Contains c text
    one_of e (inl h) = (g text).1 (inl ((f text).1 (inr (e, h))))
    one_of e (inr h) = (g text).1 (inr (e, h))

    back : Contains a text ⊎ IsTrue (is_filled text) × Contains (xs ++ ys) text → Contains c text
    back (inl h) = (g text).1 (inl ((f text).1 (inl h)))
    back (inr h) = one_of h.0 (Contains-append_cases xs ys text h.1)

-- one turn of a loop that adds the texts of each element
pub adds_turn : {A : Type 0} (f : A → List (List ℕ)) (l : List A) (i : ℕ) (x : A) (a b c : List (List ℕ)) → i < length l → x ≡ get_or l i x → Adds (flat_map f (take i l)) a b → Adds (f x) b c → Adds (flat_map f (take (i + 1) l)) a c
adds_turn f l i x a b c h e s one = subst (λ (texts : List (List ℕ)). Adds texts a c) (sym (flat_more f l i x h e)) (adds_both (flat_map f (take i l)) (f x) a b c s one)

-- and a loop that has come to the end of its list
pub adds_whole : {A : Type 0} (f : A → List (List ℕ)) (l : List A) (i : ℕ) (a b : List (List ℕ)) → length l ≤ i → Adds (flat_map f (take i l)) a b → Adds (flat_map f l) a b
adds_whole {A} f l i a b h s = subst (λ (x : List A). Adds (flat_map f x) a b) (take_all i l h) s

pub adds_equal : (text other : List ℕ) (a b : List (List ℕ)) → text ≡ other → Adds (text ∷ []) a b → Adds (other ∷ []) a b
adds_equal text other a b e s = subst (λ (t : List ℕ). Adds (t ∷ []) a b) e s

one_is : (x y : List ℕ) → Contains (x ∷ []) y → x ≡ y
one_is x y c = by (to_among (x ∷ []) y c)
  where
    by : Among (x ∷ []) y → x ≡ y
    by (inl e) = e
    by (inr h) = absurd h

-- a text that is there, or empty, changes nothing
pub adds_same : (text : List ℕ) (a : List (List ℕ)) → (IsTrue (is_filled text) → Contains a text) → Adds (text ∷ []) a a
adds_same text a there t = (inl, back)
  where
    back : Contains a t ⊎ IsTrue (is_filled t) × Contains (text ∷ []) t → Contains a t
    back (inl c) = c
    back (inr h) = subst (Contains a) (one_is text t h.1) (there (subst (λ (x : List ℕ). IsTrue (is_filled x)) (sym (one_is text t h.1)) h.0))

adds_one : (text : List ℕ) (a : List (List ℕ)) → IsTrue (is_filled text) → Adds (text ∷ []) a (a ++ text ∷ [])
adds_one text a filled t = (λ c. there (Contains-append_cases a (text ∷ []) t c), back)
  where
    there : Contains a t ⊎ Contains (text ∷ []) t → Contains a t ⊎ IsTrue (is_filled t) × Contains (text ∷ []) t
    there (inl h) = inl h
    there (inr h) = inr (subst (λ (x : List ℕ). IsTrue (is_filled x)) (one_is text t h) filled, h)

    back : Contains a t ⊎ IsTrue (is_filled t) × Contains (text ∷ []) t → Contains (a ++ text ∷ []) t
    back (inl h) = Contains-append_left a (text ∷ []) t h
    back (inr h) = Contains-append_right a (text ∷ []) t h.1

either_way : (b : Bool) (m n : ℕ) → m ≡ n → cond b 0 (suc m) ≡ cond (not b) (1 + n) 0
either_way true m n e = refl
either_way false m n e = omega (arith, e)

some_is : (a b : ℕ) → Some a ≡ Some b → a ≡ b
some_is a b e = cc

some_place : (b : Bool) (n place : ℕ) → Some place ≡ cond b (Some n) None → place ≡ n
some_place true n place e = some_is place n e
some_place false n place e = absurd cc

no_place : (b : Bool) (n len : ℕ) → b ≡ nat_lt n len → n ≤ len → None ≡ cond b (Some n) None → len ≡ n
no_place true n len h most e = absurd cc
no_place false n len h most e = grind (arith, nat_tests, h, most)

module _ {Z : Type 0} where
  among_step : (k : String Z) (ks : List (String Z)) (text : List ℕ) (b : Bool) → b ≡ bytes_eq text (string_bytes k) → (list_any (λ x. bytes_eq text (string_bytes x)) ks ≡ true → Among (map string_bytes ks) text)
      → (b || list_any (λ x. bytes_eq text (string_bytes x)) ks) ≡ true → Among (map string_bytes (k ∷ ks)) text
  among_step k ks text true h later e = inl (sym ((bytes_decides text (string_bytes k)).0 (sym h)))
  among_step k ks text false h later e = inr (later e)

  among_texts : (ks : List (String Z)) (text : List ℕ) → list_any (λ k. bytes_eq text (string_bytes k)) ks ≡ true → Among (map string_bytes ks) text
  among_texts [] text e = absurd cc
  among_texts (k ∷ ks) text e = among_step k ks text (bytes_eq text (string_bytes k)) refl (among_texts ks text) e

  pub found_text : (ks : List (String Z)) (text : List ℕ) → list_any (λ k. bytes_eq text (string_bytes k)) ks ≡ true → Contains (map string_bytes ks) text
  found_text ks text e = from_among (map string_bytes ks) text (among_texts ks text e)

  -- a copy of a text was put into a set
  pub adds_copy : (old new : List (String Z)) (copy : String Z) (text : List ℕ) → string_bytes copy ≡ text → IsTrue (is_filled text) → new ≡ insert_key string_eq old copy → Adds (text ∷ []) (map string_bytes old) (map string_bytes new)
  adds_copy old new copy text same filled is = by (list_any (string_eq copy) old) refl is
    where
      by : (b : Bool) → b ≡ list_any (string_eq copy) old → new ≡ cond b old (old ++ copy ∷ []) → Adds (text ∷ []) (map string_bytes old) (map string_bytes new)
      by true h e = subst (λ (ks : List (String Z)). Adds (text ∷ []) (map string_bytes old) (map string_bytes ks)) (sym e)
          (adds_same text (map string_bytes old) (λ _. subst (Contains (map string_bytes old)) same (found_text old (string_bytes copy) (sym h))))
      by false h e = subst (Adds (text ∷ []) (map string_bytes old)) (sym (ap (map string_bytes) e ∙ map-append string_bytes old (copy ∷ []) ∙ ap (λ (t : List ℕ). map string_bytes old ++ t ∷ []) same))
          (adds_one text (map string_bytes old) filled)

  -- copies are the same texts
  pub same_texts : (ks cs : List (String Z)) → AllZip (λ k c. string_bytes c ≡ string_bytes k) ks cs → map string_bytes cs ≡ map string_bytes ks
  same_texts [] [] all = refl
  same_texts [] (c ∷ cs) all = absurd all
  same_texts (k ∷ ks) [] all = absurd all
  same_texts (k ∷ ks) (c ∷ cs) all = λ i. all.0 i ∷ same_texts ks cs all.1 i

  -- ---- their order

  dedup_from-distinct : (k : String Z) (ks : List (String Z)) → AllByRecursion (λ y. string_eq k y ≡ false) ks → IsDistinct string_eq ks → dedup_from string_eq k ks ≡ k ∷ ks
  unfolding IsDistinct
  dedup_from-distinct k [] apart all = refl
  dedup_from-distinct k (x ∷ xs) apart all = rw (string_eq_equiv.symm x k ∙ apart.0) (ap (λ (ys : List (String Z)). k ∷ ys) (dedup_from-distinct x xs all.0 all.1))

  dedup-distinct : (ks : List (String Z)) → IsDistinct string_eq ks → dedup string_eq ks ≡ ks
  unfolding IsDistinct
  dedup-distinct [] all = refl
  dedup-distinct (k ∷ ks) all = dedup_from-distinct k ks all.0 all.1

  below_texts : (k : String Z) (ks : List (String Z)) → AllByRecursion (λ y. string_cmp k y ≡ Less) ks → AllByRecursion (λ y. slice_cmp nat_cmp (string_bytes k) y ≡ Less) (map string_bytes ks)
  below_texts k [] all = tt
  below_texts k (x ∷ xs) all = (all.0, below_texts k xs all.1)

  ascending_texts : (ks : List (String Z)) → IsStrictlySortedBy string_cmp ks → AreAscendingTexts (map string_bytes ks)
  unfolding IsStrictlySortedBy
  ascending_texts [] s = tt
  ascending_texts (k ∷ ks) s = (below_texts k ks s.0, ascending_texts ks s.1)

  -- different texts that are sorted ascend
  pub sorted_texts : (ks : List (String Z)) → IsSorted string_cmp ks → IsDistinct string_eq ks → AreAscendingTexts (map string_bytes ks)
  sorted_texts ks s d =
      ascending_texts ks (subst (IsStrictlySortedBy string_cmp) (dedup-distinct ks d) (IsStrictlySortedBy-dedup string_cmp_total (λ x y. texts_ties (string_bytes x) (string_bytes y)) ks s))

  -- ---- their places

  place_in_set : (ks : List (String Z)) (text : List ℕ) → place_of (map string_bytes ks) text ≡ position_or_len (λ k. bytes_eq text (string_bytes k)) ks
  place_in_set [] text = refl
  place_in_set (k ∷ ks) text =
      ap (λ (b : Bool). cond b 0 (suc (place_of (map string_bytes ks) text))) (nat_list_eq_equiv.symm (string_bytes k) text)
      ∙ either_way (bytes_eq text (string_bytes k)) (place_of (map string_bytes ks) text) (position_or_len (λ x. bytes_eq text (string_bytes x)) ks) (place_in_set ks text)

  pub found_place : (ks : List (String Z)) (text : List ℕ) (place : ℕ) → Some place ≡ position (λ k. bytes_eq text (string_bytes k)) ks → place ≡ place_of (map string_bytes ks) text
  found_place ks text place e = some_place _ _ place e ∙ sym (place_in_set ks text)

  pub absent_place : (ks : List (String Z)) (text : List ℕ) → None ≡ position (λ k. bytes_eq text (string_bytes k)) ks → length ks ≡ place_of (map string_bytes ks) text
  absent_place ks text e = no_place _ _ (length ks) refl (prefix_len-le-length (λ k. not (bytes_eq text (string_bytes k))) ks) e ∙ sym (place_in_set ks text)

-- ---- numbers that are kept for texts

numbered_step : (f : List ℕ → ℕ) (x : List ℕ) (xs : List (List ℕ)) (text : List ℕ) (number : ℕ) (b : Bool) → b ≡ pointwise nat_eq x text → (Some number ≡ slice_get (map f xs) (place_of xs text) → number ≡ f text)
    → Some number ≡ slice_get (f x ∷ map f xs) (cond b 0 (suc (place_of xs text))) → number ≡ f text
numbered_step f x xs text number true h later e = some_is number (f x) e ∙ ap f ((bytes_decides x text).0 (sym h))
numbered_step f x xs text number false h later e = later e

pub numbered : (f : List ℕ → ℕ) (xs : List (List ℕ)) (text : List ℕ) (number : ℕ) → Some number ≡ slice_get (map f xs) (place_of xs text) → number ≡ f text
numbered f [] text number e = absurd cc
numbered f (x ∷ xs) text number e = numbered_step f x xs text number (pointwise nat_eq x text) refl (numbered f xs text number) e

-- ---- the identifiers of files

pub names_are : (files : List FileGraph) (found names : List (List ℕ)) → Adds (texts_in files) [] found → IsPermutation found names → AreAscendingTexts names → AreNamesOf files names
names_are files found names adds moved ascending = record {
  ascending = ascending;
  in_use = λ text c. used text ((adds text).0 (Contains-permutation names found text (IsPermutation-sym found names moved) c));
  all = λ text e c. Contains-permutation found names text moved ((adds text).1 (inr (e, c)));
}
  where
    used : (text : List ℕ) → Contains [] text ⊎ IsTrue (is_filled text) × Contains (texts_in files) text → IsTrue (is_filled text) × Contains (texts_in files) text
    used text (inl h) = absurd (omega (arith, h.1))
    used text (inr h) = h
