-- Texts among others: one text more at the end, and those that pass a test.
use Rattle.std.proofs.Common.{◌≡◌, ◌≢◌, ◌∙◌, ◌&&◌, ◌||◌, ◌++◌, ℕ, Bool, true, false, cond, List, [], ◌∷◌, filter, refl, sym, ap, arith, nat_eq, nat_cmp}
use Rattle.std.specs.Ordering.{is_eq}
use Rattle.std.specs.Cmp.{eq_by_cmp_equiv}
use Rattle.std.specs.Cmp.Lexicographic.{slice_cmp, pointwise, nat_list_cmp_total, same_text, texts_ties}
use Rattle.std.specs.declared.cmp.Ordering.TheVariants.{Less}
use Rattle.std.proofs.lemmas.Bool.{or_left, or_right}
use Rattle.ordered_lists.specs.Among.{is_among}

pub same_symbol : (s q : List ℕ) → pointwise nat_eq s q ≡ true → s ≡ q
same_symbol s q e = same_text s q (sym e)

itself : (s : List ℕ) → pointwise nat_eq s s ≡ true
itself s = texts_ties s s ∙ (eq_by_cmp_equiv nat_list_cmp_total).refl s

pub not_below_itself : (s : List ℕ) → slice_cmp nat_cmp s s ≢ Less
not_below_itself s e = let f : is_eq Less ≡ true = ap is_eq (sym e) ∙ (eq_by_cmp_equiv nat_list_cmp_total).refl s in cc

among-push : (xs : List (List ℕ)) (x q : List ℕ) → is_among (xs ++ x ∷ []) q ≡ is_among xs q || pointwise nat_eq x q
among-push [] x q = elim (pointwise nat_eq x q) as (λ b. b || false ≡ b) [ true ↦ refl | false ↦ refl ]
among-push (y ∷ xs) x q = ap (λ b. pointwise nat_eq y q || b) (among-push xs x q) ∙ or_assoc (pointwise nat_eq y q) _ _
  where
    or_assoc : (a b c : Bool) → a || (b || c) ≡ (a || b) || c
    or_assoc true b c = refl
    or_assoc false b c = refl

by_last : {A : Type 0} (a b : Bool) → a || b ≡ true → (a ≡ true → A) → (b ≡ true → A) → A
by_last true b e f g = f refl
by_last false b e f g = g e

pub among_last : (xs : List (List ℕ)) (x : List ℕ) → is_among (xs ++ x ∷ []) x ≡ true
among_last xs x = among-push xs x x ∙ or_right (is_among xs x) _ (itself x)

pub among_more : (xs : List (List ℕ)) (x q : List ℕ) → is_among xs q ≡ true → is_among (xs ++ x ∷ []) q ≡ true
among_more xs x q h = among-push xs x q ∙ or_left (is_among xs q) _ h

-- A text among others and one more is that one or among the others.
pub by_place : {A : Type 0} (xs : List (List ℕ)) (x q : List ℕ) → is_among (xs ++ x ∷ []) q ≡ true → (is_among xs q ≡ true → A) → (x ≡ q → A) → A
by_place xs x q h f g = by_last (is_among xs q) (pointwise nat_eq x q) (sym (among-push xs x q) ∙ h) f (λ e. g (same_symbol x q e))

at_one : (p : List ℕ → Bool) (q s : List ℕ) (xs : List (List ℕ)) (at test : Bool) → pointwise nat_eq s q ≡ at → p s ≡ test → (at ≡ true → p q ≡ test) → is_among (filter p xs) q ≡ p q && is_among xs q → is_among (cond test (s ∷ filter p xs) (filter p xs)) q ≡ p q && (at || is_among xs q)
at_one p q s xs true true e f g rest = grind arith
at_one p q s xs true false e f g rest = grind arith
at_one p q s xs false true e f g rest = grind arith
at_one p q s xs false false e f g rest = rest

-- A text is among those that pass a test where it passes and is among all.
pub among_filter : (p : List ℕ → Bool) (q : List ℕ) (xs : List (List ℕ)) → is_among (filter p xs) q ≡ p q && is_among xs q
among_filter p q [] = elim (p q) as (λ b. false ≡ b && false) [ true ↦ refl | false ↦ refl ]
among_filter p q (s ∷ xs) = at_one p q s xs (pointwise nat_eq s q) (p s) refl refl (λ e. ap p (sym (same_symbol s q e))) (among_filter p q xs)
