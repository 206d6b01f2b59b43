-- A text is a keyword exactly where it is one of those of its length.
use Rattle.std.proofs.Common.{◌≡◌, ℕ, ◌≤◌, ◌<◌, Bool, true, false, ◌&&◌, ◌||◌, not, List, [], ◌∷◌, ◌++◌, length, leb, eqb, sym, ap, ◌∙◌, refl, arith, ⊎_elim, subst}
use Rattle.std.specs.List.{list_all, list_any}
use Rattle.std.specs.Str.{bytes_eq}
use Rattle.std.proofs.lemmas.Bool.{and_parts, and_from, or_cases, false≢true, false_from_ne_true, le-leb}
use Rattle.std.proofs.lemmas.List.Folds.{list_any-append}
use Rattle.std.proofs.lemmas.Slice.Eq.{bytes_eq-Decides}
use Rattle.swift_token.proofs.Fronts.{among_passes}
use Rattle.swift_token.specs.Texts.{is_among, keywords, keywords_to_2, keywords_of_3, keywords_of_4, keywords_of_5, keywords_of_6, keywords_to_8, keywords_from_9}

-- a text is none of those that fail a test which it passes
none_among : (p : ℕ → Bool) (texts : List (List ℕ)) (text : List ℕ) → list_all (λ t. not (p (length t))) texts ≡ true → p (length text) ≡ true → is_among texts text ≡ false
none_among p texts text all passes =
    false_from_ne_true (is_among texts text) (λ among. false≢true (sym (ap not passes) ∙ among_passes (λ t. not (p (length t))) texts text all among))

front_apart : (xs ys : List (List ℕ)) (text : List ℕ) → is_among xs text ≡ false → is_among (xs ++ ys) text ≡ is_among ys text
front_apart xs ys text none = list_any-append (λ t. bytes_eq t text) xs ys ∙ ap (λ b. b || is_among ys text) none

back_apart : (xs ys : List (List ℕ)) (text : List ℕ) → is_among ys text ≡ false → is_among (xs ++ ys) text ≡ is_among xs text
back_apart [] ys text none = none
back_apart (x ∷ xs) ys text none = ap (λ b. bytes_eq x text || b) (back_apart xs ys text none)

-- of three lists of which the outer two have no text of its length, a text is among the inner one or none
only : (p : ℕ → Bool) (front group back : List (List ℕ)) (text : List ℕ) → list_all (λ t. not (p (length t))) front ≡ true → list_all (λ t. not (p (length t))) back ≡ true → p (length text) ≡ true
    → is_among group text ≡ is_among (front ++ (group ++ back)) text
only p front group back text f b passes = sym (front_apart front (group ++ back) text (none_among p front text f passes) ∙ back_apart group back text (none_among p back text b passes))

pub to_2 : (text : List ℕ) → length text ≤ 2 → is_among keywords_to_2 text ≡ is_among keywords text
to_2 text h = only (λ k. leb k 2) [] keywords_to_2 (keywords_of_3 ++ (keywords_of_4 ++ (keywords_of_5 ++ (keywords_of_6 ++ (keywords_to_8 ++ keywords_from_9))))) text refl refl (le-leb (length text) 2 h)

pub of_3 : (text : List ℕ) → length text ≡ 3 → is_among keywords_of_3 text ≡ is_among keywords text
of_3 text h = only (λ k. eqb k 3) keywords_to_2 keywords_of_3 (keywords_of_4 ++ (keywords_of_5 ++ (keywords_of_6 ++ (keywords_to_8 ++ keywords_from_9)))) text refl refl (ap (λ k. eqb k 3) h)

pub of_4 : (text : List ℕ) → length text ≡ 4 → is_among keywords_of_4 text ≡ is_among keywords text
of_4 text h = only (λ k. eqb k 4) (keywords_to_2 ++ keywords_of_3) keywords_of_4 (keywords_of_5 ++ (keywords_of_6 ++ (keywords_to_8 ++ keywords_from_9))) text refl refl (ap (λ k. eqb k 4) h)

pub of_5 : (text : List ℕ) → length text ≡ 5 → is_among keywords_of_5 text ≡ is_among keywords text
of_5 text h = only (λ k. eqb k 5) (keywords_to_2 ++ (keywords_of_3 ++ keywords_of_4)) keywords_of_5 (keywords_of_6 ++ (keywords_to_8 ++ keywords_from_9)) text refl refl (ap (λ k. eqb k 5) h)

pub of_6 : (text : List ℕ) → length text ≡ 6 → is_among keywords_of_6 text ≡ is_among keywords text
of_6 text h = only (λ k. eqb k 6) (keywords_to_2 ++ (keywords_of_3 ++ (keywords_of_4 ++ keywords_of_5))) keywords_of_6 (keywords_to_8 ++ keywords_from_9) text refl refl (ap (λ k. eqb k 6) h)

pub to_8 : (text : List ℕ) → 7 ≤ length text → length text ≤ 8 → is_among keywords_to_8 text ≡ is_among keywords text
to_8 text l h =
    only (λ k. leb 7 k && leb k 8) (keywords_to_2 ++ (keywords_of_3 ++ (keywords_of_4 ++ (keywords_of_5 ++ keywords_of_6)))) keywords_to_8 keywords_from_9 text refl refl
    (and_from (leb 7 (length text)) (leb (length text) 8) (le-leb 7 (length text) l) (le-leb (length text) 8 h))

pub from_9 : (text : List ℕ) → 9 ≤ length text → is_among keywords_from_9 text ≡ is_among keywords text
from_9 text l =
    only (λ k. leb 9 k) (keywords_to_2 ++ (keywords_of_3 ++ (keywords_of_4 ++ (keywords_of_5 ++ (keywords_of_6 ++ keywords_to_8))))) keywords_from_9 [] text refl refl (le-leb 9 (length text) l)
