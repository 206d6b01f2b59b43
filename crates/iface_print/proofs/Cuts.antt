-- Texts of words with separators between them are cut in one way.
use Rattle.std.proofs.Common.{◌≡◌, ℕ, Bool, true, false, List, [], ◌∷◌, ◌++◌, refl, sym, subst}
use Rattle.std.specs.Prelude.{not, flat_map, ◌==◌}
use Rattle.std.specs.List.{list_all}
use Rattle.iface_print.specs.Prints.{lines_of, is_one_line}
use Rattle.type_infer.proofs.ListFacts.{both-true}

-- the text has no separator
abbrev pub is_free : (ℕ → Bool) → List ℕ → Bool
is_free separates text = list_all (λ byte. not (separates byte)) text

-- the text is empty or begins with a separator
abbrev pub Stops : (ℕ → Bool) → List ℕ → Type 0
Stops separates [] = Unit {0}
Stops separates (byte ∷ more) = separates byte ≡ true

not-both : (b : Bool) → not b ≡ true → b ≡ true → ⊥
not-both true h g = absurd cc
not-both false h g = absurd cc

-- Where two texts are a word each and what follows it, the words are the same.
pub cut : (separates : ℕ → Bool) (x y r s : List ℕ) → is_free separates x ≡ true → is_free separates y ≡ true → Stops separates r → Stops separates s → x ++ r ≡ y ++ s → (x ≡ y) × (r ≡ s)
cut t [] [] r s fx fy sr ss h = (refl, h)
cut t [] (b ∷ y) r s fx fy sr ss h = absurd (not-both (t b) (both-true _ _ fy).0 (subst (Stops t) h sr))
cut t (a ∷ x) [] r s fx fy sr ss h = absurd (not-both (t a) (both-true _ _ fx).0 (subst (Stops t) (sym h) ss))
cut t (a ∷ x) (b ∷ y) r s fx fy sr ss h =
    let head : a ≡ b = cc in
    let tail : x ++ r ≡ y ++ s = cc in
    let rest : (x ≡ y) × (r ≡ s) = cut t x y r s (both-true _ _ fx).1 (both-true _ _ fy).1 sr ss tail in
    (λ i. head i ∷ rest.0 i, rest.1)

line-stops : (more : List (List ℕ)) → Stops (λ byte. byte == 10) (flat_map (λ text. 10 ∷ text) more)
line-stops [] = tt
line-stops (x ∷ xs) = refl

-- joined lines that are the same have the same first line
pub first-line : (x y : List ℕ) (xs ys : List (List ℕ)) → is_one_line x ≡ true → is_one_line y ≡ true → lines_of (x ∷ xs) ≡ lines_of (y ∷ ys) → x ≡ y
first-line x y xs ys fx fy h = (cut (λ byte. byte == 10) x y _ _ fx fy (line-stops xs) (line-stops ys) (let e : x ++ flat_map (λ text. 10 ∷ text) xs ≡ y ++ flat_map (λ text. 10 ∷ text) ys = cc in e)).0
