-- The front of a list whose bytes pass a test.
use Rattle.std.proofs.Common.{◌≡◌, ℕ, suc, ◌+◌, Bool, true, false, List, [], ◌∷◌, ◌++◌, length, take, drop, sym, refl, arith, ⊎_elim, subst}
use Rattle.std.specs.List.{list_all, prefix_len}
use Rattle.std.specs.Str.{bytes_eq}
use Rattle.std.proofs.lemmas.Bool.{and_parts, and_from, or_cases, cond-true, cond-false, cases_Bool, false≢true}
use Rattle.std.proofs.lemmas.Slice.Eq.{bytes_eq-Decides}
use Rattle.swift_token.specs.Texts.{is_among}
use Rattle.swift_token.specs.Spelling.{begins_by}

-- a front whose bytes pass, and then one that fails or the end, is the longest such front
pub front_is : (p : ℕ → Bool) (xs ys : List ℕ) → list_all p xs ≡ true → begins_by p ys ≡ false → prefix_len p (xs ++ ys) ≡ length xs
front_is p [] [] all stops = refl
front_is p [] (y ∷ ys) all stops = cond-false (p y) (1 + prefix_len p ys) 0 stops
front_is p (x ∷ xs) ys all stops =
    let both = and_parts (p x) (list_all p xs) all in
    let later : prefix_len p (xs ++ ys) ≡ length xs = front_is p xs ys both.1 stops in
    let here : prefix_len p (x ∷ (xs ++ ys)) ≡ 1 + prefix_len p (xs ++ ys) = cond-true (p x) (1 + prefix_len p (xs ++ ys)) 0 both.0 in
    omega (arith, here, later)

pub front_passes : (p : ℕ → Bool) (xs : List ℕ) → list_all p (take (prefix_len p xs) xs) ≡ true
front_passes p [] = refl
front_passes p (x ∷ xs) =
    ⊎_elim (λ (e : p x ≡ true). let n : prefix_len p (x ∷ xs) ≡ 1 + prefix_len p xs = cond-true (p x) (1 + prefix_len p xs) 0 e in
    let m : prefix_len p (x ∷ xs) ≡ suc (prefix_len p xs) = omega (arith, n) in
    subst (λ (k : ℕ). list_all p (take k (x ∷ xs)) ≡ true) (sym m) (and_from (p x) (list_all p (take (prefix_len p xs) xs)) e (front_passes p xs)))
    (λ (e : p x ≡ false). subst (λ (k : ℕ). list_all p (take k (x ∷ xs)) ≡ true) (sym (cond-false (p x) (1 + prefix_len p xs) 0 e)) refl)
    (cases_Bool (p x))

pub front_stops : (p : ℕ → Bool) (xs : List ℕ) → begins_by p (drop (prefix_len p xs) xs) ≡ false
front_stops p [] = refl
front_stops p (x ∷ xs) =
    ⊎_elim (λ (e : p x ≡ true). let n : prefix_len p (x ∷ xs) ≡ 1 + prefix_len p xs = cond-true (p x) (1 + prefix_len p xs) 0 e in
    let m : prefix_len p (x ∷ xs) ≡ suc (prefix_len p xs) = omega (arith, n) in
    subst (λ (k : ℕ). begins_by p (drop k (x ∷ xs)) ≡ false) (sym m) (front_stops p xs))
    (λ (e : p x ≡ false). subst (λ (k : ℕ). begins_by p (drop k (x ∷ xs)) ≡ false) (sym (cond-false (p x) (1 + prefix_len p xs) 0 e)) e)
    (cases_Bool (p x))

-- what holds of each text of a list holds of one among them
pub among_passes : (p : List ℕ → Bool) (texts : List (List ℕ)) (text : List ℕ) → list_all p texts ≡ true → is_among texts text ≡ true → p text ≡ true
among_passes p [] text all among = absurd (false≢true among)
among_passes p (t ∷ texts) text all among =
    let both = and_parts (p t) (list_all p texts) all in
    ⊎_elim (λ (e : bytes_eq t text ≡ true). subst (λ (x : List ℕ). p x ≡ true) ((bytes_eq-Decides t text).0 e) both.0)
    (λ (e : is_among texts text ≡ true). among_passes p texts text both.1 e)
    (or_cases (bytes_eq t text) (is_among texts text) among)

-- two splits of one list at one length are one split
pub same_split : (xs us ys vs : List ℕ) → length xs ≡ length ys → xs ++ us ≡ ys ++ vs → (xs ≡ ys) × (us ≡ vs)
same_split [] us [] vs n e = (refl, e)
same_split [] us (y ∷ ys) vs n e = absurd (omega (arith, n))
same_split (x ∷ xs) us [] vs n e = absurd (omega (arith, n))
same_split (x ∷ xs) us (y ∷ ys) vs n e =
    let tails : xs ++ us ≡ ys ++ vs = cc in
    let heads : x ≡ y = cc in
    let found = same_split xs us ys vs (omega (arith, n)) tails in
    let front : xs ≡ ys = found.0 in
    ((cc), found.1)
