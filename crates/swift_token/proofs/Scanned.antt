-- Where strings and comments end.
use Rattle.std.proofs.Common.{◌≡◌, ℕ, zero, suc, ◌+◌, ◌-◌, ◌<◌, ◌≤◌, Bool, true, false, ◌&&◌, not, cond, Option, Some, None, List, [], ◌∷◌, ◌++◌, length, take, drop, get_or, eqb, sym, ap, ◌∙◌, refl, arith, ⊎_elim, subst}
use Rattle.std.proofs.lemmas.Bool.{and_parts, and_from, cases_Bool, false≢true, eqb-true, eq-eqb, cond-true, cond-false, not-true, not_from_false}
use Rattle.std.proofs.lemmas.List.{at_drop_more, nil_from_length}
use Rattle.swift_token.specs.Texts.{breaks_string}
use Rattle.swift_token.specs.Trivia.{closes_comment}
use Rattle.swift_token.specs.Faults.{closes_string}
use Rattle.swift_token.specs.Scans.{later, comment_end, string_end}

pub later_none : (found : Option ℕ) → later 0 found ≡ found
later_none None = refl
later_none (Some n) = ap (λ (k : ℕ). Some k) (omega arith)

pub later_more : (a b : ℕ) (found : Option ℕ) → later a (later b found) ≡ later (a + b) found
later_more a b None = refl
later_more a b (Some n) = ap (λ (k : ℕ). Some k) (omega arith)

pub comment_closed : (depth last byte : ℕ) (cs : List ℕ) → 0 < depth → (eqb last 42 && eqb byte 47) ≡ true → comment_end depth last (byte ∷ cs) ≡ later 1 (comment_end (depth - 1) 0 cs)
comment_closed zero last byte cs some h = absurd (omega arith)
comment_closed (suc d) last byte cs some h =
    let same : suc d - 1 ≡ d = omega arith in
    cond-true (eqb last 42 && eqb byte 47) (later 1 (comment_end d 0 cs)) _ h ∙ ap (λ (n : ℕ). later 1 (comment_end n 0 cs)) (sym same)

pub comment_opened : (depth last byte : ℕ) (cs : List ℕ) → 0 < depth → (eqb last 42 && eqb byte 47) ≡ false → (eqb last 47 && eqb byte 42) ≡ true → comment_end depth last (byte ∷ cs) ≡ later 1 (comment_end (depth + 1) 0 cs)
comment_opened zero last byte cs some h o = absurd (omega arith)
comment_opened (suc d) last byte cs some h o =
    let same : suc d + 1 ≡ suc (suc d) = omega arith in
    cond-false (eqb last 42 && eqb byte 47) (later 1 (comment_end d 0 cs)) _ h ∙ cond-true (eqb last 47 && eqb byte 42) (later 1 (comment_end (suc (suc d)) 0 cs)) _ o
    ∙ ap (λ (n : ℕ). later 1 (comment_end n 0 cs)) (sym same)

pub comment_inside : (depth last byte : ℕ) (cs : List ℕ) → 0 < depth → (eqb last 42 && eqb byte 47) ≡ false → (eqb last 47 && eqb byte 42) ≡ false → comment_end depth last (byte ∷ cs) ≡ later 1 (comment_end depth byte cs)
comment_inside zero last byte cs some h o = absurd (omega arith)
comment_inside (suc d) last byte cs some h o =
    cond-false (eqb last 42 && eqb byte 47) (later 1 (comment_end d 0 cs)) _ h ∙ cond-false (eqb last 47 && eqb byte 42) (later 1 (comment_end (suc (suc d)) 0 cs)) (later 1 (comment_end (suc d) byte cs)) o

-- a pair of bytes
pub both_are : (a b m n : ℕ) → a ≡ m → b ≡ n → (eqb a m && eqb b n) ≡ true
both_are a b m n x y = and_from (eqb a m) (eqb b n) (eq-eqb a m x) (eq-eqb b n y)

pub comment_more : (bs : List ℕ) (i depth last new now : ℕ) → i < length bs → ((cs : List ℕ) → comment_end depth last (get_or bs i 0 ∷ cs) ≡ later 1 (comment_end new now cs))
    → later i (comment_end depth last (drop i bs)) ≡ later (i + 1) (comment_end new now (drop (i + 1) bs))
comment_more bs i depth last new now h step =
    ap (later i) (at_drop_more (comment_end depth last) bs i 0 h ∙ step (drop (i + 1) bs)) ∙ later_more i 1 (comment_end new now (drop (i + 1) bs))

pub later_some : (found : Option ℕ) (n : ℕ) → later 1 found ≡ Some n → (m : ℕ) × (found ≡ Some m) × (n ≡ suc m)
later_some None n h = absurd (cc)
later_some (Some m) n h = let e : 1 + m ≡ n = cc in (m, refl, omega (arith, e))

pub later_nothing : (found : Option ℕ) → later 1 found ≡ None → found ≡ None
later_nothing None h = refl
later_nothing (Some m) h = absurd (cc)

pub one_later : (n : ℕ) → later 1 (Some n) ≡ Some (suc n)
one_later n = ap (λ (k : ℕ). Some k) (omega arith)

pub nothing_left : (cs : List ℕ) → eqb (length cs) 0 ≡ true → cs ≡ []
nothing_left cs h = nil_from_length cs (eqb-true (length cs) 0 h)

-- a comment that is closed ends there
pub comment_ends : (depth last : ℕ) (front rest : List ℕ) → closes_comment depth last front ≡ true → comment_end depth last (front ++ rest) ≡ Some (length front)
comment_ends zero last front rest h = ap (λ (k : ℕ). Some k) (sym (eqb-true (length front) 0 h))
comment_ends (suc d) last [] rest h = absurd (false≢true h)
comment_ends (suc d) last (c ∷ cs) rest h =
    ⊎_elim (λ (e : (eqb last 42 && eqb c 47) ≡ true).
    let inner : closes_comment d 0 cs ≡ true = sym (cond-true (eqb last 42 && eqb c 47) (closes_comment d 0 cs) _ e) ∙ h in
    cond-true (eqb last 42 && eqb c 47) (later 1 (comment_end d 0 (cs ++ rest))) _ e ∙ ap (later 1) (comment_ends d 0 cs rest inner) ∙ one_later (length cs))
    (λ (e : (eqb last 42 && eqb c 47) ≡ false).
    let next : cond (eqb last 47 && eqb c 42) (closes_comment (suc (suc d)) 0 cs) (closes_comment (suc d) c cs) ≡ true = sym (cond-false (eqb last 42 && eqb c 47) (closes_comment d 0 cs) _ e) ∙ h in
    cond-false (eqb last 42 && eqb c 47) (later 1 (comment_end d 0 (cs ++ rest))) _ e
    ∙ ⊎_elim (λ (o : (eqb last 47 && eqb c 42) ≡ true).
    let inner : closes_comment (suc (suc d)) 0 cs ≡ true = sym (cond-true (eqb last 47 && eqb c 42) (closes_comment (suc (suc d)) 0 cs) (closes_comment (suc d) c cs) o) ∙ next in
    cond-true (eqb last 47 && eqb c 42) (later 1 (comment_end (suc (suc d)) 0 (cs ++ rest))) (later 1 (comment_end (suc d) c (cs ++ rest))) o ∙ ap (later 1) (comment_ends (suc (suc d)) 0 cs rest inner) ∙ one_later (length cs))
    (λ (o : (eqb last 47 && eqb c 42) ≡ false).
    let inner : closes_comment (suc d) c cs ≡ true = sym (cond-false (eqb last 47 && eqb c 42) (closes_comment (suc (suc d)) 0 cs) (closes_comment (suc d) c cs) o) ∙ next in
    cond-false (eqb last 47 && eqb c 42) (later 1 (comment_end (suc (suc d)) 0 (cs ++ rest))) (later 1 (comment_end (suc d) c (cs ++ rest))) o ∙ ap (later 1) (comment_ends (suc d) c cs rest inner) ∙ one_later (length cs))
    (cases_Bool (eqb last 47 && eqb c 42)))
    (cases_Bool (eqb last 42 && eqb c 47))

-- What a scan for an end says: the bytes through it.
abbrev pub Through : (List ℕ → Bool) → ℕ → List ℕ → Type 0
Through closes n bs = (closes (take n bs) ≡ true) × (n ≤ length bs)

pub through_more : (closes more : List ℕ → Bool) (n m c : ℕ) (cs : List ℕ) → n ≡ suc m → ((xs : List ℕ) → more xs ≡ true → closes (c ∷ xs) ≡ true) → Through more m cs → Through closes n (c ∷ cs)
through_more closes more n m c cs len step t =
    (subst (λ (k : ℕ). closes (take k (c ∷ cs)) ≡ true) (sym len) (step (take m cs) t.0), omega (arith, len, t.1))

pub comment_through : (depth last : ℕ) (bs : List ℕ) (n : ℕ) → comment_end depth last bs ≡ Some n → Through (closes_comment depth last) n bs
comment_through zero last bs n h =
    let e : 0 ≡ n = cc in (subst (λ (k : ℕ). eqb (length (take k bs)) 0 ≡ true) e refl, omega (arith, e))
comment_through (suc d) last [] n h = absurd (cc)
comment_through (suc d) last (c ∷ cs) n h =
    ⊎_elim (λ (e : (eqb last 42 && eqb c 47) ≡ true).
    let s = later_some (comment_end d 0 cs) n (sym (cond-true (eqb last 42 && eqb c 47) (later 1 (comment_end d 0 cs)) _ e) ∙ h) in
    through_more (closes_comment (suc d) last) (closes_comment d 0) n s.0 c cs s.2 (λ xs closed. cond-true (eqb last 42 && eqb c 47) (closes_comment d 0 xs) _ e ∙ closed) (comment_through d 0 cs s.0 s.1))
    (λ (e : (eqb last 42 && eqb c 47) ≡ false).
    let next : cond (eqb last 47 && eqb c 42) (later 1 (comment_end (suc (suc d)) 0 cs)) (later 1 (comment_end (suc d) c cs)) ≡ Some n = sym (cond-false (eqb last 42 && eqb c 47) (later 1 (comment_end d 0 cs)) _ e) ∙ h in
    ⊎_elim (λ (o : (eqb last 47 && eqb c 42) ≡ true).
    let s = later_some (comment_end (suc (suc d)) 0 cs) n (sym (cond-true (eqb last 47 && eqb c 42) (later 1 (comment_end (suc (suc d)) 0 cs)) (later 1 (comment_end (suc d) c cs)) o) ∙ next) in
    through_more (closes_comment (suc d) last) (closes_comment (suc (suc d)) 0) n s.0 c cs s.2
    (λ xs closed. cond-false (eqb last 42 && eqb c 47) (closes_comment d 0 xs) _ e ∙ cond-true (eqb last 47 && eqb c 42) (closes_comment (suc (suc d)) 0 xs) (closes_comment (suc d) c xs) o ∙ closed)
    (comment_through (suc (suc d)) 0 cs s.0 s.1))
    (λ (o : (eqb last 47 && eqb c 42) ≡ false).
    let s = later_some (comment_end (suc d) c cs) n (sym (cond-false (eqb last 47 && eqb c 42) (later 1 (comment_end (suc (suc d)) 0 cs)) (later 1 (comment_end (suc d) c cs)) o) ∙ next) in
    through_more (closes_comment (suc d) last) (closes_comment (suc d) c) n s.0 c cs s.2
    (λ xs closed. cond-false (eqb last 42 && eqb c 47) (closes_comment d 0 xs) _ e ∙ cond-false (eqb last 47 && eqb c 42) (closes_comment (suc (suc d)) 0 xs) (closes_comment (suc d) c xs) o ∙ closed)
    (comment_through (suc d) c cs s.0 s.1))
    (cases_Bool (eqb last 47 && eqb c 42)))
    (cases_Bool (eqb last 42 && eqb c 47))

-- a string that is closed ends there
pub string_ends : (escaped : Bool) (front rest : List ℕ) → closes_string escaped front ≡ true → string_end escaped (front ++ rest) ≡ Some (length front)
string_ends escaped [] rest h = absurd (false≢true h)
string_ends true (c ∷ cs) rest h =
    let both = and_parts (not (breaks_string c)) (closes_string false cs) h in
    cond-false (breaks_string c) None (later 1 (string_end false (cs ++ rest))) (not-true (breaks_string c) both.0) ∙ ap (later 1) (string_ends false cs rest both.1) ∙ one_later (length cs)
string_ends false (c ∷ cs) rest h =
    ⊎_elim (λ (e : eqb c 34 ≡ true).
    let none : eqb (length cs) 0 ≡ true = sym (cond-true (eqb c 34) (eqb (length cs) 0) _ e) ∙ h in
    cond-true (eqb c 34) (Some 1) _ e ∙ ap (λ (k : ℕ). Some k) (omega (arith, eqb-true (length cs) 0 none)))
    (λ (e : eqb c 34 ≡ false).
    let both = and_parts (not (breaks_string c)) (closes_string (eqb c 92) cs) (sym (cond-false (eqb c 34) (eqb (length cs) 0) _ e) ∙ h) in
    cond-false (eqb c 34) (Some 1) _ e ∙ cond-false (breaks_string c) None (later 1 (string_end (eqb c 92) (cs ++ rest))) (not-true (breaks_string c) both.0)
    ∙ ap (later 1) (string_ends (eqb c 92) cs rest both.1) ∙ one_later (length cs))
    (cases_Bool (eqb c 34))

pub string_through : (escaped : Bool) (bs : List ℕ) (n : ℕ) → string_end escaped bs ≡ Some n → Through (closes_string escaped) n bs
string_through escaped [] n h = absurd (cc)
string_through true (c ∷ cs) n h =
    ⊎_elim (λ (b : breaks_string c ≡ true). let none : None ≡ Some n = sym (cond-true (breaks_string c) None (later 1 (string_end false cs)) b) ∙ h in absurd (cc))
    (λ (b : breaks_string c ≡ false).
    let s = later_some (string_end false cs) n (sym (cond-false (breaks_string c) None (later 1 (string_end false cs)) b) ∙ h) in
    through_more (closes_string true) (closes_string false) n s.0 c cs s.2 (λ xs closed. and_from (not (breaks_string c)) (closes_string false xs) (not_from_false (breaks_string c) b) closed) (string_through false cs s.0 s.1))
    (cases_Bool (breaks_string c))
string_through false (c ∷ cs) n h =
    ⊎_elim (λ (e : eqb c 34 ≡ true).
    let one : Some 1 ≡ Some n = sym (cond-true (eqb c 34) (Some 1) _ e) ∙ h in
    let n_is : 1 ≡ n = cc in
    (subst (λ (k : ℕ). closes_string false (take k (c ∷ cs)) ≡ true) n_is (cond-true (eqb c 34) true _ e), omega (arith, n_is)))
    (λ (e : eqb c 34 ≡ false).
    let next : cond (breaks_string c) None (later 1 (string_end (eqb c 92) cs)) ≡ Some n = sym (cond-false (eqb c 34) (Some 1) _ e) ∙ h in
    ⊎_elim (λ (b : breaks_string c ≡ true). let none : None ≡ Some n = sym (cond-true (breaks_string c) None (later 1 (string_end (eqb c 92) cs)) b) ∙ next in absurd (cc))
    (λ (b : breaks_string c ≡ false).
    let s = later_some (string_end (eqb c 92) cs) n (sym (cond-false (breaks_string c) None (later 1 (string_end (eqb c 92) cs)) b) ∙ next) in
    through_more (closes_string false) (closes_string (eqb c 92)) n s.0 c cs s.2
    (λ xs closed. cond-false (eqb c 34) (eqb (length xs) 0) _ e ∙ and_from (not (breaks_string c)) (closes_string (eqb c 92) xs) (not_from_false (breaks_string c) b) closed) (string_through (eqb c 92) cs s.0 s.1))
    (cases_Bool (breaks_string c)))
    (cases_Bool (eqb c 34))
