-- The escapes of a string.
use Rattle.std.proofs.Common.{◌≡◌, ℕ, suc, ◌+◌, Bool, true, false, ◌||◌, not, Option, Some, None, List, [], ◌∷◌, ◌++◌, length, eqb, sym, ap, ◌∙◌, refl, arith, ⊎_elim, subst}
use Rattle.std.proofs.lemmas.Bool.{and_parts, and_from, or_cases, or_parts, or_from, cases_Bool, false≢true, eqb-true, cond-true, cond-false, not-true, not_from_false, false_from_ne_true}
use Rattle.swift_token.specs.Texts.{is_escape, breaks_string, ends_string}
use Rattle.swift_token.specs.Faults.{closes_string, is_string_part}
use Rattle.swift_token.specs.Scans.{later, bad_escape}
use Rattle.swift_token.proofs.Scanned.{later_some, later_nothing, one_later, nothing_left}

-- what breaks a string makes no escape
break_escapes : (c : ℕ) → breaks_string c ≡ true → is_escape c ≡ true → ⊥
break_escapes c b e =
    ⊎_elim (λ (f : eqb c 10 ≡ true). false≢true (sym (ap is_escape (eqb-true c 10 f)) ∙ e)) (λ (f : eqb c 13 ≡ true). false≢true (sym (ap is_escape (eqb-true c 13 f)) ∙ e)) (or_cases (eqb c 10) (eqb c 13) b)

escape_stays : (c : ℕ) → is_escape c ≡ true → breaks_string c ≡ false
escape_stays c e = false_from_ne_true (breaks_string c) (λ b. break_escapes c b e)

-- a string's end with true escapes is one with any
pub strict_closes : (escaped : Bool) (cs : List ℕ) → ends_string escaped cs ≡ true → closes_string escaped cs ≡ true
strict_closes escaped [] h = absurd (false≢true h)
strict_closes true (c ∷ cs) h =
    let both = and_parts (is_escape c) (ends_string false cs) h in
    and_from (not (breaks_string c)) (closes_string false cs) (not_from_false (breaks_string c) (escape_stays c both.0)) (strict_closes false cs both.1)
strict_closes false (c ∷ cs) h =
    ⊎_elim (λ (e : eqb c 34 ≡ true). cond-true (eqb c 34) (eqb (length cs) 0) _ e ∙ sym (cond-true (eqb c 34) (eqb (length cs) 0) _ e) ∙ h)
    (λ (e : eqb c 34 ≡ false).
    let both = and_parts (not (breaks_string c)) (ends_string (eqb c 92) cs) (sym (cond-false (eqb c 34) (eqb (length cs) 0) _ e) ∙ h) in
    cond-false (eqb c 34) (eqb (length cs) 0) _ e ∙ and_from (not (breaks_string c)) (closes_string (eqb c 92) cs) both.0 (strict_closes (eqb c 92) cs both.1))
    (cases_Bool (eqb c 34))

none_later : (found : Option ℕ) → found ≡ None → later 1 found ≡ None
none_later found h = ap (later 1) h

bad_at_end : (escaped : Bool) (cs : List ℕ) → cs ≡ [] → bad_escape escaped cs ≡ None
bad_at_end escaped cs h = ap (bad_escape escaped) h

pub strict_no_bad : (escaped : Bool) (cs : List ℕ) → ends_string escaped cs ≡ true → bad_escape escaped cs ≡ None
strict_no_bad escaped [] h = refl
strict_no_bad true (c ∷ cs) h =
    let both = and_parts (is_escape c) (ends_string false cs) h in
    cond-true (is_escape c) (later 1 (bad_escape false cs)) (Some 0) both.0 ∙ none_later (bad_escape false cs) (strict_no_bad false cs both.1)
strict_no_bad false (c ∷ cs) h =
    ⊎_elim (λ (e : eqb c 34 ≡ true).
    let none : eqb (length cs) 0 ≡ true = sym (cond-true (eqb c 34) (eqb (length cs) 0) _ e) ∙ h in
    none_later (bad_escape (eqb c 92) cs) (bad_at_end (eqb c 92) cs (nothing_left cs none)))
    (λ (e : eqb c 34 ≡ false).
    let both = and_parts (not (breaks_string c)) (ends_string (eqb c 92) cs) (sym (cond-false (eqb c 34) (eqb (length cs) 0) _ e) ∙ h) in
    none_later (bad_escape (eqb c 92) cs) (strict_no_bad (eqb c 92) cs both.1))
    (cases_Bool (eqb c 34))

pub strict_from : (escaped : Bool) (cs : List ℕ) → closes_string escaped cs ≡ true → bad_escape escaped cs ≡ None → ends_string escaped cs ≡ true
strict_from escaped [] h none = absurd (false≢true h)
strict_from true (c ∷ cs) h none =
    let both = and_parts (not (breaks_string c)) (closes_string false cs) h in
    ⊎_elim (λ (e : is_escape c ≡ true).
    let rest : bad_escape false cs ≡ None = later_nothing (bad_escape false cs) (sym (cond-true (is_escape c) (later 1 (bad_escape false cs)) (Some 0) e) ∙ none) in
    and_from (is_escape c) (ends_string false cs) e (strict_from false cs both.1 rest))
    (λ (e : is_escape c ≡ false). let bad : Some 0 ≡ None = sym (cond-false (is_escape c) (later 1 (bad_escape false cs)) (Some 0) e) ∙ none in absurd (cc))
    (cases_Bool (is_escape c))
strict_from false (c ∷ cs) h none =
    ⊎_elim (λ (e : eqb c 34 ≡ true). cond-true (eqb c 34) (eqb (length cs) 0) _ e ∙ sym (cond-true (eqb c 34) (eqb (length cs) 0) _ e) ∙ h)
    (λ (e : eqb c 34 ≡ false).
    let both = and_parts (not (breaks_string c)) (closes_string (eqb c 92) cs) (sym (cond-false (eqb c 34) (eqb (length cs) 0) _ e) ∙ h) in
    cond-false (eqb c 34) (eqb (length cs) 0) _ e
    ∙ and_from (not (breaks_string c)) (ends_string (eqb c 92) cs) both.0 (strict_from (eqb c 92) cs both.1 (later_nothing (bad_escape (eqb c 92) cs) none)))
    (cases_Bool (eqb c 34))

-- the text with the `\` that stands before it
abbrev pub pending : Bool → List ℕ → List ℕ
pending true cs = 92 ∷ cs
pending false cs = cs

abbrev pub one_if : Bool → ℕ
one_if true = 1
one_if false = 0

-- A bad escape in a string that is closed.
pub record BadIn (escaped : Bool) (cs : List ℕ) (k : ℕ) : Type 0 where
  pub good : List ℕ
  pub bad : ℕ
  pub rest : List ℕ
  pub split : pending escaped cs ≡ good ++ (92 ∷ bad ∷ rest)
  pub place : k + one_if escaped ≡ length good + 1
  pub part : is_string_part false good ≡ true
  pub no_escape : (is_escape bad || breaks_string bad) ≡ false
  pub closed : closes_string false rest ≡ true

bad_character : (c : ℕ) (cs : List ℕ) (k m : ℕ) → k ≡ suc m → eqb c 34 ≡ false → breaks_string c ≡ false → eqb c 92 ≡ false → BadIn false cs m → BadIn false (c ∷ cs) k
bad_character c cs k m len quote stays slash b = record {
  good = c ∷ b.good;
  bad = b.bad;
  rest = b.rest;
  split = ap (λ (xs : List ℕ). c ∷ xs) b.split;
  place = omega (arith, len, b.place);
  part = and_from (not (eqb c 34 || breaks_string c)) (is_string_part (eqb c 92) b.good) (not_from_false (eqb c 34 || breaks_string c) (or_from (eqb c 34) (breaks_string c) quote stays))
      (subst (λ (e : Bool). is_string_part e b.good ≡ true) (sym slash) b.part);
  no_escape = b.no_escape;
  closed = b.closed;
}

bad_escaped : (c : ℕ) (cs : List ℕ) (k m : ℕ) → k ≡ suc m → c ≡ 92 → BadIn true cs m → BadIn false (c ∷ cs) k
bad_escaped c cs k m len slash b = record {
  good = b.good;
  bad = b.bad;
  rest = b.rest;
  split = ap (λ (x : ℕ). x ∷ cs) slash ∙ b.split;
  place = omega (arith, len, b.place);
  part = b.part;
  no_escape = b.no_escape;
  closed = b.closed;
}

bad_behind_escape : (c : ℕ) (cs : List ℕ) (k m : ℕ) → k ≡ suc m → is_escape c ≡ true → BadIn false cs m → BadIn true (c ∷ cs) k
bad_behind_escape c cs k m len e b = record {
  good = 92 ∷ c ∷ b.good;
  bad = b.bad;
  rest = b.rest;
  split = ap (λ (xs : List ℕ). 92 ∷ c ∷ xs) b.split;
  place = omega (arith, len, b.place);
  part = and_from (is_escape c) (is_string_part false b.good) e b.part;
  no_escape = b.no_escape;
  closed = b.closed;
}

pub bad_in : (escaped : Bool) (cs : List ℕ) (k : ℕ) → closes_string escaped cs ≡ true → bad_escape escaped cs ≡ Some k → BadIn escaped cs k
bad_in escaped [] k h found = absurd (false≢true h)
bad_in true (c ∷ cs) k h found =
    let both = and_parts (not (breaks_string c)) (closes_string false cs) h in
    ⊎_elim (λ (e : is_escape c ≡ true).
    let s = later_some (bad_escape false cs) k (sym (cond-true (is_escape c) (later 1 (bad_escape false cs)) (Some 0) e) ∙ found) in
    bad_behind_escape c cs k s.0 s.2 e (bad_in false cs s.0 both.1 s.1))
    (λ (e : is_escape c ≡ false).
    let zero_is : Some 0 ≡ Some k = sym (cond-false (is_escape c) (later 1 (bad_escape false cs)) (Some 0) e) ∙ found in
    let k_is : 0 ≡ k = cc in
    record { good = []; bad = c; rest = cs; split = refl; place = omega (arith, k_is); part = refl; no_escape = or_from (is_escape c) (breaks_string c) e (not-true (breaks_string c) both.0); closed = both.1 })
    (cases_Bool (is_escape c))
bad_in false (c ∷ cs) k h found =
    let s = later_some (bad_escape (eqb c 92) cs) k found in
    ⊎_elim (λ (e : eqb c 34 ≡ true).
    let none : eqb (length cs) 0 ≡ true = sym (cond-true (eqb c 34) (eqb (length cs) 0) _ e) ∙ h in
    let nothing : None ≡ Some s.0 = sym (bad_at_end (eqb c 92) cs (nothing_left cs none)) ∙ s.1 in
    absurd (cc))
    (λ (e : eqb c 34 ≡ false).
    let both = and_parts (not (breaks_string c)) (closes_string (eqb c 92) cs) (sym (cond-false (eqb c 34) (eqb (length cs) 0) _ e) ∙ h) in
    ⊎_elim (λ (w : eqb c 92 ≡ true).
    bad_escaped c cs k s.0 s.2 (eqb-true c 92 w)
    (bad_in true cs s.0 (subst (λ (b : Bool). closes_string b cs ≡ true) w both.1) (subst (λ (b : Bool). bad_escape b cs ≡ Some s.0) w s.1)))
    (λ (w : eqb c 92 ≡ false).
    bad_character c cs k s.0 s.2 e (not-true (breaks_string c) both.0) w
    (bad_in false cs s.0 (subst (λ (b : Bool). closes_string b cs ≡ true) w both.1) (subst (λ (b : Bool). bad_escape b cs ≡ Some s.0) w s.1)))
    (cases_Bool (eqb c 92)))
    (cases_Bool (eqb c 34))

-- The other way: a bad escape behind a good part is the first, and the string is closed behind it.
pub bad_found : (escaped : Bool) (good : List ℕ) (d : ℕ) (rest : List ℕ) → is_string_part escaped good ≡ true → is_escape d ≡ false → bad_escape escaped (good ++ (92 ∷ d ∷ rest)) ≡ Some (length good + 1)
bad_found true [] d rest part bad = absurd (false≢true part)
bad_found false [] d rest part bad = ap (later 1) (cond-false (is_escape d) (later 1 (bad_escape false rest)) (Some 0) bad)
bad_found true (c ∷ cs) d rest part bad =
    let both = and_parts (is_escape c) (is_string_part false cs) part in
    cond-true (is_escape c) (later 1 (bad_escape false (cs ++ (92 ∷ d ∷ rest)))) (Some 0) both.0 ∙ ap (later 1) (bad_found false cs d rest both.1 bad) ∙ one_later (length cs + 1) ∙ ap (λ (n : ℕ). Some n) (omega arith)
bad_found false (c ∷ cs) d rest part bad =
    let both = and_parts (not (eqb c 34 || breaks_string c)) (is_string_part (eqb c 92) cs) part in
    ap (later 1) (bad_found (eqb c 92) cs d rest both.1 bad) ∙ one_later (length cs + 1) ∙ ap (λ (n : ℕ). Some n) (omega arith)

pub closed_over : (escaped : Bool) (good : List ℕ) (d : ℕ) (rest : List ℕ) → is_string_part escaped good ≡ true → breaks_string d ≡ false → closes_string false rest ≡ true → closes_string escaped (good ++ (92 ∷ d ∷ rest)) ≡ true
closed_over true [] d rest part stays closed = absurd (false≢true part)
closed_over false [] d rest part stays closed = and_from (not (breaks_string d)) (closes_string false rest) (not_from_false (breaks_string d) stays) closed
closed_over true (c ∷ cs) d rest part stays closed =
    let both = and_parts (is_escape c) (is_string_part false cs) part in
    and_from (not (breaks_string c)) (closes_string false (cs ++ (92 ∷ d ∷ rest))) (not_from_false (breaks_string c) (escape_stays c both.0)) (closed_over false cs d rest both.1 stays closed)
closed_over false (c ∷ cs) d rest part stays closed =
    let both = and_parts (not (eqb c 34 || breaks_string c)) (is_string_part (eqb c 92) cs) part in
    let plain = or_parts (eqb c 34) (breaks_string c) (not-true (eqb c 34 || breaks_string c) both.0) in
    cond-false (eqb c 34) (eqb (length (cs ++ (92 ∷ d ∷ rest))) 0) _ plain.0
    ∙ and_from (not (breaks_string c)) (closes_string (eqb c 92) (cs ++ (92 ∷ d ∷ rest))) (not_from_false (breaks_string c) plain.1) (closed_over (eqb c 92) cs d rest both.1 stays closed)
