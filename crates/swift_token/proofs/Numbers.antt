-- Values of digits.
use Rattle.std.proofs.Common.{◌≡◌, ℕ, nat_le, ◌+◌, ◌*◌, ◌-◌, ◌≤◌, Bool, true, false, cond, eqb, List, [], ◌∷◌, ◌++◌, take, drop, get_or, length, ◌<◌, ap, arith}
use Rattle.std.specs.List.{fold}
use Rattle.std.proofs.lemmas.List.{take-append-drop}
use Rattle.std.proofs.lemmas.List.Sums.{fold-append, fold_more}
use Rattle.std.proofs.lemmas.Bool.{lt-leb, cond-false, ne_eqb}
use Rattle.swift_token.specs.Texts.{number_value}

abbrev digit_step : ℕ → ℕ → ℕ
digit_step n c = cond (eqb c 95) n (10 * n + (c - 48))

step_grows : (b : Bool) (n m : ℕ) → n ≤ m → n ≤ cond b n m
step_grows true n m h = omega arith
step_grows false n m h = h

fold_grows : (cs : List ℕ) (n : ℕ) → n ≤ fold digit_step n cs
fold_grows [] n = omega arith
fold_grows (c ∷ cs) n =
    let here : n ≤ digit_step n c = step_grows (eqb c 95) n (10 * n + (c - 48)) (omega arith) in
    let later : digit_step n c ≤ fold digit_step (digit_step n c) cs = fold_grows cs (digit_step n c) in
    omega (arith, here, later)

-- a front has no greater value
pub front_value : (cs : List ℕ) (i : ℕ) → number_value (take i cs) ≤ number_value cs
front_value cs i =
    let split : number_value (take i cs ++ drop i cs) ≡ fold digit_step (number_value (take i cs)) (drop i cs) = fold-append digit_step 0 (take i cs) (drop i cs) in
    let whole : number_value (take i cs ++ drop i cs) ≡ number_value cs = ap number_value (take-append-drop i cs) in
    let grows : number_value (take i cs) ≤ fold digit_step (number_value (take i cs)) (drop i cs) = fold_grows (drop i cs) (number_value (take i cs)) in
    omega (arith, split, whole, grows)

-- one more digit
pub value_more : (cs : List ℕ) (i d : ℕ) → i < length cs → number_value (take (i + 1) cs) ≡ digit_step (number_value (take i cs)) (get_or cs i d)
value_more cs i d h = fold_more digit_step 0 cs i d h

-- a value that is too great at a digit stays too great
pub wide_front : (cs : List ℕ) (i n c : ℕ) → i < length cs → c ≡ get_or cs i 0 → (c ≡ 95 → ⊥) → n ≡ number_value (take i cs) → 9223372036854775807 < 10 * n + (c - 48) → nat_le (number_value cs) 9223372036854775807 ≡ false
wide_front cs i n c h read digit value wide =
    let more : number_value (take (i + 1) cs) ≡ digit_step (number_value (take i cs)) (get_or cs i 0) = value_more cs i 0 h in
    let at : digit_step (number_value (take i cs)) (get_or cs i 0) ≡ digit_step n c = cc in
    let step : digit_step n c ≡ 10 * n + (c - 48) = cond-false (eqb c 95) n (10 * n + (c - 48)) (ne_eqb c 95 digit) in
    lt-leb (number_value cs) 9223372036854775807 (omega (arith, more, at, step, front_value cs (i + 1)))
