-- The one spelling of a number.
use Rattle.std.proofs.Common.{◌≡◌, ℕ, zero, suc, ◌+◌, ◌*◌, ◌-◌, ◌/◌, ◌%◌, ◌^◌, ◌<◌, ◌≤◌, Bool, true, false, List, [], ◌∷◌, ◌++◌, length, refl, sym, ◌∙◌, ap, arith, le-ltb, lt-ltb, ltb-false, ltb-true, nat_lt, append_assoc, lit<}
use Rattle.std.proofs.lemmas.Nat.{div_below, pow_pos, mul-le, mod_below, shr_split}
use Rattle.std.proofs.Math.Nat.{pow-le-pow_right}
use Rattle.bitstream.specs.Bits.{bits}
use Rattle.bitstream.specs.Fields.{number}
use Rattle.bitstream.specs.Spelling.{IsVbr, AllBelow, spell}
use Rattle.bitstream.specs.Writing.{groups_of, vbr_bits, Grows}

two_or_more : (w : ℕ) → 2 ≤ w → 2 ≤ 2 ^ (w - 1)
two_or_more w h = pow-le-pow_right {n = 2} (omega arith) (let e : 1 ≤ w - 1 = omega arith in e)

pub smaller : (w n : ℕ) → 2 ≤ w → 2 ^ (w - 1) ≤ n → n / 2 ^ (w - 1) < n
smaller w n wide high =
    let two = two_or_more w wide in
    div_below n (2 ^ (w - 1)) n (omega (arith, two)) (omega (arith, two, high, doubled n (2 ^ (w - 1)) two))
  where
    doubled : (n k : ℕ) → 2 ≤ k → n * 2 ≤ n * k
    doubled n k h = grind (arith, mul-le n 2 n k (let e : n ≤ n = omega arith in e) h)

same_next : (k j w n : ℕ) → (2 ^ (w - 1) ≤ n → groups_of k w (n / 2 ^ (w - 1)) ≡ groups_of j w (n / 2 ^ (w - 1))) → groups_of (suc k) w n ≡ groups_of (suc j) w n
same_next k j w n h = by_top (nat_lt n (2 ^ (w - 1))) refl
  where
    by_top : (low : Bool) → nat_lt n (2 ^ (w - 1)) ≡ low → groups_of (suc k) w n ≡ groups_of (suc j) w n
    by_top true t = rw t refl
    by_top false t = rw t (ap (λ s. bits w (2 ^ (w - 1) + n % 2 ^ (w - 1)) ++ s) (h (ltb-false _ _ t)))

only_one : (k w n : ℕ) → n < 2 ^ (w - 1) → groups_of k w n ≡ bits w n
only_one zero w n low = refl
only_one (suc k) w n low = rw (lt-ltb _ _ low) refl

groups_of-fuel : (k j w n : ℕ) → 2 ≤ w → n ≤ k → n ≤ j → groups_of k w n ≡ groups_of j w n
groups_of-fuel zero j w n wide a b = sym (only_one j w n (omega (arith, a, pow_pos (w - 1))))
groups_of-fuel (suc k) zero w n wide a b = only_one (suc k) w n (omega (arith, b, pow_pos (w - 1)))
groups_of-fuel (suc k) (suc j) w n wide a b = same_next k j w n (λ high.
    let less = smaller w n wide high in
    groups_of-fuel k j w (n / 2 ^ (w - 1)) wide (omega (arith, less, a)) (omega (arith, less, b)))

pub vbr_bits-last : (w n : ℕ) → n < 2 ^ (w - 1) → vbr_bits w n ≡ bits w n
unfolding vbr_bits
vbr_bits-last w n low = only_one n w n low

pub vbr_bits-more : (w n : ℕ) → 2 ≤ w → 2 ^ (w - 1) ≤ n → vbr_bits w n ≡ bits w (2 ^ (w - 1) + n % 2 ^ (w - 1)) ++ vbr_bits w (n / 2 ^ (w - 1))
unfolding vbr_bits
vbr_bits-more w n wide high =
    let less = smaller w n wide high in
    groups_of-fuel n (suc n) w n wide (omega arith) (omega arith)
    ∙ rw (le-ltb _ _ high) (ap (λ s. bits w (2 ^ (w - 1) + n % 2 ^ (w - 1)) ++ s) (groups_of-fuel n (n / 2 ^ (w - 1)) w (n / 2 ^ (w - 1)) wide (omega (arith, less)) (omega arith)))

pub grows-more : (a b c : List ℕ) → Grows a b → Grows b c → Grows a c
grows-more a b c (x, e) (y, f) = (x ++ y, f ∙ ap (λ s. s ++ y) e ∙ append_assoc a x y)

pub record Spells (w n : ℕ) (front : List Bool) : Type 0 where
  pub digits : List ℕ
  pub some_digit : 0 < length digits
  pub below : AllBelow (2 ^ (w - 1)) digits
  pub is_number : n ≡ number w digits
  pub spelled : front ≡ spell w digits

one_spells : (w n : ℕ) (front : List Bool) → n < 2 ^ (w - 1) → front ≡ bits w n → Spells w n front
one_spells w n front low is = record { digits = n ∷ []; some_digit = lit< tt; below = (low, tt); is_number = omega arith; spelled = is }

turned : (a b c : ℕ) → a * b + c ≡ c + b * a
turned a b c = omega arith

more_spells : (w n : ℕ) (front : List Bool) → Spells w (n / 2 ^ (w - 1)) front → Spells w n (bits w (2 ^ (w - 1) + n % 2 ^ (w - 1)) ++ front)
more_spells w n front s = go s.digits s.some_digit s.below s.is_number s.spelled
  where
    go : (ds : List ℕ) → 0 < length ds → AllBelow (2 ^ (w - 1)) ds → n / 2 ^ (w - 1) ≡ number w ds → front ≡ spell w ds → Spells w n (bits w (2 ^ (w - 1) + n % 2 ^ (w - 1)) ++ front)
    go [] some below is spelled = absurd (omega (arith, some))
    go (d ∷ ds) some below is spelled = record {
      digits = n % 2 ^ (w - 1) ∷ d ∷ ds;
      some_digit = omega arith;
      below = (mod_below n (2 ^ (w - 1)) (pow_pos (w - 1)), below);
      is_number = sym (shr_split n (w - 1)) ∙ rw is (turned (number w (d ∷ ds)) (2 ^ (w - 1)) (n % 2 ^ (w - 1)));
      spelled = ap (λ s. bits w (2 ^ (w - 1) + n % 2 ^ (w - 1)) ++ s) spelled;
    }

next_spells : (k w n : ℕ) → (2 ^ (w - 1) ≤ n → Spells w (n / 2 ^ (w - 1)) (groups_of k w (n / 2 ^ (w - 1)))) → Spells w n (groups_of (suc k) w n)
next_spells k w n h = by_top (nat_lt n (2 ^ (w - 1))) refl
  where
    by_top : (low : Bool) → nat_lt n (2 ^ (w - 1)) ≡ low → Spells w n (groups_of (suc k) w n)
    by_top true t = rw t (one_spells w n (bits w n) (ltb-true _ _ t) refl)
    by_top false t = rw t (more_spells w n _ (h (ltb-false _ _ t)))

pub groups_of-spells : (k w n : ℕ) → 2 ≤ w → n ≤ k → Spells w n (groups_of k w n)
groups_of-spells zero w n wide a = one_spells w n (bits w n) (omega (arith, a, pow_pos (w - 1))) refl
groups_of-spells (suc k) w n wide a = next_spells k w n (λ high. groups_of-spells k w (n / 2 ^ (w - 1)) wide (omega (arith, smaller w n wide high, a)))

-- What the writer makes is a spelling of the number.
pub vbr_bits-is : (w n : ℕ) → 2 ≤ w → n < 2 ^ 64 → IsVbr w n (vbr_bits w n)
unfolding vbr_bits
vbr_bits-is w n wide fits = let s = groups_of-spells n w n wide (omega arith) in
    record { digits = s.digits; some_digit = s.some_digit; below = s.below; is_number = s.is_number; fits = fits; spelled = s.spelled }
