-- A vbr is read exactly where it is spelled.
use Rattle.std.proofs.Common.{◌≡◌, ℕ, zero, suc, ◌+◌, ◌*◌, ◌-◌, ◌^◌, ◌<◌, ◌≤◌, Bool, true, false, List, [], ◌∷◌, ◌++◌, length, take, drop, refl, sym, ◌∙◌, ap, arith, le-ltb, lt-ltb, ltb-false, ltb-true, nat_lt, Ok, append_assoc, length-append, lit<}
use Rattle.std.proofs.Math.Nat.{mod-eq_of_lt, le-mul_of_pos_right}
use Rattle.std.proofs.Math.Seq.{drop-append_seam, take-append_seam}
use Rattle.std.proofs.lemmas.List.{length-take-le, take-append-drop, drop-drop}
use Rattle.bitstream.specs.Bits.{value, bits}
use Rattle.bitstream.proofs.GroupLaws.{ok_value, answer, vbr-answer}
use Rattle.bitstream.specs.Fields.{Input, after, groups, group_then, groups_at, number, fixed_at, vbr_at, IsReadBack}
use Rattle.bitstream.specs.Spelling.{IsVbr, AllBelow, spell}
use Rattle.bitstream.proofs.BitLaws.{length-bits, value-bits, bits-value, value-lt, two_pow}
use Rattle.bitstream.specs.Writing.{vbr_bits}
use Rattle.bitstream.proofs.NumberLaws.{vbr_bits-is}

pub take-field : (w n : ℕ) (rest : List Bool) → take w (bits w n ++ rest) ≡ bits w n
take-field w n rest = ap (λ k. take k (bits w n ++ rest)) (sym (length-bits w n)) ∙ take-append_seam (bits w n) rest

pub drop-field : (w n : ℕ) (rest : List Bool) → drop w (bits w n ++ rest) ≡ rest
drop-field w n rest = ap (λ k. drop k (bits w n ++ rest)) (sym (length-bits w n)) ∙ drop-append_seam (bits w n) rest

-- one field at the front of the bits
groups-field : (fuel w n : ℕ) (rest : List Bool) → n < 2 ^ w → groups (suc fuel) w (bits w n ++ rest) ≡ group_then (2 ^ (w - 1)) n (groups fuel w rest)
groups-field fuel w n rest fits =
    let room : w ≤ length (bits w n ++ rest) = omega (arith, length-append (bits w n) rest, length-bits w n) in
    let is : value (take w (bits w n ++ rest)) ≡ n = ap value (take-field w n rest) ∙ value-bits w n ∙ mod-eq_of_lt fits in
    rw (le-ltb _ _ room, is, drop-field w n rest) refl

double : (w : ℕ) → 0 < w → 2 ^ w ≡ 2 * 2 ^ (w - 1)
double w pos = ap (λ k. 2 ^ k) (let e : w ≡ suc (w - 1) = omega arith in e) ∙ two_pow (w - 1)

pub groups-spelled : (fuel w : ℕ) (ds : List ℕ) (rest : List Bool) → 0 < w → 0 < length ds → AllBelow (2 ^ (w - 1)) ds → length ds ≤ fuel
    → groups fuel w (spell w ds ++ rest) ≡ (ds, true)
groups-spelled fuel w [] rest pos some below enough = absurd (omega (arith, some))
groups-spelled zero w (d ∷ ds) rest pos some below enough = absurd (omega (arith, enough))
groups-spelled (suc fuel) w (d ∷ []) rest pos some below enough =
    groups-field fuel w d rest (omega (arith, below.0, double w pos)) ∙ rw (lt-ltb d (2 ^ (w - 1)) below.0) refl
groups-spelled (suc fuel) w (d ∷ e ∷ ds) rest pos some below enough =
    let top = 2 ^ (w - 1) in
    let fits : top + d < 2 ^ w = omega (arith, below.0, double w pos) in
    let digit : top + d - top ≡ d = omega arith in
    ap (groups (suc fuel) w) (append_assoc (bits w (top + d)) (spell w (e ∷ ds)) rest)
    ∙ groups-field fuel w (top + d) (spell w (e ∷ ds) ++ rest) fits
    ∙ rw (le-ltb (top + d) top (omega arith), digit, groups-spelled fuel w (e ∷ ds) rest pos (omega arith) below.1 (omega (arith, enough))) refl

pub length-spell : (w : ℕ) (ds : List ℕ) → length (spell w ds) ≡ w * length ds
length-spell w [] = omega arith
length-spell w (d ∷ []) = length-bits w d ∙ omega arith
length-spell w (d ∷ e ∷ ds) = grind (arith, length-append (bits w (2 ^ (w - 1) + d)) (spell w (e ∷ ds)), length-bits w (2 ^ (w - 1) + d), length-spell w (e ∷ ds))

fewer : (l w n : ℕ) → 0 < w → w * l ≤ n → l ≤ n
fewer l w n pos h = omega (arith, le-mul_of_pos_right l pos, h)

spelled-at : (w at : ℕ) (ds : List ℕ) (rest : List Bool) → 0 < w → 0 < length ds → AllBelow (2 ^ (w - 1)) ds
    → groups_at w (record { at = at; bits = spell w ds ++ rest }) ≡ (ds, true)
unfolding groups_at
spelled-at w at ds rest pos some below =
    groups-spelled (suc (length (spell w ds ++ rest))) w ds rest pos some below
    (fewer (length ds) w (suc (length (spell w ds ++ rest))) pos (omega (arith, length-append (spell w ds) rest, length-spell w ds)))

drop-spelled : (w : ℕ) (ds : List ℕ) (rest : List Bool) → drop (w * length ds) (spell w ds ++ rest) ≡ rest
drop-spelled w ds rest = ap (λ k. drop k (spell w ds ++ rest)) (sym (length-spell w ds)) ∙ drop-append_seam (spell w ds) rest

-- What is spelled is read, whatever follows.
pub vbr-again : (w n at : ℕ) (front rest : List Bool) → 0 < w → IsVbr w n front
    → vbr_at w (record { at = at; bits = front ++ rest }) ≡ Ok (n, record { at = at + length front; bits = rest })
vbr-again w n at front rest pos is =
    let ds = is.digits in
    let sum : 0 + 2 ^ 0 * number w ds ≡ n = omega (arith, is.is_number) in
    let read : vbr_at w (record { at = at; bits = spell w ds ++ rest }) ≡ Ok (n, record { at = at + length (spell w ds); bits = rest })
    = vbr-answer w (let p : Input = record { at = at; bits = spell w ds ++ rest } in p) ∙ rw (spelled-at w at ds rest pos is.some_digit is.below, sum, lt-ltb n (2 ^ 64) is.fits, drop-spelled w ds rest, length-spell w ds) refl in
    rw is.spelled read

abbrev pub Takes : ℕ → List Bool → List ℕ → Type 0
Takes w bs ds = (0 < length ds) × AllBelow (2 ^ (w - 1)) ds × (bs ≡ spell w ds ++ drop (w * length ds) bs)

pub field-back : (w : ℕ) (bs : List Bool) → w ≤ length bs → bits w (value (take w bs)) ≡ take w bs
field-back w bs room = ap (λ k. bits k (value (take w bs))) (sym (length-take-le w bs room)) ∙ bits-value (take w bs)

one-taken : (w : ℕ) (bs : List Bool) → w ≤ length bs → value (take w bs) < 2 ^ (w - 1) → Takes w bs (value (take w bs) ∷ [])
one-taken w bs room low =
    let count : w * 1 ≡ w = omega arith in
    (lit< tt, (low, tt), sym (rw (count, field-back w bs room) (take-append-drop w bs)))

more-taken : (w : ℕ) (bs : List Bool) (ds : List ℕ) → 0 < w → w ≤ length bs → 2 ^ (w - 1) ≤ value (take w bs) → Takes w (drop w bs) ds
    → Takes w bs ((value (take w bs) - 2 ^ (w - 1)) ∷ ds)
more-taken w bs [] pos room high t = absurd (omega (arith, t.0))
more-taken w bs (e ∷ ds) pos room high t =
    let g = value (take w bs) in
    let top = 2 ^ (w - 1) in
    let bound : g < 2 ^ w = rw (length-take-le w bs room) at (value-lt (take w bs)) in
    let low : g - top < top = omega (arith, bound, double w pos) in
    let back : top + (g - top) ≡ g = omega (arith, high) in
    let count : w * suc (suc (length ds)) ≡ w + w * suc (length ds) = omega arith in
    let rest : drop w bs ≡ spell w (e ∷ ds) ++ drop (w * suc (suc (length ds))) bs
    = t.2 ∙ ap (λ s. spell w (e ∷ ds) ++ s) (drop-drop (w * suc (length ds)) w bs ∙ ap (λ k. drop k bs) (sym count)) in
    let whole : bs ≡ bits w (top + (g - top)) ++ (spell w (e ∷ ds) ++ drop (w * suc (suc (length ds))) bs)
    = sym (take-append-drop w bs) ∙ ap (λ s. s ++ drop w bs) (sym (field-back w bs room)) ∙ ap (λ k. bits w k ++ drop w bs) (sym back)
    ∙ ap (λ s. bits w (top + (g - top)) ++ s) rest in
    (omega arith, (low, t.1), whole ∙ sym (append_assoc (bits w (top + (g - top))) (spell w (e ∷ ds)) (drop (w * suc (suc (length ds))) bs)))

abbrev pub TakesAll : ℕ → List Bool → List ℕ × Bool → Type 0
TakesAll w bs (ds, true) = Takes w bs ds
TakesAll w bs (ds, false) = Unit {0}

taken-step : (w : ℕ) (bs : List Bool) (more : List ℕ × Bool) → 0 < w → w ≤ length bs → TakesAll w (drop w bs) more
    → TakesAll w bs (group_then (2 ^ (w - 1)) (value (take w bs)) more)
taken-step w bs more pos room below = by_top (nat_lt (value (take w bs)) (2 ^ (w - 1))) refl more below
  where
    by_top : (low : Bool) → nat_lt (value (take w bs)) (2 ^ (w - 1)) ≡ low → (more : List ℕ × Bool) → TakesAll w (drop w bs) more → TakesAll w bs (group_then (2 ^ (w - 1)) (value (take w bs)) more)
    by_top true t more h = rw t (one-taken w bs room (ltb-true _ _ t))
    by_top false t (ds, true) h = rw t (more-taken w bs ds pos room (ltb-false _ _ t) h)
    by_top false t (ds, false) h = rw t tt

taken-all : (fuel w : ℕ) (bs : List Bool) → (w ≤ length bs → TakesAll w bs (group_then (2 ^ (w - 1)) (value (take w bs)) (groups fuel w (drop w bs)))) → TakesAll w bs (groups (suc fuel) w bs)
taken-all fuel w bs h = by_size (nat_lt (length bs) w) refl
  where
    by_size : (few : Bool) → nat_lt (length bs) w ≡ few → TakesAll w bs (groups (suc fuel) w bs)
    by_size true t = rw t tt
    by_size false t = rw t (h (ltb-false _ _ t))

-- what the groups give is spelled in front of the bits
pub groups-takes : (fuel w : ℕ) (bs : List Bool) → 0 < w → TakesAll w bs (groups fuel w bs)
groups-takes zero w bs pos = tt
groups-takes (suc fuel) w bs pos = taken-all fuel w bs (λ room. taken-step w bs (groups fuel w (drop w bs)) pos room (groups-takes fuel w (drop w bs) pos))

-- What is read is spelled so.
pub vbr-takes : (w : ℕ) (p q : Input) (n : ℕ) → 0 < w → vbr_at w p ≡ Ok (n, q) → (front : List Bool) × IsVbr w n front × (p.bits ≡ front ++ q.bits) × (q.at ≡ p.at + length front)
unfolding groups_at
vbr-takes w p q n pos is = from (groups (suc (length p.bits)) w p.bits) (groups-takes (suc (length p.bits)) w p.bits pos) (sym (vbr-answer w p) ∙ is)
  where
    from : (gs : List ℕ × Bool) → TakesAll w p.bits gs → answer p.at w 0 0 p gs ≡ Ok (n, q) → (front : List Bool) × IsVbr w n front × (p.bits ≡ front ++ q.bits) × (q.at ≡ p.at + length front)
    from (ds, came) t e = by_size (nat_lt (0 + 2 ^ 0 * number w ds) (2 ^ 64)) refl came t e
      where
        by_size : (small : Bool) → nat_lt (0 + 2 ^ 0 * number w ds) (2 ^ 64) ≡ small → (came : Bool) → TakesAll w p.bits (ds, came) → answer p.at w 0 0 p (ds, came) ≡ Ok (n, q)
            → (front : List Bool) × IsVbr w n front × (p.bits ≡ front ++ q.bits) × (q.at ≡ p.at + length front)
        by_size false s came t e = let h = rw s at e in absurd cc
        by_size true s false t e = let h = rw s at e in absurd cc
        by_size true s true t e =
            let h = ok_value _ _ (rw s at e) in
            let sum : 0 + 2 ^ 0 * number w ds ≡ n = ap (λ x. x.0) h in
            let behind : after (w * length ds) p ≡ q = ap (λ x. x.1) h in
            let bound = ltb-true _ _ s in (
              spell w ds,
              record { digits = ds; some_digit = t.0; below = t.1; is_number = omega (arith, sum); fits = omega (arith, sum, bound); spelled = refl },
              rw (sym behind) t.2,
              rw (sym behind, length-spell w ds) refl,
            )

-- A field that stands is read.
pub fixed-again : (w n : ℕ) → n < 2 ^ w → IsReadBack (fixed_at w) n (bits w n)
fixed-again w n fits at rest =
    let room : w ≤ length (bits w n ++ rest) = omega (arith, length-append (bits w n) rest, length-bits w n) in
    rw (le-ltb _ _ room, take-field w n rest, drop-field w n rest, value-bits w n, mod-eq_of_lt fits, length-bits w n) refl

pub vbr-written : (w n : ℕ) → 2 ≤ w → n < 2 ^ 64 → IsReadBack (vbr_at w) n (vbr_bits w n)
vbr-written w n wide fits at rest = vbr-again w n at (vbr_bits w n) rest (omega (arith, wide)) (vbr_bits-is w n wide fits)
