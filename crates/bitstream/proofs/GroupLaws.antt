-- A vbr, group by group.
use Rattle.std.proofs.Common.{◌≡◌, ℕ, zero, suc, ◌+◌, ◌*◌, ◌-◌, ◌%◌, ◌^◌, ◌<◌, ◌≤◌, Bool, true, false, List, [], ◌∷◌, length, take, drop, bit_and, refl, sym, ◌∙◌, ap, arith, length-drop, le-ltb, lt-ltb, ltb-false, ltb-true, nat_lt, Ok, Err, Result, if◌then◌else◌}
use Rattle.std.proofs.lemmas.Nat.{pow-add, mod_low, mod_below, pow_pos, mul-add-lt, and_mask, one_shl, shl_whole}
use Rattle.std.proofs.Math.Nat.{mod-eq_of_lt, pow-le-pow_right, mul_comm}
use Rattle.bitstream.proofs.BitLaws.{two_pow}
use Rattle.std.proofs.lemmas.List.{drop-drop}
use Rattle.bitstream.specs.declared.item.BitFault.{BitFault}
use Rattle.bitstream.specs.declared.item.BitFault.TheVariants.{Short, WideNumber}
use Rattle.bitstream.specs.Bits.{value}
use Rattle.bitstream.specs.Fields.{Input, after, fixed_at, groups, group_then, with_digit, groups_at, number, vbr_at}

-- The answer, where the digits before p made sum, and those from p on count 2 ^ shift times.
abbrev pub answer : ℕ → ℕ → ℕ → ℕ → Input → List ℕ × Bool → Result (ℕ × Input) BitFault
answer start w sum shift p gs =
    if nat_lt (sum + 2 ^ shift * number w gs.0) (2 ^ 64)
    then (if gs.1 then Ok (sum + 2 ^ shift * number w gs.0, after (w * length gs.0) p) else Err (Short (p.at + w * length gs.0)))
    else Err (WideNumber start)

-- with no digits before p
pub vbr-answer : (w : ℕ) (p : Input) → vbr_at w p ≡ answer p.at w 0 0 p (groups_at w p)
unfolding vbr_at
vbr-answer w p =
    let gs : List ℕ × Bool = groups_at w p in
    let read : ℕ → Result (ℕ × Input) BitFault = λ n. if nat_lt n (2 ^ 64) then (if gs.1 then Ok (n, after (w * length gs.0) p) else Err (Short (p.at + w * length gs.0))) else Err (WideNumber p.at) in
    let same : number w gs.0 ≡ 0 + 2 ^ 0 * number w gs.0 = omega arith in
    ap read same

fuel-step : (k j w : ℕ) (bs : List Bool) → (w ≤ length bs → groups k w (drop w bs) ≡ groups j w (drop w bs)) → groups (suc k) w bs ≡ groups (suc j) w bs
fuel-step k j w bs h = by_size (nat_lt (length bs) w) refl
  where
    by_size : (few : Bool) → nat_lt (length bs) w ≡ few → groups (suc k) w bs ≡ groups (suc j) w bs
    by_size true e = rw e refl
    by_size false e = rw e (ap (group_then (2 ^ (w - 1)) (value (take w bs))) (h (ltb-false _ _ e)))

pub groups-fuel : (k j w : ℕ) (bs : List Bool) → 0 < w → length bs < k → length bs < j → groups k w bs ≡ groups j w bs
groups-fuel zero j w bs pos a b = absurd (omega (arith, a))
groups-fuel (suc k) zero w bs pos a b = absurd (omega (arith, b))
groups-fuel (suc k) (suc j) w bs pos a b = fuel-step k j w bs (λ enough.
    groups-fuel k j w (drop w bs) pos (omega (arith, length-drop w bs)) (omega (arith, length-drop w bs)))

-- a group is missing
pub groups-short : (w : ℕ) (p : Input) → length p.bits < w → groups_at w p ≡ ([], false)
unfolding groups_at
groups-short w p few = rw (lt-ltb _ _ few) refl

-- the last group
pub groups-last : (w : ℕ) (p : Input) → w ≤ length p.bits → value (take w p.bits) < 2 ^ (w - 1) → groups_at w p ≡ (value (take w p.bits) ∷ [], true)
unfolding groups_at
groups-last w p room low = rw (le-ltb _ _ room, lt-ltb _ _ low) refl

-- a group with another behind it
pub groups-more : (w : ℕ) (p : Input) → 0 < w → w ≤ length p.bits → 2 ^ (w - 1) ≤ value (take w p.bits)
    → groups_at w p ≡ with_digit (value (take w p.bits) - 2 ^ (w - 1)) (groups_at w (after w p))
unfolding groups_at
groups-more w p pos room high =
    rw (le-ltb _ _ room, le-ltb _ _ high) (ap (with_digit (value (take w p.bits) - 2 ^ (w - 1)))
    (groups-fuel (length p.bits) (suc (length (drop w p.bits))) w (drop w p.bits) pos (omega (arith, length-drop w p.bits)) (omega (arith, length-drop w p.bits))))

distribute : (sum a d b r : ℕ) → sum + a * (d + b * r) ≡ sum + a * d + a * b * r
distribute sum a d b r = omega arith

pub wide : (start w sum shift : ℕ) (p : Input) (gs : List ℕ × Bool) → 2 ^ 64 ≤ sum + 2 ^ shift * number w gs.0
    → answer start w sum shift p gs ≡ Err (WideNumber start)
wide start w sum shift p gs h = rw (le-ltb _ _ h) refl

-- One digit more in the sum.
pub answer-more : (start w sum shift d : ℕ) (p : Input) (gs : List ℕ × Bool)
    → answer start w sum shift p (with_digit d gs) ≡ answer start w (sum + 2 ^ shift * d) (shift + (w - 1)) (after w p) gs
answer-more start w sum shift d p gs =
    let rest = number w gs.0 in
    let powers : 2 ^ (shift + (w - 1)) ≡ 2 ^ shift * 2 ^ (w - 1) = pow-add 2 shift (w - 1) in
    let total : sum + 2 ^ shift * (d + 2 ^ (w - 1) * rest) ≡ sum + 2 ^ shift * d + 2 ^ (shift + (w - 1)) * rest
    = rw powers (distribute sum (2 ^ shift) d (2 ^ (w - 1)) rest) in
    let place : p.at + w * suc (length gs.0) ≡ p.at + w + w * length gs.0 = omega arith in
    let bits : drop (w * suc (length gs.0)) p.bits ≡ drop (w * length gs.0) (drop w p.bits)
    = ap (λ n. drop n p.bits) (omega arith) ∙ sym (drop-drop (w * length gs.0) w p.bits) in
    rw (total, place, bits) refl

pub ok_value : {A : Type 0} (a b : A) → (let r : Result A BitFault = Ok a in r) ≡ Ok b → a ≡ b
ok_value a b e = cc

pub read-err : (w : ℕ) (p : Input) (e : BitFault) → fixed_at w p ≡ Err e → (length p.bits < w) × (e ≡ Short p.at)
read-err w p e is = by_size (nat_lt (length p.bits) w) refl
  where
    by_size : (few : Bool) → nat_lt (length p.bits) w ≡ few → (length p.bits < w) × (e ≡ Short p.at)
    by_size true t = (ltb-true _ _ t, let h = rw t at is in cc)
    by_size false t = let h = rw t at is in absurd cc

pub read-ok : (w : ℕ) (p q : Input) (g : ℕ) → fixed_at w p ≡ Ok (g, q) → (w ≤ length p.bits) × (g ≡ value (take w p.bits)) × (q ≡ after w p)
read-ok w p q g is = by_size (nat_lt (length p.bits) w) refl
  where
    by_size : (few : Bool) → nat_lt (length p.bits) w ≡ few → (w ≤ length p.bits) × (g ≡ value (take w p.bits)) × (q ≡ after w p)
    by_size true t = let h = rw t at is in absurd cc
    by_size false t = let h = ok_value _ _ (rw t at is) in (ltb-false _ _ t, sym (ap (λ x. x.0) h), sym (ap (λ x. x.1) h))

pub vbr-err : (start w sum shift : ℕ) (p : Input) (e : BitFault) → sum < 2 ^ 64 → fixed_at w p ≡ Err e → answer start w sum shift p (groups_at w p) ≡ Err e
vbr-err start w sum shift p e fits is = let r = read-err w p e is in
    rw (groups-short w p r.0, r.1, lt-ltb (sum + 2 ^ shift * 0) (2 ^ 64) (omega (arith, fits))) (ap (λ n. Err (Short n)) (omega arith))

pub vbr-last : (start w sum shift : ℕ) (p q : Input) (g : ℕ) → fixed_at w p ≡ Ok (g, q) → g < 2 ^ (w - 1) → sum + 2 ^ shift * g < 2 ^ 64
    → answer start w sum shift p (groups_at w p) ≡ Ok (sum + 2 ^ shift * g, q)
vbr-last start w sum shift p q g is low fits = let r = read-ok w p q g is in
    let low' : value (take w p.bits) < 2 ^ (w - 1) = rw (sym r.1) low in
    let one : number w (value (take w p.bits) ∷ []) ≡ g = omega (arith, r.1) in
    rw (groups-last w p r.0 low', r.2, one, lt-ltb (sum + 2 ^ shift * g) (2 ^ 64) fits) (ap (λ n. Ok (sum + 2 ^ shift * g, after n p)) (omega arith))

pub vbr-more : (start w sum shift : ℕ) (p q : Input) (g : ℕ) → 0 < w → fixed_at w p ≡ Ok (g, q) → 2 ^ (w - 1) ≤ g
    → answer start w sum shift p (groups_at w p) ≡ answer start w (sum + 2 ^ shift * (g - 2 ^ (w - 1))) (shift + (w - 1)) q (groups_at w q)
vbr-more start w sum shift p q g pos is high = let r = read-ok w p q g is in
    let high' : 2 ^ (w - 1) ≤ value (take w p.bits) = rw (sym r.1) high in
    rw (groups-more w p pos r.0 high', r.1, r.2) (answer-more start w sum shift (value (take w p.bits) - 2 ^ (w - 1)) p (groups_at w (after w p)))

pub high_digit : (g w : ℕ) → 0 < w → 2 ^ (w - 1) ≤ g → g < 2 ^ w → g % 2 ^ (w - 1) ≡ g - 2 ^ (w - 1)
high_digit g w pos high fits =
    let double : 2 ^ w ≡ 2 * 2 ^ (w - 1) = ap (λ k. 2 ^ k) (omega arith) ∙ two_pow (w - 1) in
    let low : g - 2 ^ (w - 1) < 2 ^ (w - 1) = omega (arith, double) in
    ap (λ n. n % 2 ^ (w - 1)) (omega arith) ∙ mod_low 1 (w - 1) (g - 2 ^ (w - 1)) low

-- what is too wide already stays so, whatever follows
pub vbr-wide : (start w sum shift : ℕ) (p q : Input) (g : ℕ) → 0 < w → fixed_at w p ≡ Ok (g, q) → g < 2 ^ w → 2 ^ 64 ≤ sum + 2 ^ shift * (g % 2 ^ (w - 1))
    → answer start w sum shift p (groups_at w p) ≡ Err (WideNumber start)
vbr-wide start w sum shift p q g pos is fits big = by_top (nat_lt g (2 ^ (w - 1))) refl
  where
    by_top : (low : Bool) → nat_lt g (2 ^ (w - 1)) ≡ low → answer start w sum shift p (groups_at w p) ≡ Err (WideNumber start)
    by_top true t = let r = read-ok w p q g is in
        let low : g < 2 ^ (w - 1) = ltb-true _ _ t in
        let low' : value (take w p.bits) < 2 ^ (w - 1) = rw (sym r.1) low in
        let same : g % 2 ^ (w - 1) ≡ g = mod-eq_of_lt low in
        let one : g ≡ number w (value (take w p.bits) ∷ []) = omega (arith, r.1) in
        let big' : 2 ^ 64 ≤ sum + 2 ^ shift * number w (value (take w p.bits) ∷ []) = rw (sym one, sym same) big in
        rw (groups-last w p r.0 low') (wide start w sum shift p (value (take w p.bits) ∷ [], true) big')
    by_top false t = let r = read-ok w p q g is in
        let high = ltb-false _ _ t in
        let big' : 2 ^ 64 ≤ sum + 2 ^ shift * (g - 2 ^ (w - 1)) = rw (sym (high_digit g w pos high fits)) big in
        vbr-more start w sum shift p q g pos is high ∙ wide start w (sum + 2 ^ shift * (g - 2 ^ (w - 1))) (shift + (w - 1)) q (groups_at w q) (omega (arith, big'))

-- the digit as the code takes it
pub digit_is : (g w : ℕ) → w ≤ 32 → bit_and g (1 * 2 ^ (w - 1) % 2 ^ 64 - 1) ≡ g % 2 ^ (w - 1)
digit_is g w h = rw (one_shl (w - 1) 64 (omega arith)) (and_mask g (w - 1))

pub vbr-none : (p : Input) → vbr_at 0 p ≡ Ok (0, p)
unfolding vbr_at
vbr-none p =
    let here : Input → Result (ℕ × Input) BitFault = λ q. Ok (0, q) in
    let back : (let q : Input = record { at = p.at + 0; bits = p.bits } in q) ≡ p = ap (λ n. record { at = n; bits = p.bits }) (let e : p.at + 0 ≡ p.at = omega arith in e) in
    rw (groups-last 0 p (omega arith) (omega arith)) (ap here back)

pub more-last : (start w sum shift more d : ℕ) (p q : Input) (g : ℕ) → fixed_at w p ≡ Ok (g, q) → g < 2 ^ (w - 1) → d ≡ g % 2 ^ (w - 1)
    → more ≡ sum + 2 ^ shift * d → more < 2 ^ 64 → answer start w sum shift p (groups_at w p) ≡ Ok (more, q)
more-last start w sum shift more d p q g is low d-is more-is fits =
    let e : more ≡ sum + 2 ^ shift * g = rw (sym (d-is ∙ mod-eq_of_lt low)) more-is in
    rw e (vbr-last start w sum shift p q g is low (rw (sym e) fits))

pub more-next : (start w sum shift more d : ℕ) (p q : Input) (g : ℕ) → 0 < w → fixed_at w p ≡ Ok (g, q) → 2 ^ (w - 1) ≤ g → g < 2 ^ w → d ≡ g % 2 ^ (w - 1)
    → more ≡ sum + 2 ^ shift * d → answer start w more (shift + (w - 1)) q (groups_at w q) ≡ answer start w sum shift p (groups_at w p)
more-next start w sum shift more d p q g pos is high fits d-is more-is =
    let e : more ≡ sum + 2 ^ shift * (g - 2 ^ (w - 1)) = rw (sym (d-is ∙ high_digit g w pos high fits)) more-is in
    rw e (sym (vbr-more start w sum shift p q g pos is high))

pub more-low : (w sum shift more d : ℕ) (g : ℕ) → d ≡ g % 2 ^ (w - 1) → more ≡ sum + 2 ^ shift * d → sum < 2 ^ shift → more < 2 ^ (shift + (w - 1))
more-low w sum shift more d g d-is more-is low =
    let small : d < 2 ^ (w - 1) = rw d-is (mod_below g (2 ^ (w - 1)) (pow_pos (w - 1))) in
    omega (arith, more-is, mul-add-lt d (2 ^ shift) sum (2 ^ (w - 1)) small low, pow-add 2 shift (w - 1))

-- a digit more in a sum of few bits
pub record NearStep (w sum shift d more : ℕ) : Type 0 where
  pub is : more ≡ sum + 2 ^ shift * d
  pub low : more < 2 ^ (shift + (w - 1))
  pub fits : more < 2 ^ 64

pub near-step : (w sum shift d g : ℕ) → d ≡ g % 2 ^ (w - 1) → shift + (w - 1) ≤ 56 → sum < 2 ^ shift → NearStep w sum shift d (sum + d * 2 ^ shift % 2 ^ 64)
near-step w sum shift d g d-is few low =
    let small : d < 2 ^ (w - 1) = rw d-is (mod_below g (2 ^ (w - 1)) (pow_pos (w - 1))) in
    let whole : d * 2 ^ shift % 2 ^ 64 ≡ d * 2 ^ shift = shl_whole d (w - 1) shift 64 small (omega (arith, few)) in
    let is : sum + d * 2 ^ shift % 2 ^ 64 ≡ sum + 2 ^ shift * d = omega (arith, whole, mul_comm d (2 ^ shift)) in
    let below = more-low w sum shift (sum + d * 2 ^ shift % 2 ^ 64) d g d-is is low in
    record {
      is = is;
      low = below;
      fits = omega (arith, below, pow-le-pow_right {n = 2} (omega arith) {i = shift + (w - 1)} {j = 64} (omega (arith, few)));
    }

-- a number of one group
pub vbr-one : (w : ℕ) (p q : Input) (g : ℕ) → w ≤ 64 → fixed_at w p ≡ Ok (g, q) → g < 2 ^ (w - 1) → vbr_at w p ≡ Ok (g, q)
vbr-one w p q g narrow is low =
    let fits : 0 + 2 ^ 0 * g < 2 ^ 64 = omega (arith, low, pow-le-pow_right {n = 2} (omega arith) {i = w - 1} {j = 64} (omega (arith, narrow))) in
    vbr-answer w p ∙ vbr-last p.at w 0 0 p q g is low fits ∙ ap (λ n. Ok (n, q)) (omega arith)
