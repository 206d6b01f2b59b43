use Rattle.std.proofs.Common.{◌≡◌, ℕ, ◌+◌, ◌*◌, ◌-◌, ◌/◌, ◌%◌, ◌^◌, ◌<◌, ◌≤◌, arith, ap, ◌∙◌}
use Rattle.std.proofs.lemmas.Nat.{mul-add-lt, pow-add, pow_pos}
use Rattle.std.proofs.lemmas.Nat.Bits.{ones_shr}
use Rattle.std.proofs.Math.Nat.{pow-le-pow_right, mod-eq_of_lt, le-mul_of_pos_right}
use Rattle.bitstream.proofs.field.with_digit.Goals as goal

sum_fits : (sum digit s : ℕ) → s < 64 → sum < 2 ^ s → digit ≤ (2 ^ 64 - 1) / 2 ^ s → sum + digit * 2 ^ s < 2 ^ 64
sum_fits sum digit s narrow low fits =
    let ones : (2 ^ 64 - 1) / 2 ^ s ≡ 2 ^ (64 - s) - 1 = ones_shr 64 s (omega arith) in
    let digit-lt : digit < 2 ^ (64 - s) = omega (arith, fits, ones, pow_pos (64 - s)) in
    let powers : 2 ^ 64 ≡ 2 ^ s * 2 ^ (64 - s) = ap (λ k. 2 ^ k) (let e : 64 ≡ s + (64 - s) = omega arith in e) ∙ pow-add 2 s (64 - s) in
    omega (arith, mul-add-lt digit (2 ^ s) sum (2 ^ (64 - s)) digit-lt low, powers)

shifted : (sum digit s : ℕ) → s < 64 → sum < 2 ^ s → digit ≤ (2 ^ 64 - 1) / 2 ^ s → sum + digit * 2 ^ s % 2 ^ 64 < 2 ^ 64
shifted sum digit s narrow low fits =
    let whole = sum_fits sum digit s narrow low fits in
    let small : digit * 2 ^ s < 2 ^ 64 = omega (arith, whole) in
    rw (mod-eq_of_lt small) whole

pub returns-then-shift-ge64-clause-none : goal.returns-then-shift-ge64-clause-none
returns-then-shift-ge64-clause-none c =
    let high : 2 ^ 64 ≤ 2 ^ c.args.shift = pow-le-pow_right {n = 2} (omega arith) c.if-shift-ge64.true in
    let some : 0 < c.args.digit = omega (arith, c.if-digit-eq0.false) in
    let more : 2 ^ c.args.shift ≤ 2 ^ c.args.shift * c.args.digit = le-mul_of_pos_right (2 ^ c.args.shift) some in
    omega (arith, high, more)

pub overflow_add-result : goal.overflow_add-result
overflow_add-result c = omega (arith, shifted c.args.sum c.args.digit c.args.shift c.if-shift-ge64.false c.requires c.if-digit-shift.false)

pub returns-clause-fits : goal.returns-clause-fits
returns-clause-fits c = shifted c.args.sum c.args.digit c.args.shift c.if-shift-ge64.false c.requires c.if-digit-shift.false
