-- Each place is in one batch.
use Rattle.std.proofs.Common.{◌≡◌, ◌∙◌, sym, ap, subst, ℕ, ◌+◌, ◌-◌, ◌*◌, ◌/◌, ◌<◌, ◌≤◌, arith}
use Rattle.std.specs.Prelude.{min}
use Rattle.std.proofs.Math.Nat.{div-mul-le_self, lt-div-mul-add, div-le_self, add-mul, min-le_right}
use Rattle.std.proofs.lemmas.Nat.{div-mul-add}
use Rattle.batch_plan.specs.Batches.{BatchesFill, Holds}

next-bound : (i size : ℕ) → (i + 1) * size ≡ i * size + size
next-bound i size = add-mul i 1 size ∙ ap (λ x. i * size + x) (let one : 1 * size ≡ size = omega arith in one)

holds : (n size i place : ℕ) → place < n → i * size ≤ place → place < i * size + size → Holds n size i place
holds n size i place less low high =
    let end : place < (i + 1) * size = subst (λ x. place < x) (sym (next-bound i size)) high in
    let left = min-le_right n (i * size) in
    let first : min n (i * size) ≤ place = omega (arith, left, low) in
    let last : place < min n ((i + 1) * size) = omega (arith, less, end) in
    (first, last)

held-low : (n size i place : ℕ) → place < n → Holds n size i place → i * size ≤ place
held-low n size i place less h =
    let first : min n (i * size) ≤ place = h.0 in
    omega (arith, less, first)

held-high : (n size i place : ℕ) → Holds n size i place → place < i * size + size
held-high n size i place h =
    let right = min-le_right n ((i + 1) * size) in
    let last : place < min n ((i + 1) * size) = h.1 in
    let end : place < (i + 1) * size = omega (arith, right, last) in
    subst (λ x. place < x) (next-bound i size) end

one-batch : (size i place : ℕ) → i * size ≤ place → place < i * size + size → i ≡ place / size
one-batch size i place low high =
    let rest : place - i * size < size = omega (arith, low, high) in
    let whole : i * size + (place - i * size) ≡ place = omega (arith, low) in
    sym (div-mul-add i size (place - i * size) rest) ∙ ap (λ x. x / size) whole

pub fill : BatchesFill
fill n size one place less =
    let positive : 0 < size = omega (arith, one) in
    let low : place / size * size ≤ place = div-mul-le_self place size in
    let high : place < place / size * size + size = lt-div-mul-add positive in
    let within : place / size < n = (let small = div-le_self place size in omega (arith, small, less)) in
    (place / size, within, holds n size (place / size) place less low high, λ j h. one-batch size j place (held-low n size j place less h) (held-high n size j place h))
