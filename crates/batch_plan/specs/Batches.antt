-- How places are cut into batches.
use Rattle.std.specs.Prelude.{◌≡◌, ℕ, ◌+◌, ◌*◌, ◌≤◌, ◌<◌, min, max}
use Rattle.std.specs.Int.{div_ceil}

-- An equal share for each worker, rounded up, no more than the limit, and one at least.
abbrev pub size_of : ℕ → ℕ → ℕ → ℕ
size_of n workers limit = max 1 (min limit (div_ceil n workers))

-- Batch i holds the places from i * size to below (i + 1) * size, of the n places that there are.
abbrev pub batch_at : ℕ → ℕ → ℕ → ℕ × ℕ
batch_at n size i = (min n (i * size), min n ((i + 1) * size))

abbrev pub Holds : ℕ → ℕ → ℕ → ℕ → Type 0
Holds n size i place = ((batch_at n size i).0 ≤ place) × (place < (batch_at n size i).1)

-- Each place is in one batch, and in one alone.
abbrev pub BatchesFill : Type 0
BatchesFill = (n size : ℕ) → 1 ≤ size → (place : ℕ) → place < n → (i : ℕ) × (i < n) × Holds n size i place × ((j : ℕ) → Holds n size j place → j ≡ i)
