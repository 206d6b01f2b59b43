-- Bits that stand for a number in groups.
use Rattle.std.specs.Prelude.{◌≡◌, ℕ, ◌+◌, ◌-◌, ◌<◌, Bool, List, [], ◌∷◌, ◌++◌, length, ◌^◌}
use Rattle.bitstream.specs.Bits.{bits}
use Rattle.bitstream.specs.Fields.{number}

-- one group for each digit, each but the last with its top bit set
abbrev pub spell : ℕ → List ℕ → List Bool
spell w [] = []
spell w (d ∷ []) = bits w d
spell w (d ∷ e ∷ ds) = bits w (2 ^ (w - 1) + d) ++ spell w (e ∷ ds)

abbrev pub AllBelow : ℕ → List ℕ → Type 0
AllBelow top [] = Unit {0}
AllBelow top (d ∷ ds) = (d < top) × AllBelow top ds

-- The bits are digits of a number below 2 ^ 64, the lowest first; surplus zeros are digits too.
pub record IsVbr (w n : ℕ) (front : List Bool) : Type 0 where
  pub digits : List ℕ
  pub some_digit : 0 < length digits
  pub below : AllBelow (2 ^ (w - 1)) digits
  pub is_number : n ≡ number w digits
  pub fits : n < 2 ^ 64
  pub spelled : front ≡ spell w digits
