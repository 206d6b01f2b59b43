-- Bits of bytes, least significant first, and the number that bits stand for.
use Rattle.std.specs.Prelude.{ℕ, zero, suc, ◌+◌, ◌*◌, ◌/◌, ◌%◌, ◌==◌, Bool, true, false, List, [], ◌∷◌}
use Rattle.std.specs.List.{flat_map}

abbrev pub bit_of : Bool → ℕ
bit_of true = 1
bit_of false = 0

-- the number whose bits these are, the least significant first
abbrev pub value : List Bool → ℕ
value [] = 0
value (b ∷ bs) = bit_of b + 2 * value bs

-- the lowest w bits of a number
abbrev pub bits : ℕ → ℕ → List Bool
bits zero n = []
bits (suc w) n = (n % 2 == 1) ∷ bits w (n / 2)

-- the eight bits of each byte; unfoldable, so that a byte does not open into eight cells
unfoldable pub byte_bits : ℕ → List Bool
byte_bits b = bits 8 b

abbrev pub bits_of : List ℕ → List Bool
bits_of bytes = flat_map byte_bits bytes
