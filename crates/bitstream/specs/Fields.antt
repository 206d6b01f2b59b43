-- Reading one field from the bits, with the first fault.
use Rattle.std.specs.Prelude.{◌≡◌, ℕ, zero, suc, ◌+◌, ◌*◌, ◌-◌, Bool, true, false, List, [], ◌∷◌, ◌++◌, length, take, drop, Result, Ok, Err, nat_lt, if◌then◌else◌, ◌^◌}
use Rattle.std.specs.Borrow.{Bor}
use Rattle.bitstream.specs.declared.item.BitFault.{BitFault}
use Rattle.bitstream.specs.declared.item.BitFault.TheVariants.{Short, WideNumber}
use Rattle.bitstream.specs.Bits.{value, bits_of}

-- A place in the input: its position, and the bits from there on.
pub record Input : Type 0 where
  pub at : ℕ
  pub bits : List Bool

abbrev pub input_at : List ℕ → ℕ → Input
input_at bytes at = record { at = at; bits = drop at (bits_of bytes) }

abbrev pub after : ℕ → Input → Input
after n p = record { at = p.at + n; bits = drop n p.bits }

infixl 10 ◌>>=◌
abbrev pub ◌>>=◌ : {A B : Type 0} → Result A BitFault → (A → Result B BitFault) → Result B BitFault
(Ok x) >>= f = f x
(Err e) >>= f = Err e

-- the field of w bits here, and the place after it
abbrev pub fixed_at : ℕ → Input → Result (ℕ × Input) BitFault
fixed_at w p = if nat_lt (length p.bits) w then Err (Short p.at) else Ok (value (take w p.bits), after w p)

-- What a call gave, with the place behind it, is what reading gives.
abbrev pub Gives : {A : Type 0} → Input → Result A BitFault → Result (A × Input) BitFault → Type 0
Gives after (Ok x) read = read ≡ Ok (x, after)
Gives after (Err e) read = read ≡ Err e

-- The groups of a vbr of width w, as far as they are there whole: their digits, and whether the last one came.
abbrev pub with_digit : ℕ → List ℕ × Bool → List ℕ × Bool
with_digit d r = (d ∷ r.0, r.1)

abbrev pub group_then : ℕ → ℕ → List ℕ × Bool → List ℕ × Bool
group_then top g more = if nat_lt g top then (g ∷ [], true) else with_digit (g - top) more

abbrev pub groups : ℕ → ℕ → List Bool → List ℕ × Bool
groups zero w bs = ([], false)
groups (suc fuel) w bs = if nat_lt (length bs) w then ([], false) else group_then (2 ^ (w - 1)) (value (take w bs)) (groups fuel w (drop w bs))

-- the number of digits of w - 1 bits, the lowest first
abbrev pub number : ℕ → List ℕ → ℕ
number w [] = 0
number w (d ∷ ds) = d + 2 ^ (w - 1) * number w ds

unfoldable pub groups_at : ℕ → Input → List ℕ × Bool
groups_at w p = groups (suc (length p.bits)) w p.bits

-- the number of these groups, which stand here, where it fits 64 bits and the last of them is there
abbrev pub vbr_of : ℕ → Input → List ℕ × Bool → Result (ℕ × Input) BitFault
vbr_of w p gs =
    if nat_lt (number w gs.0) (2 ^ 64)
    then (if gs.1 then Ok (number w gs.0, after (w * length gs.0) p) else Err (Short (p.at + w * length gs.0)))
    else Err (WideNumber p.at)

-- the number in groups of w bits here, and the input behind them
unfoldable pub vbr_at : ℕ → Input → Result (ℕ × Input) BitFault
vbr_at w p = vbr_of w p (groups_at w p)

abbrev pub GivesWith : List ℕ → Result (ℕ × ℕ) BitFault → Result (ℕ × Input) BitFault → Type 0
GivesWith bytes (Ok x) read = read ≡ Ok (x.0, input_at bytes x.1)
GivesWith bytes (Err e) read = read ≡ Err e

-- a place at which these bits stand
abbrev pub at_bits : ℕ → List Bool → Input
at_bits at bs = record { at = at; bits = bs }

-- Where these bits stand, whatever follows them, reading gives the value, and then stands behind them.
abbrev pub IsReadBack : {A : Type 0} → (Input → Result (A × Input) BitFault) → A → List Bool → Type 0
IsReadBack read x front = (at : ℕ) (rest : List Bool) → read (at_bits at (front ++ rest)) ≡ Ok (x, at_bits (at + length front) rest)

-- What reading gives here stands at the place, and the place behind is behind it.
abbrev pub Stands : {A : Type 0} → (A → List Bool → Type 0) → Input → A → Input → Type 0
Stands Spells p x behind = (front : List Bool) × Spells x front × (p.bits ≡ front ++ behind.bits) × (behind.at ≡ p.at + length front)

-- the bytes of a slice that was given
abbrev pub bytes_seen : Result (Bor (List ℕ)) BitFault → Result (List ℕ) BitFault
bytes_seen (Ok s) = Ok s.now
bytes_seen (Err e) = Err e
