-- Fronts of an input, and what its first fault tells of them.
use Rattle.std.specs.Prelude.{◌≡◌, ℕ, ◌+◌, ◌≤◌, ◌==◌, Bool, true, false, List, [], ◌∷◌, ◌++◌, length, Some}
use Rattle.bitstream.specs.declared.item.BitFault.{BitFault}
use Rattle.bitstream.specs.declared.item.BitFault.TheVariants.{Short, UnknownAbbrev, BadEncoding, BadOperands, BadBlockLength, OutsideBlock, WideNumber, TooDeep, NoMemory}
use Rattle.bitstream.specs.Bits.{bits_of}
use Rattle.bitstream.specs.Reading.{Seen}
use Rattle.bitstream.specs.Items.{items_in}
use Rattle.bitstream.specs.Stands.{Entry, Blocks, no_blocks, entry_form, Allowed, after_entry, shown, StandFor}

-- Bits from a position on begin with those of the entries, one behind the other, each where it may stand. The entries show
-- the items, and `stop` is the position behind the last one.
abbrev pub BeginWith : Blocks → ℕ → List Entry → List Bool → List (ℕ × Seen) → ℕ → Type 0
BeginWith c at [] bs items stop = (items ≡ []) × (stop ≡ at)
BeginWith c at (e ∷ es) bs items stop = (front : List Bool) × (rest : List Bool) × (later : List (ℕ × Seen))
    × entry_form c e at front × Allowed c (at + length front) (length rest) e
    × BeginWith (after_entry c (at + length front) e) (at + length front) es rest later stop
    × (bs ≡ front ++ rest) × (items ≡ shown c at e ++ later)

-- The entries are a front of the bytes that shows the items and ends at a position.
abbrev pub IsFront : List ℕ → List Entry → List (ℕ × Seen) → ℕ → Type 0
IsFront bytes entries items stop = BeginWith no_blocks 0 entries (bits_of bytes) items stop

-- No front of the bytes ends behind a position, and what each shows comes first among the items.
abbrev pub NoneGoesFurther : List ℕ → List (ℕ × Seen) → ℕ → Type 0
NoneGoesFurther bytes items stop = (entries : List Entry) (first : List (ℕ × Seen)) (end : ℕ) → IsFront bytes entries first end → (end ≤ stop) × (more : List (ℕ × Seen)) × (items ≡ first ++ more)

-- The items are those of the furthest front of the bytes, which ends at a position.
pub record OfFurthestFront (bytes : List ℕ) (items : List (ℕ × Seen)) (stop : ℕ) : Type 0 where
  pub entries : List Entry
  pub is_front : IsFront bytes entries items stop
  pub furthest : NoneGoesFurther bytes items stop

-- Whether bits that follow may take the fault away: a field isn't whole, or the block that is entered where the furthest
-- front ends has not all its words.
abbrev pub may_be_mended : ℕ → BitFault → Bool
may_be_mended stop (Short at) = true
may_be_mended stop (UnknownAbbrev at id) = false
may_be_mended stop (BadEncoding at code) = false
may_be_mended stop (BadOperands at) = false
may_be_mended stop (BadBlockLength at said) = at == stop
may_be_mended stop (OutsideBlock at) = false
may_be_mended stop (WideNumber at) = false
may_be_mended stop (TooDeep at) = false
may_be_mended stop NoMemory = false

-- Where a fault is told: at the entry that doesn't go on, or at a field in it. A wrong length is told where its block was entered.
abbrev pub IsToldBehind : ℕ → BitFault → Type 0
IsToldBehind stop (Short at) = stop ≤ at
IsToldBehind stop (UnknownAbbrev at id) = at ≡ stop
IsToldBehind stop (BadEncoding at code) = stop ≤ at
IsToldBehind stop (BadOperands at) = at ≡ stop
IsToldBehind stop (BadBlockLength at said) = Unit {0}
IsToldBehind stop (OutsideBlock at) = at ≡ stop
IsToldBehind stop (WideNumber at) = stop ≤ at
IsToldBehind stop (TooDeep at) = at ≡ stop
IsToldBehind stop NoMemory = ⊥

-- What the first fault of bytes tells, with the items before it. Where bits that follow can't take it away, no front goes on,
-- whatever follows.
pub record FirstFault (bytes : List ℕ) (items : List (ℕ × Seen)) (fault : BitFault) : Type 0 where
  pub stop : ℕ
  pub given : OfFurthestFront bytes items stop
  pub place : IsToldBehind stop fault
  pub stuck : may_be_mended stop fault ≡ false → (more : List ℕ) → NoneGoesFurther (bytes ++ more) items stop
  pub stays : may_be_mended stop fault ≡ false → (more : List ℕ) → items_in (bytes ++ more) ≡ (items, Some fault)
  pub unspelled : may_be_mended stop fault ≡ false → (more : List ℕ) (others : List (ℕ × Seen)) → StandFor (bytes ++ more) others → ⊥
