-- The items that a reader still gives.
use Rattle.std.specs.Prelude.{◌≡◌, ℕ, zero, suc, ◌+◌, ◌≤◌, ◌<◌, if◌then◌else◌, true, List, [], ◌∷◌, length, All, Option, Some, None, Result, Ok, Err}
use Rattle.bitstream.specs.declared.item.BitFault.{BitFault}
use Rattle.bitstream.specs.declared.item.BitFault.TheVariants.{NoMemory}
use Rattle.bitstream.specs.declared.item.AbbrevOp.{AbbrevOp}
use Rattle.bitstream.specs.Fields.{Input}
use Rattle.bitstream.specs.Reading.{Seen, Enters, LeaveBlock, Record, Ends, Context, Reading, At, Stuck, first_bit, at_end, entry_at, left_at}
use Rattle.bitstream.specs.Writer.{is_definition}

-- an item before others, where an entry shows one
abbrev pub shown_before : ℕ → Option Seen → List (ℕ × Seen) × Option BitFault → List (ℕ × Seen) × Option BitFault
shown_before at (Some s) more = ((at, s) ∷ more.0, more.1)
shown_before at None more = more

abbrev pub behind_entry : ℕ → Result ((Option Seen × Context) × Input) BitFault → (Context → Input → List (ℕ × Seen) × Option BitFault) → List (ℕ × Seen) × Option BitFault
behind_entry at (Ok e) more = shown_before at (e.0).0 (more (e.0).1 e.1)
behind_entry at (Err e) more = ([], Some e)

-- the items of the entries from here on, entry by entry; the first argument only bounds how many there are
abbrev pub items_at : ℕ → Context → Input → List (ℕ × Seen) × Option BitFault
items_at zero c p = ([], Some NoMemory)
items_at (suc n) c p = if at_end c p then ([], None) else behind_entry p.at (entry_at c p) (items_at n)

-- The items that a reader still gives, each with its first bit, and the fault that ends them: none where they end since
-- no bit is left outside all blocks. Each entry takes a bit at least, so there are no more of them than bits are left.
unfoldable pub items_of : Reading → List (ℕ × Seen) × Option BitFault
items_of (At p c i) = items_at (left_at p) c p
items_of (Stuck e i) = ([], Some e)

-- the items of a reader at the first bit of these bytes
unfoldable pub items_in : List ℕ → List (ℕ × Seen) × Option BitFault
items_in bytes = items_of (first_bit bytes)

-- how many bits there are, those read among them
abbrev pub total_bits : Reading → ℕ
total_bits (At p c i) = p.at + length p.bits
total_bits (Stuck e i) = 0

-- how many operands a record has
abbrev pub operand_count : Seen → ℕ
operand_count (Enters block) = 0
operand_count LeaveBlock = 0
operand_count (Record code ops blob) = length ops
operand_count Ends = 0

-- an abbreviation that may be defined, and that has no more operands than there are bits before a position
pub record IsReadBefore (at : ℕ) (ops : List AbbrevOp) : Type 0 where
  pub few : length ops ≤ at
  pub may_be : is_definition ops ≡ true

-- What holds in each context that a reader comes to: an id has a bit at least, and each abbreviation was read before.
pub record IsSound (c : Context) (p : Input) : Type 0 where
  pub id_bits : 0 < c.scope.width
  pub outer_id_bits : All (λ s. 0 < s.width) c.outer
  pub abbrevs : All (IsReadBefore p.at) c.abbrevs
  pub block_info : All (λ k. IsReadBefore p.at k.definition) c.block_info

abbrev pub IsSoundReading : Reading → Type 0
IsSoundReading (At p c i) = IsSound c p
IsSoundReading (Stuck e i) = Unit {0}
