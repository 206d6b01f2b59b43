-- Fronts of accepted items, and what the first fault of a file tells of them.
use Rattle.std.specs.Prelude.{◌≡◌, ◌⊎◌, ℕ, ◌*◌, Bool, true, IsTrue, List, [], ◌∷◌, ◌++◌, length, Option, Some, None}
use Rattle.bitstream.specs.declared.item.BitFault.{BitFault}
use Rattle.bitstream.specs.Reading.{Seen}
use Rattle.bitstream.specs.Items.{items_in}
use Rattle.dep_key.specs.declared.graph.FileGraph.{FileGraph}
use Rattle.swiftdeps.specs.declared.codes.TheConstants.{SIGNATURE}
use Rattle.swiftdeps.specs.declared.fault.DepsFault.{DepsFault}
use Rattle.swiftdeps.specs.declared.fault.DepsFault.TheVariants as faults
use Rattle.swiftdeps.specs.Stages.{is_version}
use Rattle.swiftdeps.specs.Spelling.{Spell, seen_items}

-- The items spell a version that is read and file graphs: one alone, where only one may be there.
abbrev pub AreAccepted : Bool → List Seen → Type 0
AreAccepted is_single items = (version : ℕ) × (files : List FileGraph) × IsTrue (is_version is_single version) × (is_single ≡ true → length files ≡ 1) × Spell version files items

-- Some accepted list begins with the items.
abbrev pub BeginAccepted : Bool → List Seen → Type 0
BeginAccepted is_single items = (more : List Seen) × AreAccepted is_single (items ++ more)

-- A fault of the item at a bit: a version or a path that is repeated is told by itself, any other fault by the bit.
abbrev pub IsToldAt : ℕ → DepsFault → Type 0
IsToldAt at (faults.Bits e) = ⊥
IsToldAt at faults.Signature = ⊥
IsToldAt at (faults.Version found) = Unit {0}
IsToldAt at (faults.RecordOrder told) = told ≡ at
IsToldAt at (faults.KindNumber told value) = told ≡ at
IsToldAt at (faults.IdentifierNumber told value) = told ≡ at
IsToldAt at (faults.KeyShape told) = told ≡ at
IsToldAt at (faults.NotUtf8 told) = told ≡ at
IsToldAt at (faults.NotCanonicalOrder told) = told ≡ at
IsToldAt at (faults.FileRepeated path) = Unit {0}
IsToldAt at faults.NoMemory = ⊥

-- The fault is that of an item: some accepted list begins with the items before it, and none goes on with it.
pub record StopsAtItem (is_single : Bool) (items : List (ℕ × Seen)) (fault : DepsFault) : Type 0 where
  pub before : List (ℕ × Seen)
  pub item : ℕ × Seen
  pub behind : List (ℕ × Seen)
  pub whole : items ≡ before ++ item ∷ behind
  pub begins : BeginAccepted is_single (seen_items before)
  pub stuck : BeginAccepted is_single (seen_items before ++ item.1 ∷ []) → ⊥
  pub told : IsToldAt item.0 fault

-- The fault is that of the end: some accepted list begins with all items, and either the bits are at fault behind them, or
-- they end there and the items aren't accepted as they are.
pub record StopsAtEnd (is_single : Bool) (end : ℕ) (items : List (ℕ × Seen)) (bits_fault : Option BitFault) (fault : DepsFault) : Type 0 where
  pub begins : BeginAccepted is_single (seen_items items)
  pub of_bits : (e : BitFault) → bits_fault ≡ Some e → fault ≡ faults.Bits e
  pub too_few : bits_fault ≡ None → (fault ≡ faults.RecordOrder end) × (AreAccepted is_single (seen_items items) → ⊥)

abbrev pub Stops : Bool → ℕ → List (ℕ × Seen) → Option BitFault → DepsFault → Type 0
Stops is_single end items bits_fault fault = StopsAtItem is_single items fault ⊎ StopsAtEnd is_single end items bits_fault fault

-- The first fault of bytes: they don't begin with the signature, or a fault of the items of the bitstream behind it.
abbrev pub IsFirstFault : Bool → List ℕ → DepsFault → Type 0
IsFirstFault is_single bytes fault = ((fault ≡ faults.Signature) × ((stream : List ℕ) → bytes ≡ SIGNATURE ++ stream → ⊥))
    ⊎ ((stream : List ℕ) × (bytes ≡ SIGNATURE ++ stream) × Stops is_single (8 * length stream) (items_in stream).0 (items_in stream).1 fault)
