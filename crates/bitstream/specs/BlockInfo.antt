-- What BLOCKINFO defined.
use Rattle.std.specs.Prelude.{◌≡◌, ℕ, ◌+◌, List, [], ◌∷◌, ◌==◌, Option, Some, None, if◌then◌else◌}
use Rattle.std.specs.BTreeMap.{BTreeMap, get}
use Rattle.std.specs.Global.{Vec}
use Rattle.std.specs.Ordering.{nat_cmp}
use Rattle.bitstream.specs.declared.item.AbbrevOp.{AbbrevOp}
use Rattle.bitstream.specs.declared.block_info.BlockInfoDefinition.{BlockInfoDefinition}

-- the definitions of BLOCKINFO for a block, in order
abbrev pub block_info_for : ℕ → List BlockInfoDefinition → List (List AbbrevOp)
block_info_for block [] = []
block_info_for block (k ∷ ks) = if k.block == block then k.definition ∷ block_info_for block ks else block_info_for block ks

-- where the definitions for a block stand among all, counted from `at` on
abbrev pub places_from : ℕ → ℕ → List BlockInfoDefinition → List ℕ
places_from block at [] = []
places_from block at (k ∷ ks) = if k.block == block then at ∷ places_from block (at + 1) ks else places_from block (at + 1) ks

abbrev pub listed : Option (Vec ℕ) → List ℕ
listed None = []
listed (Some v) = v.items

-- the list of a block, and none where it has no list
abbrev pub listed_at : ℕ → BTreeMap ℕ (Vec ℕ) → List ℕ
listed_at block places = listed (get nat_cmp places block)

-- the lists have the places of each block's definitions
abbrev pub ArePlaces : BTreeMap ℕ (Vec ℕ) → List BlockInfoDefinition → Type 0
ArePlaces places ks = (block : ℕ) → listed_at block places ≡ places_from block 0 ks
