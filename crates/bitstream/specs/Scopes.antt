-- The abbreviations of a block that is open.
use Rattle.std.specs.Prelude.{ℕ, ◌+◌, ◌-◌, nat_lt, if◌then◌else◌, List, slice_get, Option}
use Rattle.bitstream.specs.declared.item.AbbrevOp.{AbbrevOp}
use Rattle.bitstream.specs.declared.block_info.BlockInfoDefinition.{BlockInfoDefinition}
use Rattle.bitstream.specs.declared.entry_reader.Scope.{Scope}
use Rattle.bitstream.specs.BlockInfo.{block_info_for}

-- The n-th abbreviation of the block, from 0 on: first those that BLOCKINFO had defined for it when it began, and then its
-- own, which stand behind those of the outer blocks.
abbrev pub abbrev_in : Scope → List BlockInfoDefinition → List (List AbbrevOp) → ℕ → Option (List AbbrevOp)
abbrev_in s ks own n = if nat_lt n s.block_info then slice_get (block_info_for s.block ks) n else slice_get own (s.first + (n - s.block_info))
