-- Why a module has no image.
use Rattle.std.specs.Prelude.{ℕ, List, Option, Some, None, ⊤}
use Rattle.module_merge.specs.Image.{AreDistinct, IsLeastTwice, IsLeastMissing, AreLinked, all_defined}
use Rattle.module_merge.specs.declared.ends.MergeEnd.{MergeEnd}
use Rattle.module_merge.specs.declared.ends.MergeEnd.TheVariants.{Missing, Twice, NoMemory}

-- The least symbol that is defined twice, else the least that is used and not defined; or memory was
-- wanted.
abbrev pub IsEnd : List (List ℕ) → MergeEnd → Type 0
IsEnd objects (Twice symbol) = IsLeastTwice objects symbol
IsEnd objects (Missing symbol) = AreDistinct (all_defined objects) × IsLeastMissing objects symbol
IsEnd objects NoMemory = ⊤

-- the least symbol that is used and not defined, and None where there is none
abbrev pub IsFirstMissing : List (List ℕ) → Option (List ℕ) → Type 0
IsFirstMissing objects None = AreLinked objects
IsFirstMissing objects (Some symbol) = IsLeastMissing objects symbol

-- what keeps objects from being linked, and None where nothing does
abbrev pub IsFirstEnd : List (List ℕ) → Option MergeEnd → Type 0
IsFirstEnd objects None = AreDistinct (all_defined objects) × AreLinked objects
IsFirstEnd objects (Some end) = IsEnd objects end
