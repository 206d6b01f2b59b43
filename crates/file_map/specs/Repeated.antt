-- Names that are given twice.
use Rattle.std.specs.Prelude.{◌≡◌, ℕ, List, Option, Some, None}
use Rattle.std.specs.Ordering.{nat_cmp}
use Rattle.std.specs.Cmp.Lexicographic.{slice_cmp}
use Rattle.ordered_lists.specs.Repeats.{HasNoRepeat, IsLeastRepeated}
use Rattle.drv_outside.specs.declared.faults.MapFault.{MapFault}
use Rattle.drv_outside.specs.declared.faults.MapFault.TheVariants.{PathRepeated}

-- no name is given twice
abbrev pub AreDistinct : List (List ℕ) → Type 0
AreDistinct = HasNoRepeat (slice_cmp nat_cmp)

-- the fault is the least name that is given twice
abbrev pub IsRepeatOf : List (List ℕ) → MapFault → Type 0
IsRepeatOf names fault = (name : List ℕ) × (fault ≡ PathRepeated name) × IsLeastRepeated (slice_cmp nat_cmp) names name

abbrev pub IsRepeatFault : List (List ℕ) → Option MapFault → Type 0
IsRepeatFault names None = AreDistinct names
IsRepeatFault names (Some fault) = IsRepeatOf names fault
