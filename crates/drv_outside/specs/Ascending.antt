-- Whether entries ascend, entry by entry.
use Rattle.std.specs.Prelude.{◌&&◌, Bool, true, List, [], ◌∷◌, Option, Some, None}
use Rattle.std.specs.Ordering.{nat_cmp, is_lt}
use Rattle.std.specs.Cmp.Lexicographic.{slice_cmp}
use Rattle.drv_outside.specs.declared.types.Entry.{Entry}

-- an entry's path is above that of the last one, where there is one
abbrev pub is_above : Entry → Option Entry → Bool
is_above entry None = true
is_above entry (Some last) = is_lt (slice_cmp nat_cmp last.path entry.path)

-- each entry's path is above that of the one before it
abbrev pub ascend_after : Option Entry → List Entry → Bool
ascend_after last [] = true
ascend_after last (entry ∷ entries) = is_above entry last && ascend_after (Some entry) entries
