-- Texts whose first line is a word and a path, by path.
use Rattle.std.specs.Prelude.{ℕ, List, drop, length}
use Rattle.std.specs.List.Sorted.{IsPermutation, IsSorted, IsSortedByKey}
use Rattle.std.specs.Ordering.{nat_cmp}
use Rattle.std.specs.Cmp.Lexicographic.{slice_cmp}
use Rattle.module_merge.specs.Lines.{first_line}

-- what stands after the word in the first line
abbrev pub path_after : List ℕ → List ℕ → List ℕ
path_after word text = drop (length word) (first_line text)

-- the same texts by path, and those of one path in byte order
abbrev pub IsByPath : List ℕ → List (List ℕ) → List (List ℕ) → Type 0
IsByPath word texts ordered = IsPermutation texts ordered × IsSortedByKey (path_after word) (slice_cmp nat_cmp) ordered × IsSorted (slice_cmp nat_cmp) ordered
