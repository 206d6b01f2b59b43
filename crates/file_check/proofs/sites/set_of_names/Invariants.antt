use Rattle.std.proofs.Common.{◌≡◌, ◌||◌, ℕ, List, drop, nat_cmp}
use Rattle.std.specs.BTreeSet as sets
use Rattle.std.specs.Cmp.Lexicographic.{slice_cmp}
use Rattle.decl_index.specs.Declarations.{is_among}
use Rattle.file_check.proofs.sites.set_of_names.Given as goal

-- A name is in the set or among those that are left, where it is among all.
abbrev pub invariant-loop-name : goal.invariant-loop-name
invariant-loop-name l = (name : List ℕ) → sets.contains (slice_cmp nat_cmp) l.set name || is_among (drop l.name-index l.names) name ≡ is_among l.names name
