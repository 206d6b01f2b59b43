use Rattle.std.proofs.Common.{◌≡◌, ◌||◌, ℕ, List, drop, nat_cmp}
use Rattle.std.specs.BTreeSet as sets
use Rattle.std.specs.Cmp.Lexicographic.{slice_cmp}
use Rattle.ordered_lists.specs.Among.{is_among}
use Rattle.module_merge.proofs.linking.set_of.Given as goal

-- A symbol is in the set or among those that are left, where it is among all.
abbrev pub invariant-loop-symbol : goal.invariant-loop-symbol
invariant-loop-symbol l = (q : List ℕ) → sets.contains (slice_cmp nat_cmp) l.set q || is_among (drop l.symbol-index l.symbols) q ≡ is_among l.symbols q
