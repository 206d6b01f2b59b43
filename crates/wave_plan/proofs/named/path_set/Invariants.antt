use Rattle.std.proofs.Common.{◌≡◌, ◌||◌, ℕ, List, drop}
use Rattle.std.specs.BTreeSet.{contains}
use Rattle.dep_graph.specs.Arcs.{path_order}
use Rattle.ordered_lists.specs.Among.{is_among}
use Rattle.wave_plan.specs.Plans.{listed_paths}
use Rattle.wave_plan.proofs.named.path_set.Given as goal

-- A path is in the set or among those that are left, where it is among all.
abbrev pub invariant-loop-entry : goal.invariant-loop-entry
invariant-loop-entry l = (q : List ℕ) → contains path_order l.set q || is_among (listed_paths (drop l.entry-index l.listed)) q ≡ is_among (listed_paths l.listed) q
