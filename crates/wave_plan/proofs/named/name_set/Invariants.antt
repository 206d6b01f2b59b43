use Rattle.std.proofs.Common.{◌≡◌, ◌||◌, ℕ, List, drop}
use Rattle.std.specs.BTreeSet.{contains}
use Rattle.dep_graph.specs.Arcs.{path_order}
use Rattle.ordered_lists.specs.Among.{is_among}
use Rattle.wave_plan.proofs.named.name_set.Given as goal

-- A name is in the set or among those that are left, where it is among all.
abbrev pub invariant-loop-name : goal.invariant-loop-name
invariant-loop-name l = (q : List ℕ) → contains path_order l.set q || is_among (drop l.name-index l.names) q ≡ is_among l.names q
