use Rattle.std.proofs.Common.{◌≡◌, drop}
use Rattle.std.specs.BTreeSet.{contains}
use Rattle.std.specs.List.{list_all}
use Rattle.dep_graph.specs.Arcs.{path_order}
use Rattle.wave_plan.proofs.named.are_in.Given as goal

-- Whether the names that are left are in the set tells it of all.
abbrev pub invariant-loop-name : goal.invariant-loop-name
invariant-loop-name l = list_all (contains path_order l.set) (drop l.name-index l.names) ≡ list_all (contains path_order l.set) l.names
