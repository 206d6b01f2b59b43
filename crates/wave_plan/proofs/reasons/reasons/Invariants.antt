use Rattle.std.proofs.Common.{◌≡◌, ◌++◌, drop}
use Rattle.std.specs.BTreeMap.{get}
use Rattle.std.specs.BTreeSet.{contains}
use Rattle.dep_graph.specs.Arcs.{path_order}
use Rattle.wave_plan.specs.Reasons.{reasons}
use Rattle.wave_plan.proofs.reasons.reasons.Given as goal

-- The reasons so far, and those of the sources that are left, are all.
abbrev pub invariant-loop-place : goal.invariant-loop-place
invariant-loop-place l = l.found.items ++ reasons (get path_order l.recorded) (contains path_order l.held) (drop l.place l.listed) (drop l.place l.outputs) ≡ reasons (get path_order l.recorded) (contains path_order l.held) l.listed l.outputs
