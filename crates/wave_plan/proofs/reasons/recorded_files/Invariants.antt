use Rattle.std.proofs.Common.{◌≡◌, ℕ, List, length}
use Rattle.std.specs.BTreeMap.{get}
use Rattle.dep_graph.specs.Arcs.{path_order}
use Rattle.wave_plan.specs.Reasons.{recorded_at}
use Rattle.wave_plan.proofs.MapLemmas.{or_else}
use Rattle.wave_plan.proofs.reasons.recorded_files.Given as goal

-- What is left has a path, or the map has it.
abbrev pub invariant-loop-file : goal.invariant-loop-file
invariant-loop-file l = (q : List ℕ) → or_else (recorded_at l.files q) (get path_order l.recorded q) ≡ recorded_at l.fn.files q

abbrev pub decreases-loop-file : goal.decreases-loop-file
decreases-loop-file l = length l.files
