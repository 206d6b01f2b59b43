use Rattle.std.proofs.Common.{◌≡◌, ℕ, List, ◌&&◌, not, take}
use Rattle.std.specs.List.{list_any}
use Rattle.std.specs.BTreeMap.{is_at}
use Rattle.dep_key.specs.declared.key.Key.{Key}
use Rattle.dep_graph.specs.Arcs.{path_order, nodes_in}
use Rattle.wave_core.specs.Cores.{has_print}
use Rattle.dep_trace.specs.Traces.{moved_beside}
use Rattle.dep_trace.proofs.trace.Trace.start.Given as goal

abbrev pub invariant-loop-file : goal.invariant-loop-file
invariant-loop-file l = (f : List ℕ) (k : Key) → moved_beside l.origins.entries f k ≡ list_any (λ g. not (is_at (path_order g) f) && has_print (nodes_in l.graph g) k) (take l.file-index l.removed)
