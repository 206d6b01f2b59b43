use Rattle.std.proofs.Common.{take, Some}
use Rattle.dep_graph.specs.Arcs.{uses_key}
use Rattle.dep_trace.specs.Traces.{HaveBeenFound, moved_beside}
use Rattle.dep_trace.proofs.tracing.find_uses.Given as goal

abbrev pub invariant-loop-node : goal.invariant-loop-node
invariant-loop-node l = HaveBeenFound l.initial.found.keys l.found.keys (moved_beside l.origins.entries l.file) (uses_key (Some (take l.node-index l.nodes)))
