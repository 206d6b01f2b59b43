use Rattle.std.proofs.Common.{take}
use Rattle.dep_graph.specs.Moves.{is_one}
use Rattle.dep_trace.specs.Traces.{HaveBeenFound, moved_beside}
use Rattle.dep_trace.proofs.tracing.find_keys.Given as goal

abbrev pub invariant-loop-key : goal.invariant-loop-key
invariant-loop-key l = HaveBeenFound l.initial.found.keys l.found.keys (moved_beside l.origins.entries l.file) (is_one (take l.key-index l.keys))
