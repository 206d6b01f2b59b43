use Rattle.std.proofs.Common.{take}
use Rattle.dep_graph.specs.Moves.{is_one}
use Rattle.dep_trace.specs.Traces.{HaveMoved}
use Rattle.dep_trace.proofs.noting.note_keys.Given as goal

abbrev pub invariant-loop-key : goal.invariant-loop-key
invariant-loop-key l = HaveMoved l.initial.origins.entries l.origins.entries l.file (is_one (take l.key-index l.keys))
