use Rattle.std.proofs.Common.{take}
use Rattle.dep_trace.specs.Traces.{HaveMoved, is_named}
use Rattle.dep_trace.proofs.noting.note_nodes.Given as goal

abbrev pub invariant-loop-node : goal.invariant-loop-node
invariant-loop-node l = HaveMoved l.initial.origins.entries l.origins.entries l.file (is_named (take l.node-index l.nodes))
