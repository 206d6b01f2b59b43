use Rattle.std.proofs.Common.{take, Some}
use Rattle.dep_graph.specs.Arcs.{HasLeft, uses_key}
use Rattle.dep_graph.proofs.arcs.leave_nodes.Given as goal

abbrev pub invariant-loop-node : goal.invariant-loop-node
invariant-loop-node l = HasLeft l.initial.users l.users l.file (uses_key (Some (take l.node-index l.nodes)))
