use Rattle.std.proofs.Common.{◌≡◌, ◌++◌, take}
use Rattle.dep_key.specs.GraphOrder.{keys_of}
use Rattle.dep_graph.proofs.changes.push_keys.Given as goal

abbrev pub invariant-loop-node : goal.invariant-loop-node
invariant-loop-node l = l.keys.items ≡ l.initial.keys.items ++ keys_of (take l.node-index l.nodes)
