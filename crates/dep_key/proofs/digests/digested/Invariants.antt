use Rattle.std.proofs.Common.{◌≡◌, ◌++◌, map, drop}
use Rattle.dep_key.specs.Digests.{digested_node}
use Rattle.dep_key.proofs.digests.digested.Given as goal

abbrev pub invariant-loop-node : goal.invariant-loop-node
invariant-loop-node l = l.nodes.items ++ map digested_node (drop l.node-index l.file.nodes) ≡ map digested_node l.file.nodes
