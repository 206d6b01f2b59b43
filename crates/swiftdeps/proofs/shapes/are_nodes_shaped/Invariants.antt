use Rattle.std.proofs.Common.{◌≡◌, drop}
use Rattle.std.specs.List.{list_all}
use Rattle.swiftdeps.specs.Written.{is_shaped}
use Rattle.swiftdeps.proofs.shapes.are_nodes_shaped.Given as goal

abbrev pub invariant-loop-node : goal.invariant-loop-node
invariant-loop-node l = list_all is_shaped (drop l.node-index l.nodes) ≡ list_all is_shaped l.nodes
