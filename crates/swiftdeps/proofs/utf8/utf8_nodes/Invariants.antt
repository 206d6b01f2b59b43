use Rattle.std.proofs.Common.{take}
use Rattle.std.specs.Prelude.{IsUtf8}
use Rattle.std.specs.List.{flat_map, AllByRecursion}
use Rattle.swiftdeps.specs.Written.{node_texts}
use Rattle.swiftdeps.proofs.utf8.utf8_nodes.Given as goal

abbrev pub invariant-loop-node : goal.invariant-loop-node
invariant-loop-node l = AllByRecursion IsUtf8 (flat_map node_texts (take l.node-index l.nodes))
