use Rattle.std.proofs.Common.{take}
use Rattle.std.specs.List.{flat_map}
use Rattle.swiftdeps.specs.Written.{node_texts, Adds}
use Rattle.swiftdeps.proofs.names.add_file.Given as goal

abbrev pub invariant-loop-node : goal.invariant-loop-node
invariant-loop-node l = Adds (flat_map node_texts (take l.node-index l.node-items)) l.initial.texts l.texts
