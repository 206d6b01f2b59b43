use Rattle.std.proofs.Common.{take}
use Rattle.std.specs.List.{flat_map}
use Rattle.swiftdeps.specs.Written.{key_texts, Adds}
use Rattle.swiftdeps.proofs.names.add_node.Given as goal

abbrev pub invariant-loop-key : goal.invariant-loop-key
invariant-loop-key l = Adds (flat_map key_texts (take l.key-index l.key-items)) l.initial.texts l.texts
