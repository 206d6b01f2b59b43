use Rattle.std.proofs.Common.{◌≡◌, drop}
use Rattle.std.specs.List.{list_all}
use Rattle.dep_key.specs.KeyShapes.{has_shape}
use Rattle.swiftdeps.proofs.shapes.are_keys_shaped.Given as goal

abbrev pub invariant-loop-key : goal.invariant-loop-key
invariant-loop-key l = list_all has_shape (drop l.key-index l.keys) ≡ list_all has_shape l.keys
