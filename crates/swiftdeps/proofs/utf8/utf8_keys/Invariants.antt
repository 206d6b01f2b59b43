use Rattle.std.proofs.Common.{take}
use Rattle.std.specs.Prelude.{IsUtf8}
use Rattle.std.specs.List.{flat_map, AllByRecursion}
use Rattle.swiftdeps.specs.Written.{key_texts}
use Rattle.swiftdeps.proofs.utf8.utf8_keys.Given as goal

abbrev pub invariant-loop-key : goal.invariant-loop-key
invariant-loop-key l = AllByRecursion IsUtf8 (flat_map key_texts (take l.key-index l.keys))
