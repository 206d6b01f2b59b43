use Rattle.std.proofs.Common.{◌≡◌, ◌++◌, map, drop}
use Rattle.std.specs.String.{string_bytes}
use Rattle.swiftdeps.specs.Spelling.{number_of}
use Rattle.swiftdeps.proofs.names.numbers_of.Given as goal

abbrev pub invariant-loop-text : goal.invariant-loop-text
invariant-loop-text l = l.numbers.items ++ map (number_of l.sorted) (map string_bytes (drop l.text-index l.text-items)) ≡ map (number_of l.sorted) (map string_bytes l.text-items)
