use Rattle.std.proofs.Common.{◌≡◌, ◌++◌}
use Rattle.std.specs.Option.{option_map}
use Rattle.std.specs.Vec.Iter.{into_iter_items}
use Rattle.body_check.specs.Declarations.{all_there}
use Rattle.file_check.proofs.structs.all_there.Given as goal

abbrev pub invariant-loop-initial : goal.invariant-loop-initial
invariant-loop-initial l = option_map (λ rest. l.there ++ rest) (all_there (into_iter_items l.initial-iterator)) ≡ all_there l.fn.initials.items
