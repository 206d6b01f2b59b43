use Rattle.std.proofs.Common.{◌≡◌, ◌++◌, drop}
use Rattle.std.specs.Option.{option_map}
use Rattle.body_check.specs.Declarations.{all_there}
use Rattle.body_check.proofs.functions.all_there.Given as goal

abbrev pub invariant-loop-ty : goal.invariant-loop-ty
invariant-loop-ty l = option_map (λ ys. l.all ++ ys) (all_there (drop l.ty-index l.types)) ≡ all_there l.types
