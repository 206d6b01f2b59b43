use Rattle.std.proofs.Common.{◌≡◌, ◌++◌, drop}
use Rattle.object_emit.specs.Emission.{integer_text}
use Rattle.object_emit.specs.IntegerText.{text_of_rest}
use Rattle.object_emit.proofs.emission.digits_of.Given as goal

abbrev pub invariant-loop-c : goal.invariant-loop-c
invariant-loop-c l = l.digits.items ++ text_of_rest l.after_digit (drop l.c-index l.literal) ≡ integer_text l.literal
