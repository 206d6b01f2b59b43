-- The worked expressions, by computation.
use Rattle.std.proofs.Common.{refl}
use Rattle.type_rules.specs.Operators.{binary_rows}
use Rattle.expr_check.specs.Messages.{text_of}
use Rattle.expr_check.specs.Types.{look_up}
use Rattle.expr_check.specs.Examples.{Worked}

pub worked : Worked
unfolding text_of look_up binary_rows
worked = record { both_are_told = refl; labels_are_told = refl; a_call_is_steps = refl; all_look_ups_are_asked = refl }
