use Rattle.std.proofs.Common.{◌≡◌, ℕ, List, ◌++◌, drop}
use Rattle.iface_print.specs.Prints as prints
use Rattle.iface_print.proofs.texts.put_more.Given as goal

abbrev pub invariant-loop-parameter : goal.invariant-loop-parameter
invariant-loop-parameter l = (after : List ℕ) → l.out.items ++ prints.more_params_text (drop l.parameter-index l.parameters) after ≡ l.initial.out.items ++ prints.more_params_text l.parameters after
