use Rattle.std.proofs.Common.{◌≡◌, ◌++◌}
use Rattle.diag_text.proofs.order.listed.Given as goal

abbrev pub invariant-loop-diag : goal.invariant-loop-diag
invariant-loop-diag l = l.made.items ++ l.diag-iterator ≡ l.fn.set.keys
