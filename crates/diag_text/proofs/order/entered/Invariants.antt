use Rattle.std.proofs.Common.{◌≡◌}
use Rattle.std.specs.Vec.Iter.{into_iter_items}
use Rattle.diag_text.specs.Order.{entered, in_order}
use Rattle.diag_text.proofs.order.entered.Given as goal

abbrev pub invariant-loop-diag : goal.invariant-loop-diag
invariant-loop-diag l = entered l.set.keys (into_iter_items l.diag-iterator) ≡ in_order l.fn.diags.items
