use Rattle.std.proofs.Common.{◌≡◌, None, drop}
use Rattle.std.specs.Prelude.{option_copied}
use Rattle.drv_outside.specs.Ascending.{ascend_after}
use Rattle.drv_outside.proofs.order.ascend.Given as goal

-- All ascend where those that are left do, after the last one.
abbrev pub invariant-loop-entry : goal.invariant-loop-entry
invariant-loop-entry l = ascend_after (option_copied l.last) (drop l.entry-index l.entries) ≡ ascend_after None l.entries
