use Rattle.std.proofs.Common.{◌≡◌, None, drop}
use Rattle.std.specs.Option.{option_copied}
use Rattle.dep_key.specs.Scans.{ascend_after}
use Rattle.dep_key.proofs.order.ascend.Given as goal

abbrev pub invariant-loop-key : goal.invariant-loop-key
invariant-loop-key l = ascend_after (option_copied l.before) (drop l.key-index l.keys) ≡ ascend_after None l.keys
