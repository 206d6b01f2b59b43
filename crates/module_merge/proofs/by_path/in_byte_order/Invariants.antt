use Rattle.std.proofs.Common.{◌≡◌, ◌++◌, drop}
use Rattle.module_merge.proofs.by_path.in_byte_order.Given as goal

-- The texts so far, with those that are left, are all.
abbrev pub invariant-loop-text : goal.invariant-loop-text
invariant-loop-text l = l.ordered.items ++ drop l.text-index l.texts ≡ l.texts
