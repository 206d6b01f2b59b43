use Rattle.std.proofs.Common.{◌≡◌, ◌||◌, drop}
use Rattle.std.specs.List.{list_any}
use Rattle.std.specs.Ordering.{eq_by_cmp}
use Rattle.std.specs.BTreeSet as sets
use Rattle.dep_key.specs.declared.key.Key.{Key}
use Rattle.dep_key.specs.KeyOrder.{key_order}
use Rattle.file_check.proofs.sites.set_of_keys.Given as goal

-- A key is in the set or among those that are left, where it is among all.
abbrev pub invariant-loop-key : goal.invariant-loop-key
invariant-loop-key l = (key : Key) → sets.contains key_order l.set key || list_any (λ k. eq_by_cmp key_order k key) (drop l.key-index l.keys) ≡ list_any (λ k. eq_by_cmp key_order k key) l.keys
