use Rattle.std.proofs.Common.{◌≡◌, ◌++◌}
use Rattle.std.specs.Vec.Iter.{into_iter_items}
use Rattle.std.specs.BTreeMap.{get}
use Rattle.dep_key.specs.declared.key.Key.{Key}
use Rattle.dep_key.specs.KeyOrder.{key_order}
use Rattle.decl_index.specs.Providers.{entries_at, found, items_or_none}
use Rattle.decl_index.proofs.index.enter_keys.Given as goal

abbrev pub invariant-loop-key : goal.invariant-loop-key
invariant-loop-key l = (q : Key) →
    items_or_none (get key_order l.map q) ++ found q (entries_at l.at (into_iter_items l.key-iterator)) ≡ items_or_none (get key_order l.fn.map q) ++ found q (entries_at l.at l.fn.keys)
