use Rattle.std.proofs.Common.{◌≡◌, ◌++◌, ◌+◌, length}
use Rattle.std.specs.Vec.Iter.{into_iter_items}
use Rattle.std.specs.BTreeMap.{get}
use Rattle.dep_key.specs.declared.key.Key.{Key}
use Rattle.dep_key.specs.KeyOrder.{key_order}
use Rattle.decl_index.specs.Providers.{entries_from, found, items_or_none}
use Rattle.decl_index.proofs.index.enter_file.Given as goal

abbrev pub invariant-loop-keys : goal.invariant-loop-keys
invariant-loop-keys l = record {
  count : l.place + length (into_iter_items l.keys-iterator) ≡ length l.fn.declared.items;
  each : (q : Key) →
      items_or_none (get key_order l.map q) ++ found q (entries_from l.file l.place (into_iter_items l.keys-iterator)) ≡ items_or_none (get key_order l.fn.map q) ++ found q (entries_from l.file 0 l.fn.declared.items);
}
