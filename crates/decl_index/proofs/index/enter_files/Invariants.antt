use Rattle.std.proofs.Common.{◌≡◌, ◌++◌, drop}
use Rattle.std.specs.BTreeMap.{get}
use Rattle.dep_key.specs.declared.key.Key.{Key}
use Rattle.dep_key.specs.KeyOrder.{key_order}
use Rattle.decl_index.specs.Providers.{entries_of, found, items_or_none}
use Rattle.decl_index.proofs.index.enter_files.Given as goal

abbrev pub invariant-loop-file : goal.invariant-loop-file
invariant-loop-file l = record {
  number : l.number ≡ l.file-index;
  each : (q : Key) →
      items_or_none (get key_order l.providers q) ++ found q (entries_of l.file-index (drop l.file-index l.files)) ≡ found q (entries_of 0 l.files);
}
