use Rattle.std.proofs.Common.{◌≡◌}
use Rattle.std.specs.Vec.Iter.{into_iter_items}
use Rattle.checks.specs.Logs.{entered}
use Rattle.dep_key.specs.KeyOrder.{key_order}
use Rattle.file_nodes.proofs.keys.enter_keys.Given as goal

abbrev pub invariant-loop-key : goal.invariant-loop-key
invariant-loop-key l = entered key_order l.set.keys (into_iter_items l.key-iterator) ≡ entered key_order l.fn.set.keys l.fn.keys
