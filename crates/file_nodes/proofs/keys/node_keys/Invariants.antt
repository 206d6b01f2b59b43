use Rattle.std.proofs.Common.{◌≡◌}
use Rattle.std.specs.List.{flat_map}
use Rattle.std.specs.Vec.Iter.{into_iter_items}
use Rattle.checks.specs.Logs.{entered}
use Rattle.dep_key.specs.KeyOrder.{key_order}
use Rattle.file_nodes.specs.Graphs.{node_keys}
use Rattle.file_nodes.proofs.keys.node_keys.Given as goal

abbrev pub invariant-loop-keys : goal.invariant-loop-keys
invariant-loop-keys l = entered key_order l.set.keys (flat_map (λ one. one) (into_iter_items l.keys-iterator)) ≡ node_keys l.fn.file
