use Rattle.std.proofs.Common.{◌≡◌, ◌++◌}
use Rattle.std.specs.List.{flat_map}
use Rattle.std.specs.Vec.Iter.{into_iter_items}
use Rattle.decl_meaning.proofs.meanings.add_keys.Given as goal

abbrev pub invariant-loop-one : goal.invariant-loop-one
invariant-loop-one l = l.keys.items ++ flat_map (λ one. one) (into_iter_items l.one-iterator) ≡ l.fn.keys.items ++ flat_map (λ one. one) l.fn.declared.items
