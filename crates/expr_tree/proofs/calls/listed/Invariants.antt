use Rattle.std.proofs.Common.{◌≡◌, ◌++◌, map, flat_map}
use Rattle.std.specs.Vec.Iter.{into_iter_items}
use Rattle.expr_tree.proofs.calls.listed.Given as goal

abbrev pub invariant-loop-value : goal.invariant-loop-value
invariant-loop-value l = (l.steps ++ flat_map (λ v. v.code) (into_iter_items l.value-iterator) ≡ flat_map (λ v. v.code) l.fn.values.items)
    × (l.types ++ map (λ v. v.ty) (into_iter_items l.value-iterator) ≡ map (λ v. v.ty) l.fn.values.items)
