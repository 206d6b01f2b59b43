use Rattle.std.proofs.Common.{◌≡◌, ◌++◌, drop}
use Rattle.std.specs.List.{flat_map}
use Rattle.module_merge.specs.Image.{defined_in}
use Rattle.module_merge.proofs.symbols.all_defined.Given as goal

-- The symbols so far, with those of the objects that are left, are all.
abbrev pub invariant-loop-object : goal.invariant-loop-object
invariant-loop-object l = l.symbols.items ++ flat_map defined_in (drop l.object-index l.objects) ≡ flat_map defined_in l.objects
