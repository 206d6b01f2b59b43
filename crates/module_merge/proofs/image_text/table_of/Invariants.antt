use Rattle.std.proofs.Common.{◌≡◌, drop}
use Rattle.module_merge.specs.Image.{with_objects, table_of, table_in}
use Rattle.module_merge.proofs.image_text.table_of.Given as goal

-- The table so far, with the objects that are left, has all.
abbrev pub invariant-loop-object : goal.invariant-loop-object
invariant-loop-object l = with_objects (drop l.object-index l.objects) (table_in l.table) ≡ table_of l.objects
