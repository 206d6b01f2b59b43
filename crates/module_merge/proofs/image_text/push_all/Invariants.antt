use Rattle.std.proofs.Common.{◌≡◌, ◌++◌, drop}
use Rattle.std.specs.List.{flat_map}
use Rattle.module_merge.proofs.image_text.push_all.Given as goal

-- The text so far, with the parts that are left, is the whole text.
abbrev pub invariant-loop-part : goal.invariant-loop-part
invariant-loop-part l = l.text.items ++ flat_map (λ part. part) (drop l.part-index l.parts) ≡ l.fn.text.items ++ flat_map (λ part. part) l.parts
