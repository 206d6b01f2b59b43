use Rattle.std.proofs.Common.{◌≡◌, ◌++◌, map}
use Rattle.std.specs.List.{flat_map}
use Rattle.module_merge.specs.Image.{defined_by}
use Rattle.module_merge.proofs.symbols.push_defined.Given as goal

-- The symbols so far are those of the lines so far.
abbrev pub invariant-loop-line : goal.invariant-loop-line
invariant-loop-line l = l.symbols.items ≡ l.fn.symbols.items ++ flat_map defined_by (map (λ line. line.now) l.yielded)
