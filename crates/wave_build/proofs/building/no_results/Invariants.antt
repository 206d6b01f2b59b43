use Rattle.std.proofs.Common.{◌≡◌, ◌++◌, drop, map}
use Rattle.wave_build.specs.Built.{no_result}
use Rattle.wave_build.proofs.building.no_results.Given as goal

-- What stands so far, and nothing for each file that is left, is nothing for each.
abbrev pub invariant-loop-tree : goal.invariant-loop-tree
invariant-loop-tree l = l.files.items ++ map no_result (drop l.tree-index l.trees) ≡ map no_result l.trees
