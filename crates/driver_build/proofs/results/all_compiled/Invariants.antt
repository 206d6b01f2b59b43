use Rattle.std.proofs.Common.{◌≡◌, ◌++◌, map}
use Rattle.std.specs.Vec.Iter.{into_iter_items}
use Rattle.driver_build.specs.declared.results.FileResult.TheVariants as result_of
use Rattle.driver_build.proofs.results.all_compiled.Given as goal

-- The results so far, and those of the files that are left, are all.
abbrev pub invariant-loop-file : goal.invariant-loop-file
invariant-loop-file l = l.results.items ++ map result_of.Compiled (into_iter_items l.file-iterator) ≡ map result_of.Compiled l.fn.files.items
