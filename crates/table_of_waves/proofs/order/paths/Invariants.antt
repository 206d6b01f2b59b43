use Rattle.std.proofs.Common.{◌≡◌, ◌++◌, drop}
use Rattle.swiftdeps.specs.Spelling.{paths_of}
use Rattle.table_of_waves.proofs.order.paths.Given as goal

-- The paths so far, and those of the files that are left, are all.
abbrev pub invariant-loop-file : goal.invariant-loop-file
invariant-loop-file l = l.paths.items ++ paths_of (drop l.file-index l.files) ≡ paths_of l.files
