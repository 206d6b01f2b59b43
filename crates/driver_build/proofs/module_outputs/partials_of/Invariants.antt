use Rattle.std.proofs.Common.{◌≡◌, ◌++◌, drop}
use Rattle.driver_build.specs.Results as results
use Rattle.driver_build.proofs.module_outputs.partials_of.Given as goal

-- The texts so far, and those of the files that are left, are all.
abbrev pub invariant-loop-file : goal.invariant-loop-file
invariant-loop-file l = l.partials.items ++ results.partials_of (drop l.file-index l.files) ≡ results.partials_of l.files
