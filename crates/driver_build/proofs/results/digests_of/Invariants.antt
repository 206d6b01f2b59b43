use Rattle.std.proofs.Common.{◌≡◌, ◌++◌, map, drop}
use Rattle.dep_key.specs.Digests.{digested}
use Rattle.driver_build.specs.Results as spec
use Rattle.driver_build.proofs.results.digests_of.Given as goal

-- The graphs so far, and those of the files that are left, are all.
abbrev pub invariant-loop-file : goal.invariant-loop-file
invariant-loop-file l = l.graphs.items ++ map digested (spec.graphs_of (drop l.file-index l.files)) ≡ map digested (spec.graphs_of l.files)
