use Rattle.std.proofs.Common.{drop}
use Rattle.std.specs.List.{AllByRecursion}
use Rattle.swiftdeps.specs.Written.{IsWritable}
use Rattle.driver_build.proofs.module_outputs.are_writable.Given as goal

-- The graphs so far have a spelling.
abbrev pub invariant-loop-graph : goal.invariant-loop-graph
invariant-loop-graph l = AllByRecursion IsWritable (drop l.graph-index l.graphs) → AllByRecursion IsWritable l.graphs
