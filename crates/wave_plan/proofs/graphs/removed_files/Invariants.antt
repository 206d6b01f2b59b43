use Rattle.std.proofs.Common.{◌≡◌, ◌++◌, drop}
use Rattle.std.specs.BTreeSet.{contains}
use Rattle.dep_graph.specs.Arcs.{path_order}
use Rattle.wave_plan.specs.Plans.{removed_files}
use Rattle.wave_plan.proofs.graphs.removed_files.Given as goal

-- The paths so far, with those of the rest that aren't listed, are all of these.
abbrev pub invariant-loop-file : goal.invariant-loop-file
invariant-loop-file l = l.removed.items ++ removed_files (contains path_order l.listed) (drop l.file-index l.files) ≡ removed_files (contains path_order l.listed) l.files
