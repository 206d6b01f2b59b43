use Rattle.std.proofs.Common.{◌≡◌, ◌++◌}
use Rattle.std.specs.Vec.Iter.{into_iter_items}
use Rattle.project_sources.specs.Refusals.{form_errors, trees_of}
use Rattle.project_sources.proofs.sources.sort_out.Given as goal

-- The errors and the trees so far, and those of the files that are left, are all.
abbrev pub invariant-loop-file : goal.invariant-loop-file
invariant-loop-file l = record {
  errors : l.errors.items ++ form_errors (into_iter_items l.file-iterator) ≡ form_errors l.fn.files.items;
  trees : l.trees.items ++ trees_of (into_iter_items l.file-iterator) ≡ trees_of l.fn.files.items;
}
