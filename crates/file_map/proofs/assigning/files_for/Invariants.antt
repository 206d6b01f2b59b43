use Rattle.std.proofs.Common.{◌≡◌, ◌++◌, map, drop}
use Rattle.file_map.specs.Assigned.{file_names}
use Rattle.file_map.specs.Table.{members}
use Rattle.file_map.proofs.assigning.files_for.Given as goal

-- The files so far, with those of the paths that are left, are all.
abbrev pub invariant-loop-path : goal.invariant-loop-path
invariant-loop-path l = l.files.items ++ map (file_names (members l.file_map)) (drop l.path-index l.paths) ≡ map (file_names (members l.file_map)) l.paths
