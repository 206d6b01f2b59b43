use Rattle.std.proofs.Common.{◌≡◌, ◌++◌, drop}
use Rattle.std.specs.List.{flat_map}
use Rattle.file_map.specs.Assigned.{names_of_file}
use Rattle.file_map.proofs.names.all_names.Given as goal

-- The names so far, with those of the files that are left, are those of all files.
abbrev pub invariant-loop-file : goal.invariant-loop-file
invariant-loop-file l = l.all.items ++ flat_map names_of_file (drop l.file-index l.names.files) ≡ flat_map names_of_file l.names.files
