use Rattle.std.proofs.Common.{◌≡◌, ◌+◌, ◌++◌, List, drop, length}
use Rattle.std.specs.Vec.Iter.{into_iter_items}
use Rattle.disk_commit.specs.declared.files.File.{File}
use Rattle.driver_build.specs.Outputs.{AreOutputsOfFiles}
use Rattle.driver_build.proofs.file_outputs.outputs_of_files.Given as goal

-- The outputs so far, and those of the files that are left, are all.
abbrev pub invariant-loop-file : goal.invariant-loop-file
invariant-loop-file l = record {
  outputs : (rest : List File) → AreOutputsOfFiles (drop l.place l.names) (into_iter_items l.file-iterator) rest → AreOutputsOfFiles l.names l.fn.files.items (l.made.items ++ rest);
  place : l.place + length (into_iter_items l.file-iterator) ≡ length l.names;
}
