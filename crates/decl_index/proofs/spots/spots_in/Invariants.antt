use Rattle.std.proofs.Common.{◌≡◌, ◌++◌, drop, map}
use Rattle.decl_index.specs.Spots.{file_spots}
use Rattle.decl_index.proofs.spots.spots_in.Given as goal

abbrev pub invariant-loop-file : goal.invariant-loop-file
invariant-loop-file l = l.made.items ++ map file_spots (drop l.file-index l.files) ≡ map file_spots l.files
