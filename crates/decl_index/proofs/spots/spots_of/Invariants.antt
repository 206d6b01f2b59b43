use Rattle.std.proofs.Common.{◌≡◌, ◌++◌, drop}
use Rattle.decl_index.specs.Spots.{spots_from, file_spots}
use Rattle.decl_index.proofs.spots.spots_of.Given as goal

abbrev pub invariant-loop-decl : goal.invariant-loop-decl
invariant-loop-decl l = l.spots.items ++ spots_from l.decl (drop l.decl l.file.decls) ≡ file_spots l.file
