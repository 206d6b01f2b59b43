use Rattle.std.proofs.Common.{◌≡◌, ◌++◌, drop}
use Rattle.std.specs.Prelude.{flat_map}
use Rattle.diag_text.specs.Line.{lines_of}
use Rattle.driver_build.specs.Building.{errors_in}
use Rattle.driver_build.proofs.building.error_lines.Given as goal

-- The lines so far, and those of the files that are left, are all.
abbrev pub invariant-loop-file : goal.invariant-loop-file
invariant-loop-file l = l.text.items ++ lines_of (flat_map errors_in (drop l.file-index l.files)) ≡ lines_of (flat_map errors_in l.files)
