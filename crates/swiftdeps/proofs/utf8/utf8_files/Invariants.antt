use Rattle.std.proofs.Common.{take}
use Rattle.std.specs.Prelude.{IsUtf8}
use Rattle.std.specs.List.{flat_map, AllByRecursion}
use Rattle.swiftdeps.specs.Written.{file_texts}
use Rattle.swiftdeps.proofs.utf8.utf8_files.Given as goal

abbrev pub invariant-loop-file : goal.invariant-loop-file
invariant-loop-file l = AllByRecursion IsUtf8 (flat_map file_texts (take l.file-index l.files))
