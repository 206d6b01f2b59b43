use Rattle.std.proofs.Common.{take}
use Rattle.std.specs.List.{flat_map}
use Rattle.swiftdeps.specs.Written.{file_texts, Adds}
use Rattle.swiftdeps.proofs.names.add_files.Given as goal

abbrev pub invariant-loop-file : goal.invariant-loop-file
invariant-loop-file l = Adds (flat_map file_texts (take l.file-index l.files)) l.initial.texts l.texts
