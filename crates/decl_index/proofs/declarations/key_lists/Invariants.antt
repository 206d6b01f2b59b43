use Rattle.std.proofs.Common.{◌≡◌, ◌++◌, drop, map}
use Rattle.decl_index.specs.Declarations.{file_keys}
use Rattle.decl_index.proofs.declarations.key_lists.Given as goal

abbrev pub invariant-loop-file : goal.invariant-loop-file
invariant-loop-file l = l.made.items ++ map file_keys (drop l.file-index l.files) ≡ map file_keys l.files
