use Rattle.std.proofs.Common.{◌≡◌, ◌++◌, drop}
use Rattle.type_infer.specs.Meanings.{module_keys}
use Rattle.decl_meaning.proofs.meanings.module_keys.Given as goal

abbrev pub invariant-loop-file : goal.invariant-loop-file
invariant-loop-file l = l.keys.items ++ module_keys (drop l.file-index l.files) ≡ module_keys l.files
