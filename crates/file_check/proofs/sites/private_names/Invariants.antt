use Rattle.std.proofs.Common.{◌≡◌, ◌++◌, drop}
use Rattle.decl_index.specs.Declarations.{private_structs}
use Rattle.file_check.proofs.sites.private_names.Given as goal

abbrev pub invariant-loop-decl : goal.invariant-loop-decl
invariant-loop-decl l = l.names.items ++ private_structs (drop l.decl-index l.decls) ≡ private_structs l.decls
