use Rattle.std.proofs.Common.{◌≡◌, ◌++◌, drop, flat_map}
use Rattle.decl_index.specs.Declarations.{keys_of, decl_declarations, private_structs}
use Rattle.decl_index.proofs.declarations.declared_keys.Given as goal

abbrev pub invariant-loop-decl : goal.invariant-loop-decl
invariant-loop-decl l =
    l.made.items ++ keys_of (flat_map (decl_declarations l.file.path (private_structs l.file.decls)) (drop l.decl-index l.decls))
    ≡ keys_of (flat_map (decl_declarations l.file.path (private_structs l.file.decls)) l.file.decls)
