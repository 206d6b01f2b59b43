use Rattle.std.proofs.Common.{◌≡◌, ◌++◌, ℕ, List, drop, flat_map, nat_cmp}
use Rattle.std.specs.BTreeSet as sets
use Rattle.std.specs.Cmp.Lexicographic.{slice_cmp}
use Rattle.decl_index.specs.Declarations.{private_structs, is_among}
use Rattle.file_check.specs.Sites.{decl_keys}
use Rattle.file_check.proofs.sites.declared_names.Given as goal

abbrev pub invariant-loop-decl : goal.invariant-loop-decl
invariant-loop-decl l =
    ((name : List ℕ) → sets.contains (slice_cmp nat_cmp) l.own name ≡ is_among (private_structs l.file.decls) name) →
    l.keys.items ++ flat_map (decl_keys l.file.path (private_structs l.file.decls)) (drop l.decl-index l.decls) ≡ flat_map (decl_keys l.file.path (private_structs l.file.decls)) l.file.decls
