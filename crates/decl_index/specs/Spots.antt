-- Where the declarations of a file stand in its tree.
use Rattle.std.specs.Prelude.{ℕ, zero, suc, ◌+◌, List, [], ◌∷◌, ◌++◌, length, Option, Some, None}
use Rattle.swift_ast.specs.declared.declarations.FileTree.{FileTree}
use Rattle.swift_ast.specs.declared.declarations.Decl.{Decl}
use Rattle.swift_ast.specs.declared.declarations.Decl.TheVariants.{Named, Extension as Extended}
use Rattle.swift_ast.specs.declared.declarations.NamedDecl.{NamedDecl}
use Rattle.swift_ast.specs.declared.declarations.NamedDecl.TheVariants as named
use Rattle.decl_index.specs.declared.spots.Spot.{Spot}

abbrev pub spot : ℕ → Option ℕ → Spot
spot decl member = record { decl = decl; member = member }

-- so many members of a declaration, from one of them on
abbrev pub member_spots : ℕ → ℕ → ℕ → List Spot
member_spots decl member zero = []
member_spots decl member (suc n) = spot decl (Some member) ∷ member_spots decl (member + 1) n

abbrev pub named_member_count : NamedDecl → ℕ
named_member_count (named.Struct d) = length d.members
named_member_count (named.Global d) = 0
named_member_count (named.Func d) = 0
named_member_count (named.Alias d) = 0

abbrev pub member_count : Decl → ℕ
member_count (Named access d) = named_member_count d
member_count (Extended d) = length d.members

-- A declaration stands before its members.
abbrev pub decl_spots : ℕ → Decl → List Spot
decl_spots decl d = spot decl None ∷ member_spots decl 0 (member_count d)

-- the declarations of which the first has a number
abbrev pub spots_from : ℕ → List Decl → List Spot
spots_from decl [] = []
spots_from decl (d ∷ ds) = decl_spots decl d ++ spots_from (decl + 1) ds

-- The spots of the declarations of a file, in the order of its text.
abbrev pub file_spots : FileTree → List Spot
file_spots file = spots_from 0 file.decls
