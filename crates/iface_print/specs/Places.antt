-- The declarations of a file by its number.
use Rattle.std.specs.Prelude.{ℕ, List, [], Option, Some, None}
use Rattle.std.specs.List.{slice_get}
use Rattle.swift_ast.specs.declared.declarations.FileTree.{FileTree}
use Rattle.decl_index.specs.Declarations.{Declaration, declarations_in}

abbrev pub declarations_if : Option FileTree → List Declaration
declarations_if None = []
declarations_if (Some f) = declarations_in f

-- the declarations of the file of a number, and none where there is no such file
abbrev pub declarations_of : List FileTree → ℕ → List Declaration
declarations_of files number = declarations_if (slice_get files number)
