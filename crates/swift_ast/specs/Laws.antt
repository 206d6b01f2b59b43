-- What holds of the grammar.
use Rattle.std.specs.Prelude.{◌≡◌, List}
use Rattle.grammar.specs.Levels.{Balanced}
use Rattle.grammar.specs.Whole.{IsWhole}
use Rattle.swift_ast.specs.Leaves.{Leaf}
use Rattle.swift_ast.specs.Tests.{on, opens_level, closes_level}
use Rattle.swift_ast.specs.Expressions.{expr_form}
use Rattle.swift_ast.specs.Statements.{block_form}
use Rattle.swift_ast.specs.Declarations.{decls_form}

-- no two lists of declarations have the same tokens
abbrev pub FileHasOneTree : Type 0
FileHasOneTree = (ts : List Leaf) → (v w : IsWhole decls_form ts) → v.0 ≡ w.0

-- no two expressions do
abbrev pub ExpressionHasOneTree : Type 0
ExpressionHasOneTree = (ts : List Leaf) → (v w : IsWhole expr_form ts) → v.0 ≡ w.0

-- no two blocks do
abbrev pub BlockHasOneTree : Type 0
BlockHasOneTree = (ts : List Leaf) → (v w : IsWhole block_form ts) → v.0 ≡ w.0

-- the declarations of a file close the brackets that they open
abbrev pub FileClosesBrackets : Type 0
FileClosesBrackets = Balanced (on opens_level) (on closes_level) decls_form
