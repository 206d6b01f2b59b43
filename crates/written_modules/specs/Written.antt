-- What the parser gives is a written module.
use Rattle.std.specs.Prelude.{◌≡◌, ℕ, true, List, Ok}
use Rattle.queries.specs.Queries.{Among}
use Rattle.drv_outside.specs.Plain.{is_plain_path}
use Rattle.swift_ast.specs.declared.declarations.FileTree.{FileTree}
use Rattle.swift_parser.specs.Whole.{ParsesFile}
use Rattle.decl_index.specs.Declarations.{Declaration, declarations_in}
use Rattle.type_infer.specs.Plain.{IsWritten, IsWrittenModule}

-- Each declaration of the file is written with a name, and with labels that are words.
abbrev pub IsWrittenTree : FileTree → Type 0
IsWrittenTree tree = (d : Declaration) → Among (declarations_in tree) d → IsWritten d

-- Each tree that a text is parsed to is written.
abbrev pub ParsedTreesAreWritten : Type 0
ParsedTreesAreWritten = (path text : List ℕ) (tree : FileTree) → ParsesFile path text (Ok tree) → IsWrittenTree tree

-- Files at plain paths with written trees are a written module.
abbrev pub WrittenTreesAreModules : Type 0
WrittenTreesAreModules = (files : List FileTree) → ((f : FileTree) → Among files f → (is_plain_path f.path ≡ true) × IsWrittenTree f) → IsWrittenModule files
