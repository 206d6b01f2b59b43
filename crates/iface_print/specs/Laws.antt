-- What holds of the prints and the nodes of all modules.
use Rattle.std.specs.Prelude.{◌≡◌, List}
use Rattle.queries.specs.Queries.{value_with}
use Rattle.dep_key.specs.declared.key.Key.{Key}
use Rattle.swift_ast.specs.declared.declarations.FileTree.{FileTree}
use Rattle.decl_index.specs.Declarations.{Declaration}
use Rattle.type_infer.specs.Meanings.{meaning_in}
use Rattle.type_infer.specs.Plain.{HasPlainNames}
use Rattle.iface_print.specs.Prints.{print_of, PrintsFixMeanings, PrintsAreLines}
use Rattle.iface_print.specs.Nodes.{node_query}

-- in modules with plain names equal prints of a key have equal meanings
abbrev pub EqualPrintsMeanTheSame : Type 0
EqualPrintsMeanTheSame = (p s : List FileTree) → HasPlainNames p → HasPlainNames s → PrintsFixMeanings p s

-- in a module with plain names no print has a line feed
abbrev pub EachPrintIsALine : Type 0
EachPrintIsALine = (files : List FileTree) → HasPlainNames files → PrintsAreLines files

-- the value of a node is the print
abbrev pub NodesArePrints : Type 0
NodesArePrints = (files : List FileTree) (key : Key) (d : Declaration) → value_with (meaning_in files) (node_query key d) ≡ print_of key (meaning_in files key) d
