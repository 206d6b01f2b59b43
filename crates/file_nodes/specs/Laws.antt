-- What holds of the graphs of all files.
use Rattle.std.specs.Prelude.{◌≡◌, ◌↔◌, true, List, map}
use Rattle.std.specs.List.Sorted.{IsStrictlySortedBy}
use Rattle.std.specs.Ordering.{nat_cmp}
use Rattle.std.specs.Cmp.Lexicographic.{slice_cmp}
use Rattle.queries.specs.Queries.{Among}
use Rattle.dep_key.specs.declared.key.Key.{Key}
use Rattle.dep_key.specs.GraphOrder.{AreAscending, AreInOrder}
use Rattle.dep_key.specs.Moved.{print_of, uses_of}
use Rattle.swift_ast.specs.declared.declarations.FileTree.{FileTree}
use Rattle.type_rules.specs.declared.meaning.Meaning.{Meaning}
use Rattle.type_infer.specs.Meanings.{meaning_in}
use Rattle.type_infer.specs.Sound.{is_asked_kind}
use Rattle.iface_print.specs.Prints.{print_in}
use Rattle.iface_print.specs.Coverage.{IsUse}
use Rattle.file_nodes.specs.Graphs.{graph_of}

-- the nodes are in order of their keys, and the uses of each node ascend
abbrev pub GraphsAreInOrder : Type 0
GraphsAreInOrder = (meanings : Key → Meaning) (uses : List Key) (f : FileTree) → AreAscending uses → AreInOrder (graph_of meanings uses f).nodes

-- the files of a module stand in order of their paths, each path once
abbrev pub AreByPath : List FileTree → Type 0
AreByPath files = IsStrictlySortedBy (slice_cmp nat_cmp) (map (λ f. f.path) files)

-- the nodes of a file have the prints of its keys
abbrev pub NodesHavePrints : Type 0
NodesHavePrints = (files : List FileTree) → AreByPath files → (f : FileTree) → Among files f → (uses : List Key) (key : Key) → is_asked_kind key.kind ≡ true →
    print_of (graph_of (meaning_in files) uses f).nodes key ≡ print_in files f.path key

-- and what they use are the uses of the file
abbrev pub NodesHaveUses : Type 0
NodesHaveUses = (files : List FileTree) (implementation : FileTree → List Key) (f : FileTree) (use_of : Key) →
    Among (uses_of (graph_of (meaning_in files) (implementation f) f).nodes) use_of ↔ IsUse implementation files f use_of
