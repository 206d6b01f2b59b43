-- What a file provides and uses: a node for each of its keys, and one for its implementation.
use Rattle.std.specs.Prelude.{ℕ, List, [], ◌∷◌, ◌++◌, map, filter, flat_map, Option, Some, None}
use Rattle.queries.specs.Queries.{dependencies, value_with}
use Rattle.checks.specs.Logs.{set_of}
use Rattle.dep_key.specs.declared.key.Key.{Key}
use Rattle.dep_key.specs.declared.graph.Node.{Node}
use Rattle.dep_key.specs.declared.graph.FileGraph.{FileGraph}
use Rattle.dep_key.specs.KeyOrder.{key_order}
use Rattle.dep_key.specs.KeyBuilders.{source_file}
use Rattle.swift_ast.specs.declared.declarations.FileTree.{FileTree}
use Rattle.decl_index.specs.Declarations.{Declaration, declarations_in}
use Rattle.type_rules.specs.declared.meaning.Meaning.{Meaning}
use Rattle.type_infer.specs.Meanings.{has_key}
use Rattle.iface_print.specs.Prints.{lines_of}
use Rattle.iface_print.specs.Nodes.{node_query}

-- the keys of a file's declarations, ascending and each once
unfoldable pub node_keys : FileTree → List Key
node_keys f = set_of key_order (flat_map (λ d. d.keys) (declarations_in f))

-- the declarations of a file that have a key, in order
abbrev pub declaring : FileTree → Key → List Declaration
declaring f key = filter (has_key key) (declarations_in f)

abbrev pub text_or_empty : Option (List ℕ) → List ℕ
text_or_empty None = []
text_or_empty (Some text) = text

-- the prints of a key's declarations, with a line feed between them
unfoldable pub node_print : (Key → Meaning) → FileTree → Key → List ℕ
node_print meanings f key = text_or_empty (lines_of (map (λ d. value_with meanings (node_query key d)) (declaring f key)))

-- what the key's declarations ask, ascending and each once
unfoldable pub node_uses : (Key → Meaning) → FileTree → Key → List Key
node_uses meanings f key = set_of key_order (flat_map (λ d. dependencies meanings (node_query key d)) (declaring f key))

-- The node of a key of a file.
abbrev pub node_of : (Key → Meaning) → FileTree → Key → Node
node_of meanings f key = record { key = key; print = node_print meanings f key; uses = node_uses meanings f key }

-- The node of what a file needs itself: nobody sees anything of it.
abbrev pub implementation_node : List ℕ → List Key → Node
implementation_node path uses = record { key = source_file path; print = []; uses = uses }

-- The graph of a file whose implementation has these uses: the nodes of its keys, ascending, and that of its implementation.
abbrev pub graph_of : (Key → Meaning) → List Key → FileTree → FileGraph
graph_of meanings implementation f = record { path = f.path; nodes = map (node_of meanings f) (node_keys f) ++ implementation_node f.path implementation ∷ [] }
