-- The graph of a module: that of each of its files.
use Rattle.std.specs.Prelude.{ℕ, nat_eq, List, map, filter, Option, Some, None, [], ◌∷◌}
use Rattle.std.specs.Cmp.Lexicographic.{pointwise}
use Rattle.dep_key.specs.declared.graph.FileGraph.{FileGraph}
use Rattle.dep_key.specs.declared.graph.Node.{Node}
use Rattle.dep_key.specs.Digests.{digested}
use Rattle.type_infer.specs.Meanings.{meaning_in}
use Rattle.swift_ast.specs.declared.declarations.FileTree.{FileTree}
use Rattle.module_compile.specs.Compiled.{graph_with}

-- the graph of each file, with prints
abbrev pub module_graph : List FileTree → List FileGraph
module_graph files = map (graph_with (meaning_in files)) files

-- the graph that priors record: digests stand for prints
abbrev pub recorded_graph : List FileTree → List FileGraph
recorded_graph files = map digested (module_graph files)

abbrev pub first_nodes : List FileGraph → List Node
first_nodes [] = []
first_nodes (graph ∷ graphs) = graph.nodes

-- the recorded nodes of the file at a path, and none where there is no such file
abbrev pub recorded_nodes : List FileTree → List ℕ → List Node
recorded_nodes files path = first_nodes (filter (λ graph. pointwise nat_eq graph.path path) (recorded_graph files))
