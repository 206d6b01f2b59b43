-- A change of a module, as builds in waves see it: what the priors record of its files, and what they would record now.
use Rattle.std.specs.Prelude.{ℕ, nat_eq, Bool, List, find, option_map}
use Rattle.std.specs.Cmp.Lexicographic.{pointwise}
use Rattle.dep_key.specs.declared.key.Key.{Key}
use Rattle.dep_key.specs.declared.graph.FileGraph.{FileGraph}
use Rattle.dep_key.specs.declared.graph.Node.{Node}
use Rattle.module_compile.specs.ModuleGraph.{recorded_graph}
use Rattle.swift_ast.specs.declared.declarations.FileTree.{FileTree}
use Rattle.wave_core.specs.Cores.{Module, change_of}
use Rattle.waves.specs.Builds.{Change}

-- The nodes that priors record of the file at a path, where the module has such a file.
abbrev pub recorded_at : List FileTree → Module
recorded_at trees path = option_map (λ (file : FileGraph). file.nodes) (find (λ (file : FileGraph). pointwise nat_eq file.path path) (recorded_graph trees))

-- The change from a module to another one, where these files are built in any case.
abbrev pub module_change : List FileTree → List FileTree → (List ℕ → Bool) → Change (List ℕ) (List Node) Key (List ℕ)
module_change was now first = change_of (recorded_at was) (recorded_at now) first
