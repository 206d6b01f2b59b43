-- What a complete run skips: outside every closed set of a change of a module, recorded nodes and compiled files stay what they were.
use Rattle.std.specs.Prelude.{◌≡◌, ℕ, nat_eq, Bool, false, List, [], Option, Some, None, find}
use Rattle.std.specs.Cmp.Lexicographic.{pointwise}
use Rattle.queries.specs.Queries.{Among}
use Rattle.dep_key.specs.declared.key.Key.{Key}
use Rattle.dep_key.specs.declared.graph.FileGraph.{FileGraph}
use Rattle.dep_key.specs.declared.graph.Node.{Node}
use Rattle.swift_ast.specs.declared.declarations.FileTree.{FileTree}
use Rattle.type_infer.specs.Plain.{HasPlainNames}
use Rattle.file_nodes.specs.Laws.{AreByPath}
use Rattle.module_compile.specs.Compiled.{compiled_in}
use Rattle.module_compile.specs.ModuleGraph.{module_graph}
use Rattle.module_coverage.specs.Laws.{DigestsTell}
use Rattle.waves.specs.Builds.{IsClosed, IsCovered}
use Rattle.wave_coverage.specs.Modules.{module_change}

-- the nodes of a file, and none where there is no file
abbrev pub nodes_or_none : Option FileGraph → List Node
nodes_or_none None = []
nodes_or_none (Some file) = file.nodes

-- The prints themselves of the nodes of the file at a path, and none where the module has no such file.
abbrev pub printed_at : List FileTree → List ℕ → List Node
printed_at trees path = nodes_or_none (find (λ (file : FileGraph). pointwise nat_eq file.path path) (module_graph trees))

-- A module and the one that it became: names are words, paths ascend, each file that isn't among the first stands unchanged in both, and digests tell
-- the prints of both apart.
pub record Became (was now : List FileTree) (first : List ℕ → Bool) : Type 0 where
  pub plain_before : HasPlainNames was
  pub plain_now : HasPlainNames now
  pub ascending_before : AreByPath was
  pub ascending_now : AreByPath now
  pub unchanged : (f : FileTree) → Among now f → first f.path ≡ false → Among was f
  pub told : (path : List ℕ) (key : Key) → DigestsTell (printed_at was path) (printed_at now path) key

-- Outside every closed set the recorded nodes are the same in both.
abbrev pub ChangesAreCovered : Type 0
ChangesAreCovered = (was now : List FileTree) (first : List ℕ → Bool) → Became was now first → IsCovered (module_change was now first)

-- Outside every closed set a file stood in the module before, and is compiled to the same: errors, texts and graph.
abbrev pub OthersAreAlike : Type 0
OthersAreAlike = (was now : List FileTree) (first : List ℕ → Bool) → Became was now first → (set : List ℕ → Bool) → IsClosed (module_change was now first) set →
    (f : FileTree) → Among now f → set f.path ≡ false → Among was f × (compiled_in was f ≡ compiled_in now f)
