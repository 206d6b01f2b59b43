-- What a build in waves leaves: each file of the module that its core has built stands compiled at its place, and no other one,
-- and the graphs are those that the core ended with.
use Rattle.std.specs.Prelude.{◌≡◌, ℕ, ◌<◌, IsSome, Bool, cond, List, [], ◌∷◌, ◌++◌, map, Option, Some, None, slice_get}
use Rattle.dep_graph.specs.Arcs.{nodes_in, nodes_or_none}
use Rattle.dep_key.specs.declared.graph.FileGraph.{FileGraph}
use Rattle.module_compile.specs.Compiled.{compiled_in}
use Rattle.module_compile.specs.declared.compiled.CompiledFile.{CompiledFile}
use Rattle.swift_ast.specs.declared.declarations.FileTree.{FileTree}
use Rattle.wave_core.specs.Cores.{Kept, Module, Follows, HasBuilt, change_of, is_among, stage_at, state_of}
use Rattle.wave_coverage.specs.Modules.{module_change, recorded_at}
use Rattle.waves.specs.Machine.{IsComplete, is_built}
use Rattle.wave_build.specs.declared.built.BuiltFiles.{BuiltFiles}

-- the path of a file, where the module has it
abbrev pub path_of : Option FileTree → List (List ℕ)
path_of None = []
path_of (Some tree) = tree.path ∷ []

-- the paths of the files of these numbers
abbrev pub paths_at : List FileTree → List ℕ → List (List ℕ)
paths_at trees [] = []
paths_at trees (number ∷ numbers) = path_of (slice_get trees number) ++ paths_at trees numbers

-- Each number stands under the path of its file.
pub record AreNumbers (trees : List FileTree) (numbers : List ℕ → Option ℕ) : Type 0 where
  pub at : (path : List ℕ) (number : ℕ) → numbers path ≡ Some number → path_of (slice_get trees number) ≡ path ∷ []

-- Each of the first files, as many as these, has a number.
pub record AreNumbered (trees : List FileTree) (numbers : List ℕ → Option ℕ) (count : ℕ) : Type 0 where
  pub each : (n : ℕ) (tree : FileTree) → n < count → slice_get trees n ≡ Some tree → IsSome (numbers tree.path)

-- whether a file was built
abbrev pub is_built_in : Kept → FileTree → Bool
is_built_in kept tree = is_built (stage_at kept.2 tree.path)

-- what a file comes to, where it was built
abbrev pub result_of : List FileTree → Kept → FileTree → Option CompiledFile
result_of trees kept tree = cond (is_built_in kept tree) (Some (compiled_in trees tree)) None

-- what a file comes to that wasn't built
abbrev pub no_result : FileTree → Option CompiledFile
no_result tree = None

-- the graph of a file as the core has it
abbrev pub graph_at : Kept → FileTree → FileGraph
graph_at kept tree = record { path = tree.path; nodes = nodes_or_none (nodes_in kept.0 tree.path) }

-- A build on its way: its core has followed the change so far, and each file that is done has its result.
pub record IsUnderWay (trees : List FileTree) (before : Module) (first : List ℕ → Bool) (kept : Kept) (results : List (Option CompiledFile)) : Type 0 where
  pub follows : Follows (change_of before (recorded_at trees) first) kept
  pub files : results ≡ map (result_of trees kept) trees

-- A core has followed the change from one module to another to its end, and this is in hand of it.
pub record IsBuiltFrom (was now : List FileTree) (first : List ℕ) (made : BuiltFiles) : Type 0 where
  pub kept : Kept
  pub follows : Follows (module_change was now (is_among (paths_at now first))) kept
  pub complete : IsComplete (state_of kept)
  pub built : HasBuilt (module_change was now (is_among (paths_at now first))) kept
  pub files : made.files.items ≡ map (result_of now kept) now
  pub graphs : made.graphs.items ≡ map (graph_at kept) now
