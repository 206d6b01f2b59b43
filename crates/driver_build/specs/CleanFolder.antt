-- The build folder of a module as a build from nothing leaves it, with status 0 and with status 1.
--
-- It has all outputs of the files without errors, the priors and the record of all files, and the gate, which is open. Where no
-- file has errors, the merged module and the image are there too. It has no other name.
use Rattle.std.specs.Prelude.{◌≡◌, List, map}
use Rattle.disk_commit.specs.Change.{opened_folder}
use Rattle.disk_commit.specs.declared.files.File.{File}
use Rattle.drv_outside.specs.TreeState.{Folder}
use Rattle.module_compile.specs.Compiled.{compiled_in}
use Rattle.module_compile.specs.ModuleGraph.{recorded_graph}
use Rattle.swift_ast.specs.declared.declarations.FileTree.{FileTree}
use Rattle.driver_build.specs.Wanted.{Wanted}
use Rattle.driver_build.specs.Outputs.{AreOutputs}
use Rattle.driver_build.specs.declared.results.FileResult.{FileResult}
use Rattle.driver_build.specs.declared.results.FileResult.TheVariants.{Compiled}

-- each file of a module, compiled
abbrev pub clean_results : List FileTree → List FileResult
clean_results trees = map (λ tree. Compiled (compiled_in trees tree)) trees

-- The clean folder of a module with these trees, which are those of the listed sources.
pub record IsCleanFolder (wanted : Wanted) (trees : List FileTree) (folder : Folder) : Type 0 where
  pub outputs : List File
  pub are : AreOutputs wanted (clean_results trees) (recorded_graph trees) outputs
  pub is : folder ≡ opened_folder wanted.names.gate outputs
