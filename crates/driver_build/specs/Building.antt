-- What a build of a module makes before it writes.
use Rattle.std.specs.Prelude.{◌≡◌, ℕ, List, [], map, flat_map, All, IsTrue}
use Rattle.diag_text.specs.Line.{lines_of}
use Rattle.diag_text.specs.declared.diag.Diag.{Diag}
use Rattle.drv_outside.specs.Plain.{is_plain_name}
use Rattle.drv_outside.specs.declared.types.Entry.{Entry}
use Rattle.file_map.specs.Assigned.{all_names}
use Rattle.file_map.specs.Repeated.{AreDistinct}
use Rattle.module_compile.specs.Compiled.{compiled_in}
use Rattle.module_compile.specs.ModuleGraph.{recorded_graph}
use Rattle.module_compile.specs.declared.compiled.CompiledFile.{CompiledFile}
use Rattle.module_compile.specs.declared.compiled.Outcome.{Outcome}
use Rattle.module_compile.specs.declared.compiled.Outcome.TheVariants.{Texts, Errors}
use Rattle.swift_ast.specs.declared.declarations.FileTree.{FileTree}
use Rattle.driver_build.specs.CleanFolder.{clean_results}
use Rattle.driver_build.specs.Outputs.{AreOutputs}
use Rattle.driver_build.specs.Wanted.{wanted_of}
use Rattle.driver_build.specs.declared.building.Made.{Made}

abbrev pub errors_of_outcome : Outcome → List Diag
errors_of_outcome (Texts texts) = []
errors_of_outcome (Errors errors) = errors

abbrev pub errors_in : CompiledFile → List Diag
errors_in file = errors_of_outcome file.outcome

-- the errors of a module's files, in order of file
abbrev pub module_errors : List FileTree → List Diag
module_errors trees = flat_map errors_in (map (compiled_in trees) trees)

-- The outputs of a module with these sources, which have these trees; the names are plain, and none is given twice.
pub record AreMade (name : List ℕ) (entries : List Entry) (trees : List FileTree) (made : Made) : Type 0 where
  pub names : made.names ≡ (wanted_of name entries).names
  pub files : AreOutputs (wanted_of name entries) (clean_results trees) (recorded_graph trees) made.files.items
  pub lines : made.lines.items ≡ lines_of (module_errors trees)
  pub distinct : AreDistinct (all_names made.names)
  pub plain : All (λ n. IsTrue (is_plain_name n)) (all_names made.names)
