-- What a build has in hand of its files.
use Rattle.std.specs.Prelude.{ℕ, Bool, List, [], ◌∷◌, map, flat_map, Option, Some, None, is_some}
use Rattle.dep_key.specs.declared.graph.FileGraph.{FileGraph}
use Rattle.module_compile.specs.declared.compiled.CompiledFile.{CompiledFile}
use Rattle.module_compile.specs.declared.compiled.FileTexts.{FileTexts}
use Rattle.module_compile.specs.declared.compiled.Outcome.{Outcome}
use Rattle.module_compile.specs.declared.compiled.Outcome.TheVariants.{Texts, Errors}
use Rattle.driver_build.specs.declared.results.FileResult.{FileResult}
use Rattle.driver_build.specs.declared.results.FileResult.TheVariants.{Compiled, Kept}

abbrev pub texts_of_outcome : Outcome → Option FileTexts
texts_of_outcome (Texts texts) = Some texts
texts_of_outcome (Errors errors) = None

-- the texts of a file, where it has no errors
abbrev pub texts_in : FileResult → Option FileTexts
texts_in (Compiled compiled) = texts_of_outcome compiled.outcome
texts_in (Kept texts) = Some texts

-- A file has no errors.
abbrev pub is_clean : FileResult → Bool
is_clean file = is_some (texts_in file)

abbrev pub listed_texts : Option FileTexts → List FileTexts
listed_texts None = []
listed_texts (Some texts) = texts ∷ []

abbrev pub object_in : FileResult → List (List ℕ)
object_in file = map (λ (texts : FileTexts). texts.object) (listed_texts (texts_in file))

abbrev pub partial_in : FileResult → List (List ℕ)
partial_in file = map (λ (texts : FileTexts). texts.partial) (listed_texts (texts_in file))

-- the objects and the partial texts of the files without errors, in order
abbrev pub objects_of : List FileResult → List (List ℕ)
objects_of files = flat_map object_in files

abbrev pub partials_of : List FileResult → List (List ℕ)
partials_of files = flat_map partial_in files

-- the graphs of compiled files, with the prints themselves; files with errors have theirs
abbrev pub graphs_of : List CompiledFile → List FileGraph
graphs_of files = map (λ (file : CompiledFile). file.graph) files
