-- What a build makes of the results of its files: the outputs of each compiled file without errors, and those of the module.
use Rattle.std.specs.Prelude.{◌≡◌, ℕ, Bool, true, false, List, [], ◌∷◌, ◌++◌}
use Rattle.std.specs.List.{list_all}
use Rattle.build_record.specs.Format.{record_text}
use Rattle.build_record.specs.declared.record.BuildRecord.{BuildRecord}
use Rattle.build_record.specs.declared.record.FileState.{FileState}
use Rattle.dep_key.specs.declared.graph.FileGraph.{FileGraph}
use Rattle.disk_commit.specs.declared.files.File.{File}
use Rattle.drv_outside.specs.declared.types.Entry.{Entry}
use Rattle.file_map.specs.declared.names.FileNames.{FileNames}
use Rattle.module_compile.specs.declared.compiled.FileTexts.{FileTexts}
use Rattle.module_compile.specs.declared.compiled.Outcome.{Outcome}
use Rattle.module_compile.specs.declared.compiled.Outcome.TheVariants.{Texts, Errors}
use Rattle.module_merge.specs.Image.{IsImage}
use Rattle.module_merge.specs.Module.{IsMergedModule}
use Rattle.swiftdeps.specs.Written.{IsWritten}
use Rattle.driver_build.specs.Wanted.{Wanted}
use Rattle.driver_build.specs.Results.{is_clean, objects_of, partials_of}
use Rattle.driver_build.specs.declared.results.FileResult.{FileResult}
use Rattle.driver_build.specs.declared.results.FileResult.TheVariants.{Compiled, Kept}

-- ---- the outputs of a file

abbrev pub file_named : List ℕ → List ℕ → File
file_named name bytes = record { name = name; bytes = bytes }

-- A dependency file has the graph of its file, with the prints themselves.
abbrev pub IsDependencyFile : List ℕ → FileGraph → File → Type 0
IsDependencyFile name graph made = (made.name ≡ name) × IsWritten 2 (graph ∷ []) made.bytes

-- A file without errors has its object, its partial text and its dependency file.
abbrev pub AreTextOutputs : FileNames → FileGraph → FileTexts → List File → Type 0
AreTextOutputs names graph texts made =
    (dependencies : File) × IsDependencyFile names.deps graph dependencies × (made ≡ file_named names.object texts.object ∷ file_named names.partial texts.partial ∷ dependencies ∷ [])

-- A file with errors has no outputs.
abbrev pub AreOutcomeOutputs : FileNames → FileGraph → Outcome → List File → Type 0
AreOutcomeOutputs names graph (Texts texts) made = AreTextOutputs names graph texts made
AreOutcomeOutputs names graph (Errors errors) made = made ≡ []

-- The outputs of a skipped file stand already.
abbrev pub AreFileOutputs : FileNames → FileResult → List File → Type 0
AreFileOutputs names (Compiled compiled) made = AreOutcomeOutputs names compiled.graph compiled.outcome made
AreFileOutputs names (Kept texts) made = made ≡ []

-- The outputs of files with these names, in order.
abbrev pub AreOutputsOfFiles : List FileNames → List FileResult → List File → Type 0
AreOutputsOfFiles [] files made = made ≡ []
AreOutputsOfFiles (names ∷ more) [] made = made ≡ []
AreOutputsOfFiles (names ∷ more) (file ∷ files) made =
    (own : List File) × (others : List File) × AreFileOutputs names file own × AreOutputsOfFiles more files others × (made ≡ own ++ others)

-- ---- the outputs of the module

abbrev pub IsMergedFile : Wanted → List FileResult → File → Type 0
IsMergedFile wanted files made = (made.name ≡ wanted.names.«module») × IsMergedModule wanted.«module» (partials_of files) made.bytes

abbrev pub IsImageFile : Wanted → List FileResult → File → Type 0
IsImageFile wanted files made = (made.name ≡ wanted.names.image) × IsImage wanted.«module» (objects_of files) made.bytes

abbrev pub AreLinkedFiles : Wanted → List FileResult → List File → Type 0
AreLinkedFiles wanted files made = (merged : File) × (linked : File) × IsMergedFile wanted files merged × IsImageFile wanted files linked × (made ≡ merged ∷ linked ∷ [])

abbrev pub AreModuleOutputsIf : Bool → Wanted → List FileResult → List File → Type 0
AreModuleOutputsIf true wanted files made = AreLinkedFiles wanted files made
AreModuleOutputsIf false wanted files made = made ≡ []

-- The merged module and the image, where no file has errors; else neither.
abbrev pub AreModuleOutputs : Wanted → List FileResult → List File → Type 0
AreModuleOutputs wanted files made = AreModuleOutputsIf (list_all is_clean files) wanted files made

-- The priors have the graphs of all files, those with errors among them, with a digest in place of each print.
abbrev pub IsPriorsFile : Wanted → List FileGraph → File → Type 0
IsPriorsFile wanted graphs made = (made.name ≡ wanted.names.priors) × IsWritten 3 graphs made.bytes

-- each source with its stamp, and whether it has no errors
abbrev pub file_states : List Entry → List FileResult → List FileState
file_states [] files = []
file_states (entry ∷ entries) [] = []
file_states (entry ∷ entries) (file ∷ files) = (record { path = entry.path; stamp = entry.stamp; clean = is_clean file }) ∷ file_states entries files

abbrev pub build_record_of : Wanted → List FileResult → BuildRecord
build_record_of wanted files = record { «module» = wanted.«module»; map = wanted.map; files = file_states wanted.listed files }

abbrev pub record_file : Wanted → List FileResult → File
record_file wanted files = file_named wanted.names.build_record (record_text (build_record_of wanted files))

-- All outputs but the gate, in the order in which they are written: those of the files, the merged module and the image, the
-- priors, the record.
pub record AreOutputs (wanted : Wanted) (files : List FileResult) (graphs : List FileGraph) (made : List File) : Type 0 where
  pub of_files : List File
  pub of_module : List File
  pub priors : File
  pub are_of_files : AreOutputsOfFiles wanted.names.files files of_files
  pub are_of_module : AreModuleOutputs wanted files of_module
  pub are_priors : IsPriorsFile wanted graphs priors
  pub is : made ≡ of_files ++ (of_module ++ (priors ∷ record_file wanted files ∷ []))
