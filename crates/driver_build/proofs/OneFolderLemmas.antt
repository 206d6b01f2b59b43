-- A module has one clean folder.
use Rattle.std.proofs.Common.{◌≡◌, ◌∙◌, ℕ, Bool, true, false, List, [], ◌∷◌, ◌++◌, refl, sym, ap}
use Rattle.std.specs.List.{list_all}
use Rattle.dep_key.specs.declared.graph.FileGraph.{FileGraph}
use Rattle.disk_commit.specs.Change.{opened_folder}
use Rattle.disk_commit.specs.declared.files.File.{File}
use Rattle.file_map.specs.declared.names.FileNames.{FileNames}
use Rattle.module_compile.specs.declared.compiled.Outcome.{Outcome}
use Rattle.module_compile.specs.declared.compiled.Outcome.TheVariants.{Texts, Errors}
use Rattle.module_merge.proofs.TextLawLemmas.{one_merged, one_image}
use Rattle.swiftdeps.proofs.OneSpellingLaws.{one_written}
use Rattle.module_compile.specs.ModuleGraph.{recorded_graph}
use Rattle.driver_build.specs.CleanFolder.{clean_results}
use Rattle.driver_build.specs.Laws.{CleanFolderIsOne}
use Rattle.driver_build.specs.Outputs.{AreOutputs, AreOutputsOfFiles, AreFileOutputs, AreOutcomeOutputs, AreModuleOutputsIf, IsDependencyFile, IsImageFile, IsMergedFile, IsPriorsFile, file_named, record_file}
use Rattle.driver_build.specs.Results.{is_clean, objects_of, partials_of}
use Rattle.driver_build.specs.Wanted.{Wanted}
use Rattle.driver_build.specs.declared.results.FileResult.{FileResult}
use Rattle.driver_build.specs.declared.results.FileResult.TheVariants.{Compiled, Kept}

-- files of one name and the same bytes
same_file : (a b : File) → a.name ≡ b.name → a.bytes ≡ b.bytes → a ≡ b
same_file a b named same = λ i. record { name = named i; bytes = same i }

one_dependencies : (name : List ℕ) (graph : FileGraph) (a b : File) → IsDependencyFile name graph a → IsDependencyFile name graph b → a ≡ b
one_dependencies name graph a b p q = same_file a b (p.0 ∙ sym q.0) (one_written 2 (graph ∷ []) a.bytes b.bytes p.1 q.1)

one_outcome : (names : FileNames) (graph : FileGraph) (outcome : Outcome) (a b : List File) → AreOutcomeOutputs names graph outcome a → AreOutcomeOutputs names graph outcome b → a ≡ b
one_outcome names graph (Texts texts) a b p q =
    p.2 ∙ ap (λ d. file_named names.object texts.object ∷ file_named names.partial texts.partial ∷ d ∷ []) (one_dependencies names.deps graph p.0 q.0 p.1 q.1) ∙ sym q.2
one_outcome names graph (Errors errors) a b p q = p ∙ sym q

one_result : (names : FileNames) (file : FileResult) (a b : List File) → AreFileOutputs names file a → AreFileOutputs names file b → a ≡ b
one_result names (Compiled compiled) a b p q = one_outcome names compiled.graph compiled.outcome a b p q
one_result names (Kept texts) a b p q = p ∙ sym q

one_of_files : (names : List FileNames) (files : List FileResult) (a b : List File) → AreOutputsOfFiles names files a → AreOutputsOfFiles names files b → a ≡ b
one_of_files [] files a b p q = p ∙ sym q
one_of_files (names ∷ more) [] a b p q = p ∙ sym q
one_of_files (names ∷ more) (file ∷ files) a b p q =
    let own : p.0 ≡ q.0 = one_result names file p.0 q.0 p.2 q.2 in
    let others : p.1 ≡ q.1 = one_of_files more files p.1 q.1 p.3 q.3 in
    p.4 ∙ (λ i. own i ++ others i) ∙ sym q.4

one_of_module : (linked : Bool) (wanted : Wanted) (files : List FileResult) (a b : List File) → AreModuleOutputsIf linked wanted files a → AreModuleOutputsIf linked wanted files b → a ≡ b
one_of_module true wanted files a b p q =
    let merged : p.0 ≡ q.0 = same_file p.0 q.0 (p.2.0 ∙ sym q.2.0) (one_merged wanted.«module» (partials_of files) p.0.bytes q.0.bytes p.2.1 q.2.1) in
    let image : p.1 ≡ q.1 = same_file p.1 q.1 (p.3.0 ∙ sym q.3.0) (one_image wanted.«module» (objects_of files) p.1.bytes q.1.bytes p.3.1 q.3.1) in
    p.4 ∙ (λ i. merged i ∷ image i ∷ []) ∙ sym q.4
one_of_module false wanted files a b p q = p ∙ sym q

one_priors : (wanted : Wanted) (graphs : List FileGraph) (a b : File) → IsPriorsFile wanted graphs a → IsPriorsFile wanted graphs b → a ≡ b
one_priors wanted graphs a b p q = same_file a b (p.0 ∙ sym q.0) (one_written 3 graphs a.bytes b.bytes p.1 q.1)

-- The outputs of the same results are the same.
pub one_outputs : (wanted : Wanted) (files : List FileResult) (graphs : List FileGraph) (a b : List File) → AreOutputs wanted files graphs a → AreOutputs wanted files graphs b → a ≡ b
one_outputs wanted files graphs a b p q =
    let of_files : p.of_files ≡ q.of_files = one_of_files wanted.names.files files p.of_files q.of_files p.are_of_files q.are_of_files in
    let of_module : p.of_module ≡ q.of_module = one_of_module (list_all is_clean files) wanted files p.of_module q.of_module p.are_of_module q.are_of_module in
    let priors : p.priors ≡ q.priors = one_priors wanted graphs p.priors q.priors p.are_priors q.are_priors in
    p.is ∙ (λ i. of_files i ++ (of_module i ++ (priors i ∷ record_file wanted files ∷ []))) ∙ sym q.is

pub one_folder : CleanFolderIsOne
one_folder wanted trees one other p q = p.is ∙ ap (opened_folder wanted.names.gate) (one_outputs wanted (clean_results trees) (recorded_graph trees) p.outputs q.outputs p.are q.are) ∙ sym q.is
