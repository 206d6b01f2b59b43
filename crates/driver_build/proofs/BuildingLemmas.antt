-- What is made of a module that is compiled whole.
use Rattle.std.proofs.Common.{◌≡◌, ℕ, List, [], ◌∷◌, ◌++◌, map, drop, length, ◌+◌, refl, sym, ap, subst, ◌∙◌, append_assoc}
use Rattle.std.specs.Prelude.{flat_map}
use Rattle.std.proofs.lemmas.List.{length-map}
use Rattle.dep_key.specs.declared.graph.FileGraph.{FileGraph}
use Rattle.dep_key.specs.Digests.{digested}
use Rattle.diag_text.specs.Line.{line_of, lines_of}
use Rattle.diag_text.specs.declared.diag.Diag.{Diag}
use Rattle.drv_outside.specs.TreeState.{AscendByPath}
use Rattle.drv_outside.specs.declared.types.Entry.{Entry}
use Rattle.file_map.specs.Assigned.{file_names}
use Rattle.project_sources.specs.Parsed.{entry_paths}
use Rattle.project_sources.specs.Reading.{tree_paths}
use Rattle.serde_json.specs.Data.{no_members}
use Rattle.swift_ast.specs.declared.declarations.FileTree.{FileTree}
use Rattle.swiftdeps.specs.Spelling.{AreAscendingTexts, paths_of}
use Rattle.module_compile.specs.Compiled.{compiled_in}
use Rattle.module_compile.specs.declared.compiled.CompiledFile.{CompiledFile}
use Rattle.module_compile.proofs.CompiledLemmas.{compiled_path}
use Rattle.driver_build.specs.Building.{errors_in}
use Rattle.driver_build.specs.CleanFolder.{clean_results}
use Rattle.driver_build.specs.Results.{graphs_of}
use Rattle.driver_build.specs.Wanted.{Wanted, wanted_of}
use Rattle.driver_build.specs.declared.results.FileResult.{FileResult}
use Rattle.driver_build.specs.declared.results.FileResult.TheVariants.{Compiled}

results_listed : (all listed : List FileTree) → map Compiled (map (compiled_in all) listed) ≡ map (λ tree. Compiled (compiled_in all tree)) listed
results_listed all [] = refl
results_listed all (tree ∷ listed) = ap (λ rs. Compiled (compiled_in all tree) ∷ rs) (results_listed all listed)

-- the results of a module that is compiled whole
pub results_are : (trees : List FileTree) → map Compiled (map (compiled_in trees) trees) ≡ clean_results trees
results_are trees = results_listed trees trees

graphs_stand : (all listed : List FileTree) → paths_of (map digested (graphs_of (map (compiled_in all) listed))) ≡ tree_paths listed
graphs_stand all [] = refl
graphs_stand all (tree ∷ listed) = λ i. compiled_path all tree i ∷ graphs_stand all listed i

-- its graphs ascend by path, as its sources do
pub graphs_ascend : (entries : List Entry) (trees : List FileTree) (compiled : List CompiledFile) (graphs : List FileGraph) → AscendByPath entries → tree_paths trees ≡ entry_paths entries
    → compiled ≡ map (compiled_in trees) trees → graphs ≡ map digested (graphs_of compiled) → AreAscendingTexts (paths_of graphs)
graphs_ascend entries trees compiled graphs ascend same made digests =
    subst (λ ps. AreAscendingTexts ps) (sym (ap paths_of digests ∙ ap (λ cs. paths_of (map digested (graphs_of cs))) made ∙ graphs_stand trees trees ∙ same)) ascend

-- each source has its names and its result
pub as_many : (name : List ℕ) (entries : List Entry) (trees : List FileTree) (compiled : List CompiledFile) (results : List FileResult) (wanted : Wanted) → tree_paths trees ≡ entry_paths entries
    → compiled ≡ map (compiled_in trees) trees → results ≡ map Compiled compiled → wanted ≡ wanted_of name entries → length results ≡ length wanted.names.files
as_many name entries trees compiled results wanted same made are is =
    ap length are ∙ length-map compiled Compiled ∙ ap length made ∙ length-map trees (compiled_in trees)
    ∙ sym (length-map trees (λ (tree : FileTree). tree.path)) ∙ ap length same ∙ sym (length-map (entry_paths entries) (file_names no_members))
    ∙ ap (λ w. length w.names.files) (sym is)

-- the lines of errors and of more
lines_append : (some more : List Diag) → lines_of (some ++ more) ≡ lines_of some ++ lines_of more
lines_append [] more = refl
lines_append (diag ∷ some) more = ap (λ l. line_of diag ++ l) (lines_append some more) ∙ sym (append_assoc (line_of diag) (lines_of some) (lines_of more))

-- the errors of one file more are printed
pub lines_step : (files : List CompiledFile) (i : ℕ) (file : CompiledFile) (text more whole : List ℕ) → drop i files ≡ file ∷ drop (i + 1) files
    → more ≡ text ++ lines_of (errors_in file) → text ++ lines_of (flat_map errors_in (drop i files)) ≡ whole
    → more ++ lines_of (flat_map errors_in (drop (i + 1) files)) ≡ whole
lines_step files i file text more whole here pushed so_far =
    let rest = flat_map errors_in (drop (i + 1) files) in
    ap (λ l. l ++ lines_of rest) pushed
    ∙ append_assoc text (lines_of (errors_in file)) (lines_of rest)
    ∙ ap (λ l. text ++ l) (sym (lines_append (errors_in file) rest))
    ∙ ap (λ fs. text ++ lines_of (flat_map errors_in fs)) (sym here)
    ∙ so_far
