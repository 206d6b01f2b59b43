-- What stands in a compiled file.
use Rattle.std.proofs.Common.{◌≡◌, ◌∙◌, ℕ, List, [], ◌∷◌, map, refl, ap, Option, Some, option_map}
use Rattle.dep_key.specs.declared.key.Key.{Key}
use Rattle.type_rules.specs.declared.meaning.Meaning.{Meaning}
use Rattle.typed_code.specs.declared.units.Unit.{Unit as CodeUnit}
use Rattle.expr_check.specs.declared.line.Line.{Line}
use Rattle.body_check.specs.Files.{file_errors, file_units, file_uses}
use Rattle.file_nodes.specs.Graphs.{graph_of}
use Rattle.iface_print.specs.Partials.{partial_text}
use Rattle.object_emit.specs.Objects.{object_text}
use Rattle.module_compile.specs.declared.compiled.FileTexts.{FileTexts}
use Rattle.dep_key.specs.declared.graph.FileGraph.{FileGraph}
use Rattle.dep_key.specs.Digests.{digested}
use Rattle.swift_ast.specs.declared.declarations.FileTree.{FileTree}
use Rattle.type_infer.specs.Meanings.{meaning_in}
use Rattle.module_compile.specs.Compiled.{compiled_in, compiled_with, graph_with, outcome_as, texts_as}
use Rattle.module_compile.specs.ModuleGraph.{recorded_graph}
use Rattle.module_compile.specs.declared.compiled.CompiledFile.{CompiledFile}

-- the graph of a file stands under its path
pub compiled_path : (files : List FileTree) (file : FileTree) → (compiled_in files file).graph.path ≡ file.path
unfolding compiled_in
compiled_path files file = refl

graph_is : (files : List FileTree) (file : FileTree) → (compiled_in files file).graph ≡ graph_with (meaning_in files) file
unfolding compiled_in
graph_is files file = refl

graphs_are : (files listed : List FileTree) → map digested (map (λ (c : CompiledFile). c.graph) (map (compiled_in files) listed)) ≡ map digested (map (graph_with (meaning_in files)) listed)
graphs_are files [] = refl
graphs_are files (file ∷ listed) = λ i. digested (graph_is files file i) ∷ graphs_are files listed i

-- the graphs of compiled files, digested, are those that priors record
pub recorded_are : (files : List FileTree) → map digested (map (λ (c : CompiledFile). c.graph) (map (compiled_in files) files)) ≡ recorded_graph files
recorded_are files = graphs_are files files

some_is : {A : Type 0} (a b : A) → Some a ≡ Some b → a ≡ b
some_is a b e = cc

-- the texts of a file that a module has
pub texts_are : (meanings : Key → Meaning) (path : List ℕ) (units : List CodeUnit) (found : Option FileTree) (file : FileTree) (texts : FileTexts) → found ≡ Some file → texts.object ≡ object_text meanings path units
    → Some texts.partial ≡ option_map (partial_text meanings) found → texts ≡ texts_as meanings path units file
texts_are meanings path units found file texts here object partial =
    let same : texts.partial ≡ partial_text meanings file = some_is texts.partial (partial_text meanings file) (partial ∙ ap (option_map (partial_text meanings)) here) in
    (λ i. record { object = object i; partial = same i })

-- a file that was checked, compiled
pub compiled_is : (meanings : Key → Meaning) (file : FileTree) (found : Option FileTree) (made : CompiledFile) (path : List ℕ) (errors : List Line) (units : List CodeUnit) (uses : List Key)
    → found ≡ Some file → path ≡ file.path → errors ≡ file_errors meanings file → units ≡ file_units meanings file → uses ≡ file_uses meanings file
    → made.outcome ≡ outcome_as meanings path errors units file → Some made.graph ≡ option_map (graph_of meanings uses) found → made ≡ compiled_with meanings file
compiled_is meanings file found made path errors units uses here at err un us outcome graph =
    let graph_is : made.graph ≡ graph_of meanings uses file = some_is made.graph (graph_of meanings uses file) (graph ∙ ap (option_map (graph_of meanings uses)) here) in
    (λ i. record {
      outcome = (outcome ∙ (λ j. outcome_as meanings (at j) (err j) (un j) file)) i;
      graph = (graph_is ∙ (λ j. graph_of meanings (us j) file)) i;
    })

-- files that were compiled with the meanings of a module's files
pub with_meanings : (files meant : List FileTree) (made : List CompiledFile) → meant ≡ files → made ≡ map (compiled_with (meaning_in meant)) files → made ≡ map (compiled_in files) files
unfolding compiled_in
with_meanings files meant made is e = e ∙ (λ i. map (compiled_with (meaning_in (is i))) files)
