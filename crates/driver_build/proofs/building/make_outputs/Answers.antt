use Rattle.std.proofs.Common.{◌≡◌, ◌∙◌, List, map, sym, ap, subst}
use Rattle.std.specs.Prelude.{flat_map}
use Rattle.dep_key.specs.declared.graph.FileGraph.{FileGraph}
use Rattle.dep_key.specs.Digests.{digested}
use Rattle.diag_text.specs.Line.{lines_of}
use Rattle.module_compile.specs.Compiled.{compiled_in}
use Rattle.module_compile.specs.ModuleGraph.{recorded_graph}
use Rattle.module_compile.proofs.CompiledLemmas.{recorded_are}
use Rattle.driver_build.specs.Building.{errors_in}
use Rattle.driver_build.specs.CleanFolder.{clean_results}
use Rattle.driver_build.specs.Outputs.{AreOutputs}
use Rattle.driver_build.specs.Results.{graphs_of}
use Rattle.driver_build.specs.Wanted.{Wanted, wanted_of}
use Rattle.driver_build.specs.declared.results.FileResult.TheVariants.{Compiled}
use Rattle.driver_build.proofs.BuildingLemmas.{graphs_ascend, results_are}
use Rattle.driver_build.proofs.building.make_outputs.Goals as goal

pub outputs-requires-clause-ascending : goal.outputs-requires-clause-ascending
outputs-requires-clause-ascending c =
    let compiled : c.in_ok-compiled.compiled.items ≡ map (compiled_in c.args.trees.items) c.args.trees.items = c.in_ok-compiled.ensures.compiled ∙ ap (λ t. map (compiled_in t) t) c.in_ok-index.ensures.files in
    graphs_ascend c.args.entries.items c.args.trees.items c.in_ok-compiled.compiled.items c.deref-3.result.now c.requires.ascending c.requires.each compiled
    (c.deref-3.ensures.value ∙ c.in_ok-graphs.ensures ∙ ap (λ cs. map digested (graphs_of cs)) c.deref-2.ensures.value)

pub returns : goal.returns
returns c =
    let trees = c.args.trees.items in
    let compiled : c.in_ok-compiled.compiled.items ≡ map (compiled_in trees) trees = c.in_ok-compiled.ensures.compiled ∙ ap (λ t. map (compiled_in t) t) c.in_ok-index.ensures.files in
    let results : c.in_ok-results.results.items ≡ clean_results trees = c.in_ok-results.ensures ∙ ap (map Compiled) compiled ∙ results_are trees in
    let graphs : c.deref-3.result.now ≡ recorded_graph trees =
    c.deref-3.ensures.value ∙ c.in_ok-graphs.ensures ∙ ap (λ cs. map digested (graphs_of cs)) (c.deref-2.ensures.value ∙ compiled) ∙ recorded_are trees in
    record {
      made = record {
        names = ap (λ (w : Wanted). w.names) c.in_ok-asked.ensures.wanted;
        files = subst (λ gs. AreOutputs (wanted_of c.args.name.now c.args.entries.items) (clean_results trees) gs c.in_ok-files.files.items) graphs
            (subst (λ rs. AreOutputs (wanted_of c.args.name.now c.args.entries.items) rs c.deref-3.result.now c.in_ok-files.files.items) results
            (subst (λ w. AreOutputs w c.in_ok-results.results.items c.deref-3.result.now c.in_ok-files.files.items) c.in_ok-asked.ensures.wanted c.in_ok-files.ensures.outputs));
        lines = c.in_ok-lines.ensures ∙ ap (λ cs. lines_of (flat_map errors_in cs)) (c.deref.ensures.value ∙ compiled);
        distinct = c.in_ok-asked.ensures.distinct;
        plain = c.in_ok-asked.ensures.plain;
      };
    }
