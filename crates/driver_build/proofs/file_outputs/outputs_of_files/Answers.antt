use Rattle.std.proofs.Common.{arith, ◌≡◌, ◌∙◌, ◌+◌, ◌<◌, List, ◌++◌, ◌∷◌, drop, length, refl, sym, ap, subst}
use Rattle.std.specs.Vec.Iter.{into_iter_items}
use Rattle.disk_commit.specs.declared.files.File.{File}
use Rattle.project_sources.proofs.ParsedLemmas.{item_first}
use Rattle.driver_build.specs.Outputs.{AreFileOutputs, AreOutputsOfFiles}
use Rattle.driver_build.proofs.OutputsLemmas.{all_outputs, outputs_step}
use Rattle.driver_build.proofs.file_outputs.outputs_of_files.Goals as goal

pub loop-file-preserved : goal.loop-file-preserved
loop-file-preserved c =
    let next : into_iter_items c.loop-file.file-iterator ≡ c.in-Some.file ∷ into_iter_items c.next.new.self = c.in-Some.ensures.steps.0 in
    let count : length (into_iter_items c.loop-file.file-iterator) ≡ length (into_iter_items c.next.new.self) + 1 = ap length next ∙ omega arith in
    let here : drop c.loop-file.place c.args.names.now ≡ c.index-names-place.result ∷ drop (c.loop-file.place + 1) c.args.names.now =
    item_first c.args.names.now c.loop-file.place c.index-names-place.result (omega (arith, count, c.loop-file.invariant.place)) (sym c.index-names-place.is) in
    record {
      outputs = outputs_step c.args.names.now c.loop-file.place c.index-names-place.result c.args.files.items c.in-Some.file (into_iter_items c.next.new.self) c.loop-file.made.items c.in_ok-own.own.items c.append.new.self.items here c.in_ok-own.ensures c.in_ok-append.ensures.items
          (subst (λ fs. (rest : List File) → AreOutputsOfFiles (drop c.loop-file.place c.args.names.now) fs rest → AreOutputsOfFiles c.args.names.now c.args.files.items (c.loop-file.made.items ++ rest)) next c.loop-file.invariant.outputs);
      place = omega (arith, count, c.loop-file.invariant.place);
    }

pub returns : goal.returns
returns c = all_outputs c.args.names.now c.loop-file.place c.args.files.items (into_iter_items c.loop-file.file-iterator) c.loop-file.made.items (omega (arith, c.in-None.ensures.steps.0)) c.loop-file.invariant.outputs
