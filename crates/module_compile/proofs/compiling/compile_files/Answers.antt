use Rattle.std.proofs.Common.{◌≡◌, ◌∙◌, ◌+◌, [], ◌∷◌, ◌++◌, Some, map, drop, suc, add-one, refl, sym, ap, subst, append_assoc}
use Rattle.std.proofs.Math.Seq.{drop-cons}
use Rattle.std.proofs.lemmas.List.Elements.{All-push}
use Rattle.std.proofs.lemmas.Option.{slice_get_read}
use Rattle.std.specs.List.{All, slice_get}
use Rattle.dep_key.specs.GraphOrder.{AreInOrder}
use Rattle.module_compile.specs.Compiled.{compiled_with}
use Rattle.module_compile.specs.declared.compiled.CompiledFile.{CompiledFile}
use Rattle.module_compile.proofs.compiling.compile_files.Goals as goal

pub loop-place-preserved : goal.loop-place-preserved
loop-place-preserved g c =
    let f = compiled_with (g.A.Answers.meanings c.args.answers.now) in
    let files = c.files-files.result.now in
    let place = c.loop-place.place in
    let file = c.index-files-place.result in
    let here : drop place files ≡ file ∷ drop (place + 1) files = rw add-one (drop-cons files place file c.loop-place-test.true ∙ ap (λ x. x ∷ drop (suc place) files) (sym c.index-files-place.is)) in
    let found : slice_get files place ≡ Some file = slice_get_read files _ place file refl c.loop-place-test.true c.index-files-place.is in
    let at : slice_get c.args.index.now c.in_ok-number.number ≡ Some file = (λ i. slice_get (sym c.files-files.ensures.files i) (c.in_ok-number.ensures i)) ∙ found in
    let one : c.in_ok-one.one ≡ f file = c.in_ok-one.ensures.compiled at in
    let pushed : c.push.new.self.items ≡ c.loop-place.made.items ++ c.in_ok-one.one ∷ [] = c.in_ok-push.ensures.items in
    record {
      compiled =
          ap (λ m. m ++ map f (drop (place + 1) files)) pushed
          ∙ append_assoc c.loop-place.made.items (c.in_ok-one.one ∷ []) (map f (drop (place + 1) files))
          ∙ (λ i. c.loop-place.made.items ++ one i ∷ map f (drop (place + 1) files))
          ∙ ap (λ xs. c.loop-place.made.items ++ map f xs) (sym here)
          ∙ c.loop-place.invariant.compiled;
      ordered = subst (λ xs. All (λ (x : CompiledFile). AreInOrder x.graph.nodes) xs) (sym pushed)
          (All-push (λ (x : CompiledFile). AreInOrder x.graph.nodes) c.loop-place.made.items c.in_ok-one.one c.loop-place.invariant.ordered c.in_ok-one.ensures.ordered);
    }
