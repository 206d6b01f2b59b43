use Rattle.std.proofs.Common.{◌≡◌, ◌+◌, ◌++◌, ◌∷◌, drop, ap, sym, ◌∙◌}
use Rattle.std.specs.List.{flat_map}
use Rattle.std.proofs.lemmas.List.{at_drop_more}
use Rattle.type_infer.specs.Meanings.{module_keys}
use Rattle.decl_meaning.proofs.SettleLemmas.{keys_first}
use Rattle.decl_meaning.proofs.meanings.module_keys.Goals as goal

pub loop-file-preserved : goal.loop-file-preserved
loop-file-preserved c =
    let files = c.args.files.now in
    let i = c.loop-file.file-index in
    let file = c.file-item.result in
    let had = c.loop-file.keys.items in
    let left : module_keys (drop i files) ≡ module_keys (file ∷ drop (i + 1) files) =
    at_drop_more module_keys files i file c.loop-file-test.true ∙ ap (λ f. module_keys (f ∷ drop (i + 1) files)) (sym c.file-item.is) in
    ap (λ l. l ++ module_keys (drop (i + 1) files)) (c.in_ok-add_keys.ensures ∙ ap (λ d. had ++ flat_map (λ one. one) d) c.in_ok-declared.ensures.keys)
    ∙ keys_first file (drop (i + 1) files) had ∙ ap (λ l. had ++ l) (sym left) ∙ c.loop-file.invariant
