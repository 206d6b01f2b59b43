use Rattle.std.proofs.Common.{◌≡◌, ◌∙◌, ◌+◌, ◌++◌, [], ◌∷◌, take, sym, ap, subst}
use Rattle.std.specs.Prelude.{option_copied}
use Rattle.std.proofs.lemmas.List.{take_more, take_all}
use Rattle.module_merge.specs.Image.{IsLeastOf}
use Rattle.module_merge.proofs.MissingLemmas.{least_with}
use Rattle.module_merge.proofs.linking.least_of.Goals as goal

pub loop-symbol-preserved : goal.loop-symbol-preserved
loop-symbol-preserved c =
    let symbol = c.symbol-item.result in
    let before = take c.loop-symbol.symbol-index c.args.symbols.now in
    let more : take (c.loop-symbol.symbol-index + 1) c.args.symbols.now ≡ before ++ symbol ∷ [] =
    take_more c.args.symbols.now c.loop-symbol.symbol-index symbol c.loop-symbol-test.true ∙ ap (λ s. before ++ s ∷ []) (sym c.symbol-item.is) in
    let wanted : IsLeastOf (take (c.loop-symbol.symbol-index + 1) c.args.symbols.now) (option_copied c.lesser-least.result) =
    rw (more, c.lesser-least.ensures) (least_with before symbol (option_copied c.loop-symbol.least) c.loop-symbol.invariant) in
    wanted

pub returns : goal.returns
returns c = subst (λ xs. IsLeastOf xs (option_copied c.loop-symbol.least)) (take_all c.loop-symbol.symbol-index c.args.symbols.now c.loop-symbol-test.false) c.loop-symbol.invariant
