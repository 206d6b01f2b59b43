use Rattle.std.proofs.Common.{rules, arith, ◌≡◌, ◌∙◌, ◌+◌, ◌∷◌, true, false, not, Bool, cond, drop, ap, sym}
use Rattle.std.proofs.lemmas.Grind.{common_steps}
use Rattle.std.proofs.lemmas.List.{at_drop_more}
use Rattle.ordered_lists.specs.Among.{is_among}
use Rattle.module_merge.specs.Image.{undefined}
use Rattle.module_merge.proofs.linking.undefined.Goals as goal
use Rattle.module_merge.proofs.linking.undefined.Goals.{then-not-contains+in_ok-clone+in_ok-push, else-not-contains}

-- one symbol more: it is among the undefined where it isn't among the defined
one_more_symbol : (c : goal.Joined-not-contains) (has : Bool) → is_among c.args.defined.now c.symbol-item.result ≡ has
    → undefined c.args.defined.now (drop c.loop-symbol.symbol-index c.args.symbols.now) ≡ cond (not has) (c.symbol-item.result ∷ undefined c.args.defined.now (drop (c.loop-symbol.symbol-index + 1) c.args.symbols.now)) (undefined c.args.defined.now (drop (c.loop-symbol.symbol-index + 1) c.args.symbols.now))
one_more_symbol c has is =
    let defined = c.args.defined.now in
    let rest = undefined defined (drop (c.loop-symbol.symbol-index + 1) c.args.symbols.now) in
    at_drop_more (undefined defined) c.args.symbols.now c.loop-symbol.symbol-index c.symbol-item.result c.loop-symbol-test.true
    ∙ ap (λ s. cond (not (is_among defined s)) (s ∷ rest) rest) (sym c.symbol-item.is)
    ∙ ap (λ b. cond (not b) (c.symbol-item.result ∷ rest) rest) is

pub loop-symbol-preserved : goal.loop-symbol-preserved
loop-symbol-preserved c =
    let among : c.contains.result ≡ is_among c.args.defined.now c.symbol-item.result = c.contains.ensures ∙ c.in_ok-known.ensures c.symbol-item.result in
    elim c.if-not-contains.branch [
      | then-not-contains+in_ok-clone+in_ok-push w ↦
          let more = one_more_symbol c false (sym among ∙ search rules) in
          let copied : w.in_ok-clone.field-0 ≡ c.symbol-item.result = search rules in
          grind (arith, common_steps, c.loop-symbol.invariant, more, copied, w.in_ok-push.ensures.items, w.left-is)
      | else-not-contains w ↦
          let more = one_more_symbol c true (sym among ∙ search rules) in
          grind (arith, common_steps, c.loop-symbol.invariant, more, w.left-is)
    ]
