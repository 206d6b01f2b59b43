use Rattle.std.proofs.Common.{◌≡◌, ◌+◌, ◌∷◌, drop, ap, sym, ◌∙◌}
use Rattle.std.proofs.lemmas.List.{at_drop_more}
use Rattle.decl_meaning.proofs.SettleLemmas.{answered_one}
use Rattle.decl_meaning.proofs.meanings.answer_all.Goals as goal

pub loop-key-preserved : goal.loop-key-preserved
loop-key-preserved c =
    let keys = c.args.keys.now in
    let i = c.loop-key.key-index in
    let key = c.key-item.result in
    let left : drop i keys ≡ key ∷ drop (i + 1) keys = at_drop_more (λ l. l) keys i key c.loop-key-test.true ∙ ap (λ k. k ∷ drop (i + 1) keys) (sym c.key-item.is) in
    record {
      memo = c.answer.ensures.memo;
      answered = answered_one c.args.index.now _ _ keys _ _ key c.loop-key.invariant.answered left c.answer.ensures.kept c.in_ok-answer.ensures.answered;
    }
