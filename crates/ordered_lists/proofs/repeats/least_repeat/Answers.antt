use Rattle.std.proofs.Common.{◌≡◌, ◌∙◌, ◌+◌, ◌++◌, [], ◌∷◌, cond, true, take, nat_lt, sym, ap, refl, subst, arith}
use Rattle.std.specs.Prelude.{option_copied}
use Rattle.std.specs.Ordering.{eq_by_cmp}
use Rattle.std.proofs.lemmas.List.{take_more, take_all}
use Rattle.ordered_lists.specs.Repeats.{times, IsLeastRepeat}
use Rattle.ordered_lists.proofs.RepeatsLemmas.{with_one, seen_with}
use Rattle.ordered_lists.proofs.repeats.least_repeat.Goals as goal

pub loop-item-init : goal.loop-item-init
loop-item-init g c = (λ q. rw c.new-seen.ensures.empty refl, λ x. omega arith)

pub loop-item-preserved : goal.loop-item-preserved
loop-item-preserved g c =
    let cmp = g.T.Ord.cmp in
    let x = c.item-item.result in
    let before = take c.loop-item.item-index c.args.items.now in
    let more : take (c.loop-item.item-index + 1) c.args.items.now ≡ before ++ x ∷ [] =
    take_more c.args.items.now c.loop-item.item-index x c.loop-item-test.true ∙ ap (λ y. before ++ y ∷ []) (sym c.item-item.is) in
    let seen = c.loop-item.invariant.0 in (
      λ q. c.in_ok-is_new.ensures.updates.0 q ∙ ap (cond (eq_by_cmp cmp x q.now) true) (seen q) ∙ seen_with g.met.T.Ord.total before x q.now ∙ ap (λ xs. nat_lt 0 (times cmp q.now xs)) (sym more),
      rw (more, c.least_with-least.ensures) (with_one g.met.T.Ord.total before x (option_copied c.loop-item.least) _ c.in_ok-is_new.is_new (seen (record { ref_ptr = (0, 0); now = x })) c.in_ok-is_new.ensures.added c.loop-item.invariant.1),
    )

pub returns : goal.returns
returns g c = subst (λ xs. IsLeastRepeat g.T.Ord.cmp xs (option_copied c.loop-item.least)) (take_all c.loop-item.item-index c.args.items.now c.loop-item-test.false) c.loop-item.invariant.1
