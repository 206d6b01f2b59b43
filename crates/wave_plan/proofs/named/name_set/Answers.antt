use Rattle.std.proofs.Common.{◌≡◌, ◌∙◌, ◌||◌, ◌+◌, drop, nat_eq, ap, sym}
use Rattle.std.specs.BTreeSet.{contains}
use Rattle.std.specs.Cmp.Lexicographic.{pointwise}
use Rattle.std.proofs.lemmas.List.{at_drop_more}
use Rattle.dep_graph.specs.Arcs.{path_order}
use Rattle.ordered_lists.specs.Among.{is_among}
use Rattle.wave_plan.proofs.SetLemmas.{enters_set}
use Rattle.wave_plan.proofs.named.name_set.Goals as goal

pub loop-name-preserved : goal.loop-name-preserved
loop-name-preserved c = λ q.
    let names = c.args.names.now in
    let i = c.loop-name.name-index in
    let name = c.name-item.result in
    let left : is_among (drop i names) q ≡ pointwise nat_eq name q || is_among (drop (i + 1) names) q =
    at_drop_more (λ ss. is_among ss q) names i name c.loop-name-test.true ∙ ap (λ s. pointwise nat_eq s q || is_among (drop (i + 1) names) q) (sym c.name-item.is) in
    enters_set q name _ (contains path_order c.loop-name.set q) _ _ (is_among (drop (i + 1) names) q) _ c.in_ok-copy_of.ensures (c.in_ok-insert.ensures.updates.0 q) left (c.loop-name.invariant q)
