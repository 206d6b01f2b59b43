use Rattle.std.proofs.Common.{◌≡◌, ◌∙◌, ◌||◌, ◌+◌, drop, nat_eq, ap, sym}
use Rattle.std.specs.BTreeSet.{contains}
use Rattle.std.specs.Cmp.Lexicographic.{pointwise}
use Rattle.std.proofs.lemmas.List.{at_drop_more}
use Rattle.dep_graph.specs.Arcs.{path_order}
use Rattle.ordered_lists.specs.Among.{is_among}
use Rattle.wave_plan.specs.Plans.{listed_paths}
use Rattle.wave_plan.proofs.SetLemmas.{enters_set}
use Rattle.wave_plan.proofs.named.path_set.Goals as goal

pub loop-entry-preserved : goal.loop-entry-preserved
loop-entry-preserved c = λ q.
    let listed = c.args.listed.now in
    let i = c.loop-entry.entry-index in
    let entry = c.entry-item.result in
    let left : is_among (listed_paths (drop i listed)) q ≡ pointwise nat_eq entry.path q || is_among (listed_paths (drop (i + 1) listed)) q =
    at_drop_more (λ ss. is_among (listed_paths ss) q) listed i entry c.loop-entry-test.true ∙ ap (λ e. pointwise nat_eq e.path q || is_among (listed_paths (drop (i + 1) listed)) q) (sym c.entry-item.is) in
    enters_set q entry.path _ (contains path_order c.loop-entry.set q) _ _ (is_among (listed_paths (drop (i + 1) listed)) q) _ c.in_ok-copy_of_path.ensures (c.in_ok-insert.ensures.updates.0 q) left (c.loop-entry.invariant q)
