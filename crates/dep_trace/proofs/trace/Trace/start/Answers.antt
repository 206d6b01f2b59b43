use Rattle.std.proofs.Common.{◌∙◌, ◌||◌, ◌&&◌, ap, not, ℕ, List, sym, Bool}
use Rattle.std.specs.BTreeMap.{is_at}
use Rattle.dep_graph.specs.Arcs.{path_order, nodes_in}
use Rattle.wave_core.specs.Cores.{has_print}
use Rattle.dep_trace.proofs.TraceLemmas.{one-file-more}
use Rattle.dep_trace.proofs.trace.Trace.start.Goals as goal

pub loop-file-preserved : goal.loop-file-preserved
loop-file-preserved c = λ f k.
    let test : List ℕ → Bool = λ g. not (is_at (path_order g) f) && has_print (nodes_in c.args.graph.now g) k in
    c.in_ok-note_removed.ensures.at f k ∙ ap (λ x. x || test c.file-item.result) (c.loop-file.invariant f k)
    ∙ sym (one-file-more test c.args.removed.now c.loop-file.file-index c.file-item.result c.loop-file-test.true (sym c.file-item.is))
