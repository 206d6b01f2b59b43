use Rattle.std.proofs.Common.{subst}
use Rattle.dep_graph.specs.Arcs.{nodes_in}
use Rattle.wave_core.specs.Cores.{Stages, AreWoken, is_among}
use Rattle.wave_core.proofs.OpeningLemmas.{opens}
use Rattle.wave_core.proofs.RunLemmas.{follows-opening}
use Rattle.wave_core.proofs.state.Core.start.Goals as goal

pub returns-clause-opens : goal.returns-clause-opens
returns-clause-opens c = λ now gone.
    follows-opening (nodes_in c.args.graph) now (is_among c.args.first.now) (c.in_ok-graph.graph, c.in_ok-graph.changed.keys, c.wake_all.new.stages.entries, c.new-2.result.items) c.new-2.ensures.items
    (opens c.args.graph c.in_ok-graph.graph c.in_ok-graph.changed.keys c.wake_first.new.stages.entries c.wake_all.new.stages.entries c.new-2.result.items c.args.removed.now c.args.first.now now gone
    c.in_ok-graph.ensures.graph c.in_ok-graph.ensures.changed
    (subst (λ (stages : Stages). AreWoken stages c.wake_first.new.stages.entries (is_among c.args.first.now)) c.new-stages.ensures.empty c.in_ok-wake_first.ensures.woken)
    c.in_ok-wake_all.ensures.woken)
