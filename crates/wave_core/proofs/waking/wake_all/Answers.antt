use Rattle.dep_graph.specs.Arcs.{nodes_in, uses_key}
use Rattle.wave_core.specs.Cores.{uses_one}
use Rattle.wave_core.proofs.WakingLemmas.{woken-left, keys-left}
use Rattle.wave_core.proofs.waking.wake_all.Goals as goal

pub loop-key-preserved : goal.loop-key-preserved
loop-key-preserved c = record {
  pending = c.in_ok-wake_users.ensures.pending;
  woken_rest = woken-left c.args.stages.now.entries c.loop-key.stages.entries c.wake_users.new.stages.entries (λ f. uses_key (nodes_in c.args.graph.now f) c.in-Some.key.now)
      (uses_one c.args.graph.now c.next.new.self) (uses_one c.args.graph.now c.loop-key.key-iterator) (uses_one c.args.graph.now c.args.keys.now.keys)
      (keys-left c.args.graph.now c.loop-key.key-iterator c.next.new.self c.in-Some.key.now c.in-Some.ensures.steps) c.loop-key.invariant.woken_rest c.in_ok-wake_users.ensures.woken;
}
