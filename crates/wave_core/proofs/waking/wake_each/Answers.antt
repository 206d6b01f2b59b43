use Rattle.std.specs.BTreeMap.{is_at}
use Rattle.dep_graph.specs.Arcs.{path_order}
use Rattle.wave_core.specs.Cores.{is_among}
use Rattle.wave_core.proofs.WakingLemmas.{woken-left, files-left}
use Rattle.wave_core.proofs.waking.wake_each.Goals as goal

pub loop-file-preserved : goal.loop-file-preserved
loop-file-preserved c = record {
  pending = c.in_ok-wake.ensures.pending;
  woken_rest = woken-left c.args.stages.now.entries c.loop-file.stages.entries c.wake.new.stages.entries (is_at (path_order c.in-Some.file.now)) (is_among c.next.new.self) (is_among c.loop-file.file-iterator) (is_among c.args.files.now.keys)
      (files-left c.loop-file.file-iterator c.next.new.self c.in-Some.file.now c.in-Some.ensures.steps) c.loop-file.invariant.woken_rest c.in_ok-wake.ensures.woken;
}
