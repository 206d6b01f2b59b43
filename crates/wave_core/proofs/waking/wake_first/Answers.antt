use Rattle.std.proofs.Common.{◌+◌, ℕ, List, sym, take}
use Rattle.std.specs.BTreeMap.{is_at}
use Rattle.dep_graph.specs.Arcs.{path_order}
use Rattle.wave_core.specs.Cores.{is_among}
use Rattle.wave_core.proofs.WakingLemmas.{woken-both, one-more-file}
use Rattle.wave_core.proofs.waking.wake_first.Goals as goal

pub loop-file-preserved : goal.loop-file-preserved
loop-file-preserved c =
    let files : List (List ℕ) = c.args.files.now in
    let i : ℕ = c.loop-file.file-index in
    let file : List ℕ = c.file-item.result in
    record {
      pending = c.in_ok-wake.ensures.pending;
      woken = woken-both c.args.stages.now.entries c.loop-file.stages.entries c.wake.new.stages.entries (is_among (take i files)) (is_at (path_order file)) (is_among (take (i + 1) files))
          (one-more-file files i file c.loop-file-test.true (sym c.file-item.is)) c.loop-file.invariant.woken c.in_ok-wake.ensures.woken;
    }
