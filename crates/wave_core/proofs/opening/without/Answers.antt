use Rattle.std.proofs.Common.{ℕ, List, sym, subst}
use Rattle.dep_key.specs.declared.key.Key.{Key}
use Rattle.wave_core.specs.Cores.{HaveJoined}
use Rattle.wave_core.proofs.OpeningLemmas.{graph-without, keys-had, keys-without}
use Rattle.wave_core.proofs.opening.without.Goals as goal

pub loop-file-preserved : goal.loop-file-preserved
loop-file-preserved c =
    let removed : List (List ℕ) = c.args.removed.now in
    let i : ℕ = c.loop-file.file-index in
    let file : List ℕ = c.file-item.result in
    let keys : List Key = c.in_ok-keys.keys.items in
    let joined : HaveJoined c.loop-file.changed.keys c.join.new.changed.keys keys c.in_ok-join.field-0.keys =
    subst (λ (ks : List Key). HaveJoined c.loop-file.changed.keys c.join.new.changed.keys ks c.in_ok-join.field-0.keys) c.deref.ensures.value c.in_ok-join.ensures in
    record {
      graph = graph-without c.args.graph c.loop-file.rest c.drop_file.new.self removed i file c.loop-file-test.true (sym c.file-item.is) c.loop-file.invariant.graph c.in_ok-keys.ensures.here c.in_ok-keys.ensures.others;
      changed = keys-without c.args.graph c.loop-file.rest c.loop-file.changed.keys c.join.new.changed.keys c.in_ok-join.field-0.keys removed i file keys c.loop-file-test.true (sym c.file-item.is)
          c.loop-file.invariant.graph c.loop-file.invariant.changed (keys-had c.loop-file.rest c.drop_file.new.self file keys c.in_ok-keys.ensures.here c.in_ok-keys.ensures.others c.in_ok-keys.ensures.changed) joined;
    }
