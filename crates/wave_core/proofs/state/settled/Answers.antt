use Rattle.std.proofs.Common.{◌≡◌, ◌∙◌, ap, ℕ, List, Some, subst}
use Rattle.dep_key.specs.declared.key.Key.{Key}
use Rattle.waves.specs.Machine as machine
use Rattle.waves.specs.Machine.{IsFinish}
use Rattle.dep_graph.specs.Moves.{node_reading}
use Rattle.wave_core.specs.Cores.{Kept, HasStage, HaveJoined, stage_at, state_of, uses_one}
use Rattle.wave_core.proofs.WakingLemmas.{running-woken}
use Rattle.wave_core.proofs.FinishLemmas.{finishes, pending-done, running-done}
use Rattle.wave_core.proofs.state.settled.Goals as goal

pub wake_all-requires : goal.wake_all-requires
wake_all-requires c =
    let runs : stage_at c.core.inside.stages.entries c.args.name.now ≡ machine.Running = ap (λ (k : Kept). stage_at k.2 c.args.name.now) c.core.view_is ∙ ap (stage_at c.args.core.2) c.requires.same ∙ c.requires.running in
    record { pending = pending-done c.core.inside.stages.entries c.set_stage.new.stages.entries c.core.inside.pending.keys c.args.name.now c.core.invariant.0 c.set_stage.ensures runs }

pub invariant_of-core : goal.invariant_of-core
invariant_of-core c = (
  c.in_ok-wake_all.ensures.pending,
  running-woken c.set_stage.new.stages.entries c.wake_all.new.stages.entries c.remove.new.self.keys (uses_one c.integrate.new.self c.in_ok-first.first.keys) c.in_ok-wake_all.ensures.woken
      (running-done c.core.inside.stages.entries c.set_stage.new.stages.entries c.core.inside.running.keys c.remove.new.self.keys c.args.name.now c.core.invariant.1 c.set_stage.ensures c.remove.ensures.updates.0),
)

pub returns-clause-finished : goal.returns-clause-finished
returns-clause-finished c =
    let path : List ℕ = c.args.file.path in
    let old = c.core.inside.stages.entries in
    let mid = c.set_stage.new.stages.entries in
    let runs : stage_at old path ≡ machine.Running = ap (λ (k : Kept). stage_at k.2 path) c.core.view_is ∙ c.requires.running in
    let done : HasStage old mid path machine.Done = subst (λ (f : List ℕ). HasStage old mid f machine.Done) c.requires.same c.set_stage.ensures in
    let joined : HaveJoined c.core.inside.changed.keys c.join.new.changed.keys c.in_ok-moved.moved.items c.in_ok-first.first.keys =
    subst (λ (ks : List Key). HaveJoined c.core.inside.changed.keys c.join.new.changed.keys ks c.in_ok-first.first.keys) c.deref.ensures.value c.in_ok-first.ensures in
    let more : Kept = (c.integrate.new.self, c.join.new.changed.keys, c.wake_all.new.stages.entries, c.note_finish.new.log.items) in
    subst (λ (k : Kept). IsFinish node_reading path (Some c.args.file.nodes) (state_of k) (state_of more)) c.core.view_is
    (finishes path c.args.file.nodes c.core.inside.graph c.integrate.new.self c.core.inside.changed.keys c.join.new.changed.keys old mid c.wake_all.new.stages.entries c.core.inside.log.items c.note_finish.new.log.items
    c.in_ok-moved.moved.items c.in_ok-first.first.keys runs c.in_ok-moved.ensures.here c.in_ok-moved.ensures.others c.in_ok-moved.ensures.changed joined done c.in_ok-wake_all.ensures.woken)
