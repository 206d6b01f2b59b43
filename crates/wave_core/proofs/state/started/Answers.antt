use Rattle.std.proofs.Common.{◌≡◌, ◌∙◌, ap, ℕ, List, true, cond, subst}
use Rattle.std.specs.BTreeMap.{is_at}
use Rattle.waves.specs.Machine as machine
use Rattle.waves.specs.Machine.{IsTake}
use Rattle.dep_graph.specs.Arcs.{path_order}
use Rattle.wave_core.specs.Cores.{Kept, is_among, stage_at, state_of}
use Rattle.wave_core.proofs.FinishLemmas.{took, pending-taken, running-taken, asked-for, idle-pending}
use Rattle.wave_core.proofs.state.started.Goals as goal

pub set_stage-requires : goal.set_stage-requires
set_stage-requires c = record { asked = asked-for c.core.inside.stages.entries c.args.file.now machine.Pending idle-pending (ap (λ (k : Kept). stage_at k.2 c.args.file.now) c.core.view_is ∙ c.requires.pending) }

pub invariant_of-result : goal.invariant_of-result
invariant_of-result c = (
  pending-taken c.core.inside.stages.entries c.set_stage.new.stages.entries c.core.inside.pending.keys c.remove.new.self.keys c.args.file.now c.core.invariant.0 c.set_stage.ensures c.remove.ensures.updates.0,
  running-taken c.core.inside.stages.entries c.set_stage.new.stages.entries c.core.inside.running.keys c.insert.new.self.keys c.args.file.now c.core.invariant.1 c.set_stage.ensures
      (subst (λ (p : List ℕ). (q : List ℕ) → is_among c.insert.new.self.keys q ≡ cond (is_at (path_order p) q) true (is_among c.core.inside.running.keys q)) c.in_ok-copy.ensures c.in_ok-insert.ensures.updates.0),
)

pub returns-clause-taken : goal.returns-clause-taken
returns-clause-taken c =
    let file : List ℕ = c.args.file.now in
    let stages = c.core.inside.stages.entries in
    let waits : stage_at stages file ≡ machine.Pending = ap (λ (k : Kept). stage_at k.2 file) c.core.view_is ∙ c.requires.pending in
    let more : Kept = (c.core.inside.graph, c.core.inside.changed.keys, c.set_stage.new.stages.entries, c.note_take.new.log.items) in
    subst (λ (k : Kept). IsTake file (state_of k) (state_of more)) c.core.view_is
    (took c.core.inside.graph c.core.inside.changed.keys stages c.set_stage.new.stages.entries c.core.inside.log.items c.note_take.new.log.items file waits c.set_stage.ensures)
