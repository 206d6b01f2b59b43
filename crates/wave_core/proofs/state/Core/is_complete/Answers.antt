use Rattle.wave_core.specs.Cores.{Kept}
use Rattle.wave_core.proofs.RunLemmas.{complete-tells, incomplete-tells, built}
use Rattle.wave_core.proofs.state.Core.is_complete.Goals as goal

pub returns-then-is_empty-clause-complete : goal.returns-then-is_empty-clause-complete
returns-then-is_empty-clause-complete c =
    let seen : Kept = (c.self.inside.graph, c.self.inside.changed.keys, c.self.inside.stages.entries, c.self.inside.log.items) in
    complete-tells c.args.self.now seen c.self.inside.pending.keys c.self.inside.running.keys c.is_empty-then-is_empty.result c.self.view_is c.self.invariant.0 c.self.invariant.1 (c.is_empty.ensures.0 c.if-is_empty.true) c.is_empty-then-is_empty.ensures

pub returns-then-is_empty-clause-built : goal.returns-then-is_empty-clause-built
returns-then-is_empty-clause-built c =
    let seen : Kept = (c.self.inside.graph, c.self.inside.changed.keys, c.self.inside.stages.entries, c.self.inside.log.items) in
    λ e before now first plan run. built before now first c.args.self.now plan run
    ((complete-tells c.args.self.now seen c.self.inside.pending.keys c.self.inside.running.keys c.is_empty-then-is_empty.result c.self.view_is c.self.invariant.0 c.self.invariant.1 (c.is_empty.ensures.0 c.if-is_empty.true) c.is_empty-then-is_empty.ensures).0 e)

pub returns-else-is_empty-clause-complete : goal.returns-else-is_empty-clause-complete
returns-else-is_empty-clause-complete c =
    let seen : Kept = (c.self.inside.graph, c.self.inside.changed.keys, c.self.inside.stages.entries, c.self.inside.log.items) in
    incomplete-tells c.args.self.now seen c.self.inside.pending.keys c.self.inside.running.keys c.is_empty.result c.self.view_is c.self.invariant.0 c.self.invariant.1 c.if-is_empty.false c.is_empty.ensures
