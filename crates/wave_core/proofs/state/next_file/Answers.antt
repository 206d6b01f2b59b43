use Rattle.std.proofs.Common.{◌≡◌, ◌∙◌, sym, ap, ℕ, List, true, false}
use Rattle.std.specs.Ordering.{is_gt}
use Rattle.waves.specs.Machine as machine
use Rattle.dep_graph.specs.Arcs.{path_order}
use Rattle.wave_core.specs.Cores.{Kept, stage_at}
use Rattle.wave_core.proofs.FinishLemmas.{pending-from}
use Rattle.wave_core.proofs.RunLemmas.{pending-among, none-pending}
use Rattle.wave_core.proofs.state.next_file.Goals as goal

pub returns-in_ok-copy-in-Some-clause-pending : goal.returns-in_ok-copy-in-Some-clause-pending
returns-in_ok-copy-in-Some-clause-pending c =
    let file : List ℕ = c.in-Some.file.now in
    let waits : stage_at c.core.inside.stages.entries file ≡ machine.Pending = pending-from (stage_at c.core.inside.stages.entries file) (sym (c.core.invariant.0.at file) ∙ c.in-Some.ensures.member) in
    ap (stage_at c.args.core.now.2) c.in_ok-copy-in-Some.ensures ∙ sym (ap (λ (k : Kept). stage_at k.2 file) c.core.view_is) ∙ waits

pub returns-in_ok-copy-in-Some-clause-least : goal.returns-in_ok-copy-in-Some-clause-least
returns-in_ok-copy-in-Some-clause-least c =
    let seen : Kept = (c.core.inside.graph, c.core.inside.changed.keys, c.core.inside.stages.entries, c.core.inside.log.items) in
    λ f e. ap (λ (p : List ℕ). is_gt (path_order p f)) c.in_ok-copy-in-Some.ensures ∙ c.in-Some.ensures.least f (pending-among c.args.core.now seen c.core.inside.pending.keys c.core.view_is c.core.invariant.0 f e)

pub returns-in-None-clause-empty : goal.returns-in-None-clause-empty
returns-in-None-clause-empty c =
    let seen : Kept = (c.core.inside.graph, c.core.inside.changed.keys, c.core.inside.stages.entries, c.core.inside.log.items) in
    none-pending c.args.core.now seen c.core.inside.pending.keys c.core.view_is c.core.invariant.0 (λ h. (let bad : false ≡ true = c.in-None.ensures.variant.1 h in cc))
