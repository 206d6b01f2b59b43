use Rattle.std.proofs.Common.{◌≢◌, ℕ, List, IfNone, subst}
use Rattle.waves.specs.Machine as machine
use Rattle.wave_core.specs.Cores.{Kept, Follows, change_of, stage_at}
use Rattle.wave_core.proofs.RunLemmas.{follows-taken}
use Rattle.wave_core.proofs.state.Core.take.Goals as goal

pub returns-clause-empty : goal.returns-clause-empty
returns-clause-empty c = subst (λ (k : Kept). IfNone c.in_ok-core.file ((f : List ℕ) → stage_at k.2 f ≢ machine.Pending)) c.replace-core.ensures.value c.in_ok-core.ensures.empty

pub returns-clause-follows : goal.returns-clause-follows
returns-clause-follows c = λ before now first.
    subst (λ (k : Kept). Follows (change_of before now first) k → Follows (change_of before now first) c.in_ok-core.core) c.replace-core.ensures.value
    (follows-taken before now first c.replace-core.result c.in_ok-core.core c.in_ok-core.file c.in_ok-core.ensures.taken c.in_ok-core.ensures.logged c.in_ok-core.ensures.unchanged)
