use Rattle.std.proofs.Common.{◌≡◌, ◌↔◌, true, Option, IfSome, subst}
use Rattle.std.specs.declared.vec.Vec.{Vec}
use Rattle.std.specs.declared.alloc.Global.{Global}
use Rattle.dep_key.specs.declared.key.Key.{Key}
use Rattle.waves.specs.Builds.{HaveSamePrints}
use Rattle.dep_graph.specs.Moves.{is_one, node_reading}
use Rattle.dep_graph.specs.Arcs.{nodes_in}
use Rattle.wave_core.specs.Cores.{Kept, Follows, change_of}
use Rattle.wave_core.proofs.RunLemmas.{follows-finished}
use Rattle.wave_core.proofs.state.Core.finish.Goals as goal

pub returns-in-Some-clause-follows : goal.returns-in-Some-clause-follows
returns-in-Some-clause-follows c = λ before now first is.
    subst (λ (k : Kept). Follows (change_of before now first) k → Follows (change_of before now first) c.in-Ok.core) c.replace-core.ensures.value
    (follows-finished before now first c.replace-core.result c.in-Ok.core c.args.file.path c.args.file.nodes c.in-Ok.keys c.in-Some.keys c.in-Some.is c.in-Ok.ensures.logged c.in-Ok.ensures.finished is)

pub returns-in-Some-clause-changed : goal.returns-in-Some-clause-changed
returns-in-Some-clause-changed c = subst (λ (kept : Kept). (k : Key) → (is_one c.in-Some.keys.items k ≡ true) ↔ (HaveSamePrints node_reading (nodes_in kept.0) (nodes_in c.in-Ok.core.0) k → ⊥)) c.replace-core.ensures.value
    (subst (λ (o : Option (Vec Key Global)). IfSome o (λ v. (k : Key) → (is_one v.items k ≡ true) ↔ (HaveSamePrints node_reading (nodes_in c.replace-core.result.0) (nodes_in c.in-Ok.core.0) k → ⊥))) c.in-Some.is c.in-Ok.ensures.changed)
