use Rattle.std.proofs.Common.{◌≡◌, ◌∙◌, sym, ℕ, List, true, cond, Some, subst}
use Rattle.std.specs.Map.{lookup}
use Rattle.std.specs.BTreeMap.{is_at}
use Rattle.dep_graph.specs.Arcs.{path_order}
use Rattle.wave_core.specs.declared.stages.Stage.TheVariants.{Pending}
use Rattle.wave_core.specs.Cores.{is_among}
use Rattle.wave_core.proofs.WakingLemmas.{woken-asked, woken-idle, pending-more}
use Rattle.wave_core.proofs.waking.wake.Goals as goal

pub returns-then-not-is_idle-clause-woken : goal.returns-then-not-is_idle-clause-woken
returns-then-not-is_idle-clause-woken c =
    woken-asked c.args.stages.now.entries c.args.file.now (sym c.is_idle.ensures ∙ c.if-not-is_idle.true)

pub returns-clause-woken : goal.returns-clause-woken
returns-clause-woken c =
    woken-idle c.args.stages.now.entries c.insert-2.new.self.entries c.args.file.now (sym c.is_idle.ensures ∙ c.if-not-is_idle.false)
    (subst (λ (p : List ℕ). (q : List ℕ) → lookup (is_at (path_order q)) c.insert-2.new.self.entries ≡ cond (is_at (path_order p) q) (Some Pending) (lookup (is_at (path_order q)) c.args.stages.now.entries)) c.in_ok-copy-2.ensures c.in_ok-insert-2.ensures.updates.0)

pub returns-clause-pending : goal.returns-clause-pending
returns-clause-pending c =
    pending-more c.args.stages.now.entries c.insert-2.new.self.entries c.args.pending.now.keys c.insert.new.self.keys c.args.file.now c.requires.pending
    (subst (λ (p : List ℕ). (q : List ℕ) → is_among c.insert.new.self.keys q ≡ cond (is_at (path_order p) q) true (is_among c.args.pending.now.keys q)) c.in_ok-copy.ensures c.in_ok-insert.ensures.updates.0)
    (subst (λ (p : List ℕ). (q : List ℕ) → lookup (is_at (path_order q)) c.insert-2.new.self.entries ≡ cond (is_at (path_order p) q) (Some Pending) (lookup (is_at (path_order q)) c.args.stages.now.entries)) c.in_ok-copy-2.ensures c.in_ok-insert-2.ensures.updates.0)
