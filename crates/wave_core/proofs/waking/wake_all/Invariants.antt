use Rattle.std.proofs.Common.{◌≡◌, ℕ, List}
use Rattle.waves.specs.Machine.{woken}
use Rattle.wave_core.specs.Cores.{ArePending, stage_at, uses_one}
use Rattle.wave_core.proofs.waking.wake_all.Given as goal

-- Waking the users of what is left of the keys does what waking those of all keys would have done.
abbrev pub invariant-loop-key : goal.invariant-loop-key
invariant-loop-key l = record {
  pending : ArePending l.stages.entries l.pending.keys;
  woken_rest : (f : List ℕ) → woken (uses_one l.graph l.key-iterator f) (stage_at l.stages.entries f) ≡ woken (uses_one l.graph l.keys.keys f) (stage_at l.initial.stages.entries f);
}
