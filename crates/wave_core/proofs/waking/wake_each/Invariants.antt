use Rattle.std.proofs.Common.{◌≡◌, ℕ, List}
use Rattle.waves.specs.Machine.{woken}
use Rattle.wave_core.specs.Cores.{ArePending, is_among, stage_at}
use Rattle.wave_core.proofs.waking.wake_each.Given as goal

-- Waking what is left of the files does what waking all of them would have done.
abbrev pub invariant-loop-file : goal.invariant-loop-file
invariant-loop-file l = record {
  pending : ArePending l.stages.entries l.pending.keys;
  woken_rest : (f : List ℕ) → woken (is_among l.file-iterator f) (stage_at l.stages.entries f) ≡ woken (is_among l.files.keys f) (stage_at l.initial.stages.entries f);
}
