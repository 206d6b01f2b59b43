use Rattle.std.proofs.Common.{take}
use Rattle.wave_core.specs.Cores.{ArePending, AreWoken, is_among}
use Rattle.wave_core.proofs.waking.wake_first.Given as goal

abbrev pub invariant-loop-file : goal.invariant-loop-file
invariant-loop-file l = record {
  pending : ArePending l.stages.entries l.pending.keys;
  woken : AreWoken l.initial.stages.entries l.stages.entries (is_among (take l.file-index l.files));
}
