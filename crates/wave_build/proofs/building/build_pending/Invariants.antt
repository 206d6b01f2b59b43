use Rattle.std.proofs.Common.{◌≡◌, ℕ, Bool, List, []}
use Rattle.wave_build.specs.Built.{IsUnderWay}
use Rattle.wave_core.specs.Cores.{Follows, Module, change_of}
use Rattle.wave_coverage.specs.Modules.{recorded_at}
use Rattle.wave_build.proofs.building.build_pending.Given as goal

-- A core that has followed a change is under way for it.
abbrev pub invariant-loop : goal.invariant-loop
invariant-loop l = (before : Module) (first : List ℕ → Bool) → l.fn.core.3 ≡ [] → Follows (change_of before (recorded_at l.index) first) l.fn.core → IsUnderWay l.index before first l.core l.files.items
