use Rattle.std.proofs.Common.{◌≡◌, ◌++◌}
use Rattle.std.specs.Vec.Iter.{into_iter_items}
use Rattle.wave_plan.specs.Reasons.{first_files}
use Rattle.wave_plan.proofs.reasons.first_files.Given as goal

-- The files so far, and those of the reasons that are left, are all.
abbrev pub invariant-loop-reason : goal.invariant-loop-reason
invariant-loop-reason l = l.first.items ++ first_files l.no (into_iter_items l.reason-iterator) ≡ first_files 0 l.fn.reasons.items
