use Rattle.std.proofs.Common.{◌≡◌, ◌++◌, drop}
use Rattle.wave_build.specs.Built.{paths_at}
use Rattle.wave_build.proofs.naming.names_at.Given as goal

-- The names so far, and those at the numbers that are left, are all.
abbrev pub invariant-loop-number : goal.invariant-loop-number
invariant-loop-number l = l.names.items ++ paths_at l.files (drop l.number-index l.numbers) ≡ paths_at l.files l.numbers
