use Rattle.std.proofs.Common.{◌≡◌, ◌++◌, drop}
use Rattle.wave_build.proofs.naming.names.Given as goal

-- The names so far, and the paths that are left, are all.
abbrev pub invariant-loop-path : goal.invariant-loop-path
invariant-loop-path l = l.names.items ++ drop l.path-index l.paths ≡ l.paths
