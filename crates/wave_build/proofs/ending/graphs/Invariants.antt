use Rattle.std.proofs.Common.{◌≡◌, ◌++◌, drop, map}
use Rattle.wave_build.specs.Built.{graph_at}
use Rattle.wave_build.proofs.ending.graphs.Given as goal

-- The graphs so far, and those of the files that are left, are all.
abbrev pub invariant-loop-file : goal.invariant-loop-file
invariant-loop-file l = l.graphs.items ++ map (graph_at l.core) (drop l.file-index l.files) ≡ map (graph_at l.core) l.files
