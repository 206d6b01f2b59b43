use Rattle.std.proofs.Common.{◌≡◌, ◌++◌, drop}
use Rattle.project_sources.specs.Parsed.{entry_paths}
use Rattle.driver_build.proofs.asking.paths_of.Given as goal

-- The paths so far, and those of the entries that are left, are all.
abbrev pub invariant-loop-entry : goal.invariant-loop-entry
invariant-loop-entry l = l.paths.items ++ entry_paths (drop l.entry-index l.entries) ≡ entry_paths l.entries
