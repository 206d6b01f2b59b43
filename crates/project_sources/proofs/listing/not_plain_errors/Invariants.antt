use Rattle.std.proofs.Common.{◌≡◌, ◌++◌, drop}
use Rattle.project_sources.specs.Refusals.{not_plain_errors}
use Rattle.project_sources.specs.Parsed.{entry_paths}
use Rattle.project_sources.proofs.listing.not_plain_errors.Given as goal

-- The errors so far, and those of the entries that are left, are all.
abbrev pub invariant-loop-entry : goal.invariant-loop-entry
invariant-loop-entry l = l.errors.items ++ not_plain_errors (entry_paths (drop l.entry-index l.entries)) ≡ not_plain_errors (entry_paths l.entries)
