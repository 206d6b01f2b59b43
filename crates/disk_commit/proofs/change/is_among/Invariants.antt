use Rattle.std.proofs.Common.{◌≡◌, drop}
use Rattle.ordered_lists.specs.Among.{is_among}
use Rattle.disk_commit.proofs.change.is_among.Given as goal

-- None of the names so far is the one.
abbrev pub invariant-loop-other : goal.invariant-loop-other
invariant-loop-other l = is_among (drop l.other-index l.names) l.name ≡ is_among l.names l.name
