use Rattle.std.proofs.Common.{◌≡◌, ◌++◌, All, IsTrue, drop}
use Rattle.drv_outside.specs.Plain.{is_plain_name}
use Rattle.disk_commit.specs.Change.{others}
use Rattle.disk_commit.proofs.change.others.Given as goal

-- The names so far, and those that are to come, are all but the gate's.
abbrev pub invariant-loop-name : goal.invariant-loop-name
invariant-loop-name l = l.left.items ++ others l.gate (drop l.name-index l.names) ≡ others l.gate l.names
