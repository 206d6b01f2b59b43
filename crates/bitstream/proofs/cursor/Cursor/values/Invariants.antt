use Rattle.std.proofs.Common.{◌≡◌, ◌-◌, length, drop}
use Rattle.bitstream.specs.Cursor.{here}
use Rattle.bitstream.specs.Stream.{values_at, behind_numbers}
use Rattle.bitstream.proofs.cursor.Cursor.values.Given as goal

abbrev pub invariant-each : goal.invariant-each
invariant-each l = behind_numbers l.values.items (values_at (drop l.i l.ops) (here l.self)) ≡ behind_numbers l.fn.values.items (values_at l.ops (here l.fn.self))

abbrev pub decreases-each : goal.decreases-each
decreases-each l = length l.ops - l.i
