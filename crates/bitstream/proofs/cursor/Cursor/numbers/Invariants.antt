use Rattle.std.proofs.Common.{◌≡◌, ◌-◌, ◌≤◌}
use Rattle.bitstream.specs.Cursor.{here}
use Rattle.bitstream.specs.Stream.{numbers_at, prefixed}
use Rattle.bitstream.proofs.cursor.Cursor.numbers.Given as goal

abbrev pub invariant-each : goal.invariant-each
invariant-each l = record {
  within : l.i ≤ l.count;
  read : prefixed l.values.items (numbers_at (l.count - l.i) l.op (here l.self)) ≡ prefixed l.fn.values.items (numbers_at l.count l.op (here l.fn.self));
}

abbrev pub decreases-each : goal.decreases-each
decreases-each l = l.count - l.i
