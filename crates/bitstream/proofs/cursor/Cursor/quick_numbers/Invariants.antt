use Rattle.std.proofs.Common.{◌≡◌, ◌-◌, ◌+◌, ◌≤◌, length}
use Rattle.bitstream.specs.declared.item.AbbrevOp.TheVariants.{Vbr}
use Rattle.bitstream.specs.Cursor.{here}
use Rattle.bitstream.specs.Stream.{numbers_at, prefixed}
use Rattle.bitstream.proofs.cursor.Cursor.quick_numbers.Given as goal

abbrev pub invariant-each : goal.invariant-each
invariant-each l = record {
  within : l.i ≤ l.count;
  room : length l.values.items + (l.count - l.i) ≤ 4;
  read : prefixed l.values.items (numbers_at (l.count - l.i) (Vbr 6) (here l.self)) ≡ prefixed l.fn.values.items (numbers_at l.count (Vbr 6) (here l.fn.self));
}

abbrev pub decreases-each : goal.decreases-each
decreases-each l = l.count - l.i
