use Rattle.std.proofs.Common.{◌≡◌, ◌-◌, ◌≤◌, ◌==◌, All, IsTrue, true, false}
use Rattle.bitstream.specs.Cursor.{here}
use Rattle.bitstream.specs.Stream.{has_width, ops_at, prefixed}
use Rattle.bitstream.proofs.cursor.Cursor.ops.Given as goal

abbrev pub invariant-each : goal.invariant-each
invariant-each l = record {
  within : l.i ≤ l.count;
  widths : All (λ op. IsTrue (has_width op)) l.ops.items;
  read : prefixed l.ops.items (ops_at l.entered (l.count - l.i) (l.i == 0) l.in_array (here l.self)) ≡ ops_at l.entered l.count true false (here l.fn.self);
}

abbrev pub decreases-each : goal.decreases-each
decreases-each l = l.count - l.i
