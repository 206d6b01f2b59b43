use Rattle.std.proofs.Common.{◌≡◌}
use Rattle.bitstream.specs.Cursor.{here}
use Rattle.bitstream.specs.Reading.{context, next_at, left_at}
use Rattle.bitstream.proofs.entry_reader.EntryReader.read_item.Given as goal

abbrev pub invariant-each : goal.invariant-each
invariant-each l = next_at l.entries (context l.self) (here l.self.cursor) ≡ next_at (left_at (here l.fn.self.cursor)) (context l.fn.self) (here l.fn.self.cursor)

abbrev pub decreases-each : goal.decreases-each
decreases-each l = l.entries
