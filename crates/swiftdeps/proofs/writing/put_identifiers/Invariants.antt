use Rattle.std.proofs.Common.{◌≡◌, take, map}
use Rattle.bitstream.specs.Writer.{writing}
use Rattle.swiftdeps.specs.Shown.{AlsoShows}
use Rattle.swiftdeps.specs.Written.{with_items, InBlock}
use Rattle.swiftdeps.proofs.WriteLaws.{named}
use Rattle.swiftdeps.proofs.writing.put_identifiers.Given as goal

abbrev pub invariant-loop-name : goal.invariant-loop-name
invariant-loop-name l = record {
  block : InBlock (writing l.writer);
  written : writing l.writer ≡ with_items (map named (take l.name-index l.name-items)) (writing l.initial.writer);
  shown : AlsoShows (map named (take l.name-index l.name-items)) (writing l.initial.writer) (writing l.writer);
}
