use Rattle.std.proofs.Common.{◌≡◌, take, map}
use Rattle.bitstream.specs.Writer.{writing}
use Rattle.swiftdeps.specs.Spelling.{use_item}
use Rattle.swiftdeps.specs.Shown.{AlsoShows}
use Rattle.swiftdeps.specs.Written.{with_items, InBlock}
use Rattle.swiftdeps.proofs.writing.put_node.Given as goal

abbrev pub invariant-loop-key : goal.invariant-loop-key
invariant-loop-key l = record {
  block : InBlock (writing l.writer);
  written : writing l.writer ≡ with_items (map (use_item l.names) (take l.key-index l.key-items)) (writing l.initial.writer);
  shown : AlsoShows (map (use_item l.names) (take l.key-index l.key-items)) (writing l.initial.writer) (writing l.writer);
}
