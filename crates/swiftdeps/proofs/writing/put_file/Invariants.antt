use Rattle.std.proofs.Common.{◌≡◌, take}
use Rattle.std.specs.List.{flat_map}
use Rattle.bitstream.specs.Writer.{writing}
use Rattle.swiftdeps.specs.Spelling.{node_items}
use Rattle.swiftdeps.specs.Shown.{AlsoShows}
use Rattle.swiftdeps.specs.Written.{with_items, InBlock}
use Rattle.swiftdeps.proofs.writing.put_file.Given as goal

abbrev pub invariant-loop-node : goal.invariant-loop-node
invariant-loop-node l = record {
  block : InBlock (writing l.writer);
  written : writing l.writer ≡ with_items (flat_map (node_items l.names) (take l.node-index l.node-items)) (writing l.initial.writer);
  shown : AlsoShows (flat_map (node_items l.names) (take l.node-index l.node-items)) (writing l.initial.writer) (writing l.writer);
}
