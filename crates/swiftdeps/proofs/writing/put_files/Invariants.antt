use Rattle.std.proofs.Common.{◌≡◌, take}
use Rattle.std.specs.List.{flat_map}
use Rattle.bitstream.specs.Writer.{writing}
use Rattle.swiftdeps.specs.Spelling.{file_items}
use Rattle.swiftdeps.specs.Shown.{AlsoShows}
use Rattle.swiftdeps.specs.Written.{with_items, InBlock}
use Rattle.swiftdeps.proofs.writing.put_files.Given as goal

abbrev pub invariant-loop-file : goal.invariant-loop-file
invariant-loop-file l = record {
  block : InBlock (writing l.writer);
  written : writing l.writer ≡ with_items (flat_map (file_items l.names) (take l.file-index l.files)) (writing l.initial.writer);
  shown : AlsoShows (flat_map (file_items l.names) (take l.file-index l.files)) (writing l.initial.writer) (writing l.writer);
}
