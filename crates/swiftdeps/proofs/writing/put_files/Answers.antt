use Rattle.bitstream.specs.Writer.{writing}
use Rattle.swiftdeps.specs.Spelling.{file_items}
use Rattle.swiftdeps.proofs.ShownLaws.{also_flat, whole_flat}
use Rattle.swiftdeps.proofs.WriteLaws.{turn_flat}
use Rattle.swiftdeps.proofs.writing.put_files.Goals as goal

pub loop-file-preserved : goal.loop-file-preserved
loop-file-preserved c =
    let inv = c.loop-file.invariant in
    let names = c.args.names.now in
    let files = c.args.files.now in
    let s = writing c.args.writer.now in
    let t = writing c.loop-file.writer in
    let u = writing c.put_file.new.writer in
    let turn = turn_flat (file_items names) files c.loop-file.file-index c.file-item.result s t u c.loop-file-test.true c.file-item.is inv.block inv.written c.in_ok-put_file.ensures.written in
    record { block = turn.0; written = turn.1; shown = also_flat (file_items names) files c.loop-file.file-index c.file-item.result s t u c.loop-file-test.true c.file-item.is inv.shown c.in_ok-put_file.ensures.shown }

pub returns-clause-shown : goal.returns-clause-shown
returns-clause-shown c = whole_flat (file_items c.args.names.now) c.args.files.now c.loop-file.file-index (writing c.args.writer.now) (writing c.loop-file.writer) c.loop-file-test.false c.loop-file.invariant.shown
