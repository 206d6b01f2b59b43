use Rattle.swiftdeps.specs.Written.{file_texts}
use Rattle.swiftdeps.proofs.SpelledLaws.{utf8_turn, utf8_whole}
use Rattle.swiftdeps.proofs.utf8.utf8_files.Goals as goal

pub loop-file-preserved : goal.loop-file-preserved
loop-file-preserved c = utf8_turn file_texts c.args.files.now c.loop-file.file-index c.file-item.result c.loop-file-test.true c.file-item.is c.loop-file.invariant c.utf8_file.ensures

pub returns : goal.returns
returns c = utf8_whole file_texts c.args.files.now c.loop-file.file-index c.loop-file-test.false c.loop-file.invariant
