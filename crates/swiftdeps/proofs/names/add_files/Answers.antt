use Rattle.swiftdeps.specs.Written.{file_texts}
use Rattle.swiftdeps.proofs.NameLaws.{adds_turn, adds_whole}
use Rattle.swiftdeps.proofs.names.add_files.Goals as goal

pub loop-file-preserved : goal.loop-file-preserved
loop-file-preserved c =
    adds_turn file_texts c.args.files.now c.loop-file.file-index c.file-item.result c.args.texts.now c.loop-file.texts c.add_file.new.texts c.loop-file-test.true c.file-item.is c.loop-file.invariant c.in_ok-add_file.ensures

pub returns : goal.returns
returns c = adds_whole file_texts c.args.files.now c.loop-file.file-index c.args.texts.now c.loop-file.texts c.loop-file-test.false c.loop-file.invariant
