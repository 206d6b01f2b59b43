use Rattle.swiftdeps.specs.Written.{key_texts}
use Rattle.swiftdeps.proofs.SpelledLaws.{utf8_turn, utf8_whole}
use Rattle.swiftdeps.proofs.utf8.utf8_keys.Goals as goal

pub loop-key-preserved : goal.loop-key-preserved
loop-key-preserved c = utf8_turn key_texts c.args.keys.now c.loop-key.key-index c.key-item.result c.loop-key-test.true c.key-item.is c.loop-key.invariant c.utf8_key.ensures

pub returns : goal.returns
returns c = utf8_whole key_texts c.args.keys.now c.loop-key.key-index c.loop-key-test.false c.loop-key.invariant
