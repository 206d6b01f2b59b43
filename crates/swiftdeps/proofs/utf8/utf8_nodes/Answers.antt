use Rattle.swiftdeps.specs.Written.{node_texts}
use Rattle.swiftdeps.proofs.SpelledLaws.{utf8_turn, utf8_whole}
use Rattle.swiftdeps.proofs.utf8.utf8_nodes.Goals as goal

pub loop-node-preserved : goal.loop-node-preserved
loop-node-preserved c = utf8_turn node_texts c.args.nodes.now c.loop-node.node-index c.node-item.result c.loop-node-test.true c.node-item.is c.loop-node.invariant c.utf8_node.ensures

pub returns : goal.returns
returns c = utf8_whole node_texts c.args.nodes.now c.loop-node.node-index c.loop-node-test.false c.loop-node.invariant
