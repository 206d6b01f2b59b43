use Rattle.std.proofs.Common.{List, [], ◌∷◌, subst}
use Rattle.std.specs.List.{flat_map}
use Rattle.dep_key.specs.declared.graph.Node.{Node}
use Rattle.swiftdeps.specs.Written.{node_texts, Adds}
use Rattle.swiftdeps.proofs.NameLaws.{adds_both, adds_equal, adds_turn, adds_whole}
use Rattle.swiftdeps.proofs.names.add_file.Goals as goal

pub loop-node-preserved : goal.loop-node-preserved
loop-node-preserved c =
    adds_turn node_texts c.as_slice-node-items.result.now c.loop-node.node-index c.node-item.result c.add.new.self c.loop-node.texts c.add_node.new.texts c.loop-node-test.true c.node-item.is c.loop-node.invariant c.in_ok-add_node.ensures

pub returns : goal.returns
returns c =
    let file = c.args.file.now in
    let nodes = c.as_slice-node-items.result.now in
    let a = c.args.texts.now in
    let b = c.add.new.self in
    let d = c.loop-node.texts in
    let more = subst (λ (x : List Node). Adds (flat_map node_texts x) b d) c.as_slice-node-items.ensures (adds_whole node_texts nodes c.loop-node.node-index b d c.loop-node-test.false c.loop-node.invariant) in
    adds_both (file.path ∷ []) (flat_map node_texts file.nodes) a b d (adds_equal c.as_str.result.now file.path a b c.as_str.ensures c.in_ok-add.ensures) more
