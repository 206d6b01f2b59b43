use Rattle.std.proofs.Common.{◌+◌, ℕ, List, sym, take, is_eq}
use Rattle.dep_key.specs.declared.graph.Node.{Node}
use Rattle.dep_key.specs.KeyOrder.{key_order}
use Rattle.dep_trace.specs.Traces.{is_named}
use Rattle.dep_trace.proofs.TraceLemmas.{moved-both, named-more}
use Rattle.dep_trace.proofs.noting.note_nodes.Goals as goal

pub loop-node-preserved : goal.loop-node-preserved
loop-node-preserved c =
    let nodes : List Node = c.args.nodes.now in
    let i : ℕ = c.loop-node.node-index in
    let node : Node = c.node-item.result in
    moved-both c.args.origins.now.entries c.loop-node.origins.entries c.note_key.new.origins.entries c.args.file.now (is_named (take i nodes)) (λ k. is_eq (key_order k node.key)) (is_named (take (i + 1) nodes))
    (named-more nodes i node c.loop-node-test.true (sym c.node-item.is)) c.loop-node.invariant c.in_ok-note_key.ensures
