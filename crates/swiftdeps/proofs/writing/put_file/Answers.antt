use Rattle.std.proofs.Common.{ℕ, List, [], ◌∷◌, length, None, ap, subst, ◌∙◌}
use Rattle.std.specs.List.{flat_map}
use Rattle.bitstream.specs.Reading.{Record}
use Rattle.bitstream.specs.Writer.{writing}
use Rattle.dep_key.specs.declared.graph.Node.{Node}
use Rattle.swiftdeps.specs.Spelling.{node_items, number_of}
use Rattle.swiftdeps.specs.Shown.{AlsoShows}
use Rattle.swiftdeps.proofs.ShownLaws.{also_one, also_flat, also_both, whole_flat}
use Rattle.swiftdeps.proofs.WriteLaws.{turn_flat}
use Rattle.swiftdeps.proofs.writing.put_file.Goals as goal

pub loop-node-preserved : goal.loop-node-preserved
loop-node-preserved c =
    let inv = c.loop-node.invariant in
    let names = c.args.names.now in
    let nodes = c.as_slice-node-items.result.now in
    let s = writing c.put_rec.new.self in
    let t = writing c.loop-node.writer in
    let u = writing c.put_node.new.writer in
    let turn = turn_flat (node_items names) nodes c.loop-node.node-index c.node-item.result s t u c.loop-node-test.true c.node-item.is inv.block inv.written c.in_ok-put_node.ensures.written in
    record { block = turn.0; written = turn.1; shown = also_flat (node_items names) nodes c.loop-node.node-index c.node-item.result s t u c.loop-node-test.true c.node-item.is inv.shown c.in_ok-put_node.ensures.shown }

pub returns-clause-shown : goal.returns-clause-shown
returns-clause-shown c =
    let names = c.args.names.now in
    let file = c.args.file.now in
    let s = writing c.args.writer.now in
    let t = writing c.put_rec.new.self in
    let u = writing c.loop-node.writer in
    let given = whole_flat (node_items names) c.as_slice-node-items.result.now c.loop-node.node-index t u c.loop-node-test.false c.loop-node.invariant.shown in
    let nodes = subst (λ (x : List Node). AlsoShows (flat_map (node_items names) x) t u) c.as_slice-node-items.ensures given in
    let number = c.number_of-path.ensures ∙ ap (number_of names) c.as_str.ensures in
    let put = also_one (length s.bits) (Record 6 (c.number_of-path.result ∷ []) None) s t c.in_ok-put_rec.ensures.wrote in
    let own = subst (λ (n : ℕ). AlsoShows (Record 6 (n ∷ []) None ∷ []) s t) number put in
    also_both (Record 6 (number_of names file.path ∷ []) None ∷ []) (flat_map (node_items names) file.nodes) s t u own nodes
