use Rattle.std.proofs.Common.{◌≡◌, ◌++◌, ◌∷◌, [], map, sym, ap, ◌∙◌, subst}
use Rattle.dep_key.specs.declared.graph.FileGraph.{FileGraph}
use Rattle.dep_key.specs.GraphOrder.{AreInOrder}
use Rattle.file_nodes.specs.Graphs.{node_keys, node_of, implementation_node}
use Rattle.file_nodes.specs.Own.{own_node}
use Rattle.file_nodes.proofs.OrderLemmas.{in-order}
use Rattle.file_nodes.proofs.OwnLemmas.{nodes_are}
use Rattle.file_nodes.proofs.graphs.graph_in.Goals as goal

pub returns-clause-graph : goal.returns-clause-graph
returns-clause-graph g c here =
    let m = g.A.Answers.meanings c.args.answers.now in
    let f = c.args.file.now in
    let uses = c.args.implementation.now.keys in
    let path : c.in_ok-path.path ≡ f.path = c.in_ok-path.ensures ∙ c.as_str-2.ensures in
    let definitions : c.in_ok-made.made.items ≡ map (node_of m f) (node_keys f) =
    c.in_ok-made.ensures ∙ ap (map (own_node m c.args.index.now c.args.number)) c.in_ok-keys.ensures ∙ nodes_are m c.args.index.now c.args.number f (node_keys f) here in
    let own : c.in_ok-own.own ≡ implementation_node f.path uses = c.in_ok-own.ensures.node ∙ ap (λ p. implementation_node p uses) c.as_str.ensures in
    let nodes = c.from_vec.ensures ∙ c.in_ok-push.ensures.items ∙ (λ i. definitions i ++ own i ∷ []) in
    λ i. record { path = path i; nodes = nodes i }

pub returns-clause-ordered : goal.returns-clause-ordered
returns-clause-ordered g c here =
    let m = g.A.Answers.meanings c.args.answers.now in
    subst AreInOrder (sym (ap (λ (made : FileGraph). made.nodes) (returns-clause-graph g c here))) (in-order m c.args.implementation.now.keys c.args.file.now c.in_ok-own.ensures.ascending)
