use Rattle.std.proofs.Common.{◌≡◌, ◌∙◌, ap, sym, List}
use Rattle.dep_key.specs.declared.graph.Node.{Node}
use Rattle.dep_key.specs.Moved.{has_moved}
use Rattle.dep_graph.specs.Arcs.{nodes_in, nodes_or_none}
use Rattle.dep_graph.proofs.ArcLemmas.{moved-in-graph}
use Rattle.dep_graph.proofs.graph.without_file.Goals as goal

pub returns-clause-changed : goal.returns-clause-changed
returns-clause-changed c =
    let old : c.as_slice.result.now ≡ nodes_or_none (nodes_in c.args.graph c.args.path.now) = c.as_slice.ensures ∙ c.taken_out-rest.ensures.nodes in
    let new : c.as_slice-2.result.now ≡ nodes_or_none (nodes_in c.taken_out-rest.result.0 c.args.path.now) = c.as_slice-2.ensures.value ∙ c.new-none.ensures.items ∙ sym (ap nodes_or_none c.taken_out-rest.ensures.here) in
    moved-in-graph c.args.graph c.taken_out-rest.result.0 c.args.path.now c.in_ok-keys.keys.items
    (λ k. c.in_ok-keys.ensures.changed k ∙ ap (λ (nodes : List Node). has_moved nodes c.as_slice-2.result.now k) old ∙ ap (λ (nodes : List Node). has_moved (nodes_or_none (nodes_in c.args.graph c.args.path.now)) nodes k) new)
    c.taken_out-rest.ensures.others
