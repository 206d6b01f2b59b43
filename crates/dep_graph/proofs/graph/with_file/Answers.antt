use Rattle.std.proofs.Common.{◌≡◌, ◌∙◌, ap, sym, List}
use Rattle.dep_key.specs.declared.graph.Node.{Node}
use Rattle.dep_key.specs.Moved.{has_moved}
use Rattle.dep_graph.specs.Arcs.{nodes_in, nodes_or_none}
use Rattle.dep_graph.proofs.ArcLemmas.{moved-in-graph}
use Rattle.dep_graph.proofs.graph.with_file.Goals as goal

pub returns-clause-changed : goal.returns-clause-changed
returns-clause-changed c =
    let same : c.in_ok-name.name ≡ c.args.file.path = c.in_ok-name.ensures ∙ c.as_str.ensures in
    let old : c.as_slice.result.now ≡ nodes_or_none (nodes_in c.args.graph c.args.file.path) = c.as_slice.ensures ∙ c.taken_out-rest.ensures.nodes ∙ ap (λ path. nodes_or_none (nodes_in c.args.graph path)) same in
    let new : c.as_slice-2.result.now ≡ nodes_or_none (nodes_in c.in_ok-made.made c.args.file.path) = c.as_slice-2.ensures ∙ sym (ap nodes_or_none (ap (nodes_in c.in_ok-made.made) (sym same) ∙ c.in_ok-made.ensures.here)) in
    moved-in-graph c.args.graph c.in_ok-made.made c.args.file.path c.in_ok-keys.keys.items
    (λ k. c.in_ok-keys.ensures.changed k ∙ ap (λ (nodes : List Node). has_moved nodes c.as_slice-2.result.now k) old ∙ ap (λ (nodes : List Node). has_moved (nodes_or_none (nodes_in c.args.graph c.args.file.path)) nodes k) new)
    (λ f other. c.in_ok-made.ensures.others f (λ e. other (e ∙ same)) ∙ c.taken_out-rest.ensures.others f (λ e. other (e ∙ same)))
