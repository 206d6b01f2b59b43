use Rattle.std.proofs.Common.{◌∙◌, ap, subst, Some}
use Rattle.dep_graph.specs.Arcs.{nodes_in, uses_key, HasEntered}
use Rattle.dep_graph.proofs.ArcLemmas.{indexed-in, other-path}
use Rattle.dep_graph.proofs.graph.put_in.Goals as goal

pub invariant_of-result : goal.invariant_of-result
invariant_of-result c =
    indexed-in c.graph.inside.files.entries c.insert.new.self.entries c.graph.inside.users c.enter_nodes.new.users c.args.path c.args.nodes c.graph.invariant
    (ap (λ files. nodes_in files c.args.path) c.graph.view_is ∙ c.requires.absent) c.requires.ordered c.in_ok-insert.ensures.updates.0
    (subst (λ nodes. HasEntered c.graph.inside.users c.enter_nodes.new.users c.args.path (uses_key (Some nodes))) c.as_slice.ensures c.in_ok-enter_nodes.ensures)

pub returns-clause-others : goal.returns-clause-others
returns-clause-others c = λ f other. c.in_ok-insert.ensures.updates.2 f (other-path c.args.path f other) ∙ ap (λ files. nodes_in files f) c.graph.view_is
