use Rattle.std.proofs.Common.{◌≡◌, ◌∙◌, ap, sym, subst, Some}
use Rattle.dep_graph.specs.Arcs.{nodes_in, nodes_or_none, uses_key, HasLeft}
use Rattle.dep_graph.proofs.ArcLemmas.{indexed-out, other-path}
use Rattle.dep_graph.proofs.graph.taken_out.Goals as goal
use Rattle.dep_graph.proofs.graph.taken_out.Goals.{in-Some, in-None}

pub invariant_of-result : goal.invariant_of-result
invariant_of-result c =
    let was : c.match-remove.old ≡ nodes_or_none (nodes_in c.graph.inside.files.entries c.args.path.now) = elim c.match-remove.branch [
      | in-Some w ↦ w.old-is ∙ sym (ap nodes_or_none (sym c.remove.ensures.value ∙ w.in-Some.is))
      | in-None w ↦ w.old-is ∙ w.from_vec-old.ensures ∙ w.new.ensures.items ∙ sym (ap nodes_or_none (sym c.remove.ensures.value ∙ w.in-None.is))
    ] in
    indexed-out c.graph.inside.files.entries c.remove.new.self.entries c.graph.inside.users c.leave_nodes.new.users c.args.path.now c.graph.invariant c.remove.ensures.updates.0
    (subst (λ nodes. HasLeft c.graph.inside.users c.leave_nodes.new.users c.args.path.now (uses_key (Some nodes))) (c.as_slice.ensures ∙ was) c.leave_nodes.ensures)

pub returns-clause-others : goal.returns-clause-others
returns-clause-others c = λ f other. c.remove.ensures.updates.2 f (other-path c.args.path.now f other) ∙ ap (λ files. nodes_in files f) c.graph.view_is
