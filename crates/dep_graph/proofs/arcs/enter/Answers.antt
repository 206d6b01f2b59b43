use Rattle.std.proofs.Common.{◌≡◌, ◌∙◌, ap, sym, List, ℕ, Some, cond, true}
use Rattle.std.specs.BTreeMap.{get, is_at}
use Rattle.std.specs.BTreeSet.{contains}
use Rattle.std.specs.List.{list_any}
use Rattle.dep_key.specs.KeyOrder.{key_order}
use Rattle.dep_graph.specs.Arcs.{path_order, set_has}
use Rattle.dep_graph.proofs.ArcLemmas.{entered-one}
use Rattle.dep_graph.proofs.arcs.enter.Goals as goal
use Rattle.dep_graph.proofs.arcs.enter.Goals.{in-Some, in-None}

pub returns : goal.returns
returns c =
    let was : (f : List ℕ) → contains path_order c.match-remove.known f ≡ set_has (get key_order c.args.users.now c.args.key.now) f = elim c.match-remove.branch [
      | in-Some w ↦ λ f. ap (λ s. contains path_order s f) w.known-is ∙ sym (ap (λ o. set_has o f) (sym c.remove.ensures.value ∙ w.in-Some.is))
      | in-None w ↦ λ f. ap (λ s. contains path_order s f) w.known-is ∙ ap (list_any (is_at (path_order f))) w.new-known.ensures.empty ∙ sym (ap (λ o. set_has o f) (sym c.remove.ensures.value ∙ w.in-None.is))
    ] in
    entered-one c.args.users.now c.remove.new.self c.insert-2.new.self c.args.key.now c.args.file.now c.match-remove.known c.insert.new.self c.remove.ensures.updates.0 was
    (λ f. c.in_ok-insert.ensures.updates.0 f ∙ ap (λ p. cond (is_at (path_order p) f) true (contains path_order c.match-remove.known f)) c.in_ok-copy.ensures)
    (λ q. c.in_ok-insert-2.ensures.updates.0 q ∙ ap (λ p. cond (is_at (key_order p) q) (Some c.insert.new.self) (get key_order c.remove.new.self q)) c.in_ok-used.ensures.cases)
