use Rattle.std.proofs.Common.{◌≡◌, ◌∙◌, ◌||◌, ap, not, cond, Some, subst}
use Rattle.std.specs.Map.{lookup}
use Rattle.std.specs.BTreeMap.{is_at}
use Rattle.dep_key.specs.declared.key.Key.{Key}
use Rattle.dep_key.specs.KeyOrder.{key_order}
use Rattle.dep_graph.specs.Arcs.{path_order}
use Rattle.dep_trace.specs.Traces.{has_other}
use Rattle.dep_trace.proofs.TraceLemmas.{moved-one}
use Rattle.dep_trace.proofs.noting.note_key.Goals as goal

pub returns : goal.returns
returns c =
    moved-one c.args.origins.now.entries c.remove.new.self.entries c.insert.new.self.entries c.args.key.now c.args.file.now c.in_ok-origin.origin c.remove.ensures.updates.0
    (λ f. c.in_ok-origin.ensures f ∙ ap (λ o. has_other o f || not (is_at (path_order c.args.file.now) f)) c.remove.ensures.value)
    (subst (λ (p : Key). (q : Key) → lookup (is_at (key_order q)) c.insert.new.self.entries ≡ cond (is_at (key_order p) q) (Some c.in_ok-origin.origin) (lookup (is_at (key_order q)) c.remove.new.self.entries)) c.in_ok-copy.ensures.cases c.in_ok-insert.ensures.updates.0)
