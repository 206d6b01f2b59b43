use Rattle.std.proofs.Common.{◌≡◌, ◌∙◌, ◌||◌, ap, sym, not, is_eq, ℕ, List, true, false, Some}
use Rattle.std.specs.BTreeMap.{is_at}
use Rattle.dep_graph.specs.Arcs.{path_order}
use Rattle.dep_trace.specs.Traces.{has_other}
use Rattle.dep_trace.proofs.TraceLemmas.{joined-same, joined-other}
use Rattle.dep_trace.proofs.noting.joined.Goals as goal

pub returns-then-is_eq : goal.returns-then-is_eq
returns-then-is_eq c =
    let other : List ℕ = c.in-Some-One.other in
    let file : List ℕ = c.args.file.now in
    let same : is_at (path_order other) file ≡ true = ap is_eq (sym c.cmp.ensures) ∙ sym c.is_eq.ensures ∙ c.if-is_eq.true in
    λ f. joined-same other file f same ∙ sym (ap (λ o. has_other o f || not (is_at (path_order file) f)) (c.in-Some-One.is ∙ ap Some c.in-Some-One.field-0-is))

pub returns-else-is_eq : goal.returns-else-is_eq
returns-else-is_eq c =
    let other : List ℕ = c.in-Some-One.other in
    let file : List ℕ = c.args.file.now in
    let apart : is_at (path_order other) file ≡ false = ap is_eq (sym c.cmp.ensures) ∙ sym c.is_eq.ensures ∙ c.if-is_eq.false in
    λ f. joined-other other file f apart ∙ sym (ap (λ o. has_other o f || not (is_at (path_order file) f)) (c.in-Some-One.is ∙ ap Some c.in-Some-One.field-0-is))
