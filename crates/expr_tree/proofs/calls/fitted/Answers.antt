use Rattle.std.proofs.Common.{rules, ◌≡◌, ◌∷◌, length, drop, sym, ap, ◌∙◌}
use Rattle.std.proofs.lemmas.List.{take_rest}
use Rattle.std.specs.Vec.Iter.{into_iter_items, into_iter_len}
use Rattle.expr_check.specs.Messages.{orders}
use Rattle.expr_tree.proofs.Lists.{fits, fits_end}
use Rattle.expr_tree.proofs.calls.fitted.Goals as goal

pub loop-given-preserved : goal.loop-given-preserved
loop-given-preserved g c =
    let e : c.loop-given.rest.now ≡ c.param-item.result ∷ drop 1 c.loop-given.rest.now = search rules in
    let f : into_iter_items c.loop-given.given-iterator ≡ c.in-Some.given ∷ into_iter_items c.next.new.self = search rules in
    let n : into_iter_len c.next.new.self ≡ length (into_iter_items c.next.new.self) = search rules in
    (fits orders _ _ _ _ _ _ _ _ _ _ _ _ (e ∙ ap (λ m. c.param-item.result ∷ m) (sym (take_rest c.loop-given.rest.now 1))) f c.in_ok-value-in-len1-up.ensures c.in_ok-values-in-len1-up.ensures ∙ c.loop-given.invariant.0, n)

pub loop-given-preserved-in_ok-values-in-len1-up : goal.loop-given-preserved-in_ok-values-in-len1-up
loop-given-preserved-in_ok-values-in-len1-up g c =
    let e : c.loop-given.rest.now ≡ c.param-item.result ∷ drop 1 c.loop-given.rest.now = search rules in
    let f : into_iter_items c.loop-given.given-iterator ≡ c.in-Some.given ∷ into_iter_items c.next.new.self = search rules in
    let n : into_iter_len c.next.new.self ≡ length (into_iter_items c.next.new.self) = search rules in
    (fits orders _ _ _ _ _ _ _ _ _ _ _ _ (e ∙ ap (λ m. c.param-item.result ∷ m) (sym (take_rest c.loop-given.rest.now 1))) f c.in_ok-value-in-len1-up.ensures c.in_ok-values-in-len1-up.ensures ∙ c.loop-given.invariant.0, n)

pub returns : goal.returns
returns g c = fits_end orders _ _ c.loop-given.given-iterator _ _ c.loop-given.invariant.1 c.in-None.ensures.steps.0 ∙ c.loop-given.invariant.0
