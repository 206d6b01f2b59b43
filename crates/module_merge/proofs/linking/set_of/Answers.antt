use Rattle.std.proofs.Common.{rules, ◌≡◌, ◌∙◌, ◌||◌, ◌+◌, Bool, true, false, cond, drop, nat_eq, nat_cmp, ap, sym, refl}
use Rattle.std.specs.BTreeSet as sets
use Rattle.std.specs.BTreeMap.{is_at}
use Rattle.std.specs.Cmp.Lexicographic.{slice_cmp, pointwise, texts_ties}
use Rattle.std.proofs.lemmas.List.{at_drop_more}
use Rattle.ordered_lists.specs.Among.{is_among}
use Rattle.module_merge.proofs.linking.set_of.Goals as goal

-- one more symbol among those that are known, and one fewer among those that are left
one_more_known : (at known left : Bool) → cond at true known || left ≡ known || (at || left)
one_more_known true true left = refl
one_more_known true false left = refl
one_more_known false true left = refl
one_more_known false false left = refl

pub loop-symbol-preserved : goal.loop-symbol-preserved
loop-symbol-preserved c = λ q.
    let symbols = c.args.symbols.now in
    let i = c.loop-symbol.symbol-index in
    let symbol = c.symbol-item.result in
    let had = sets.contains (slice_cmp nat_cmp) c.loop-symbol.set q in
    let copied : c.in_ok-clone.field-0 ≡ symbol = search rules in
    let known : sets.contains (slice_cmp nat_cmp) c.insert.new.self q ≡ cond (pointwise nat_eq symbol q) true had =
    c.in_ok-insert.ensures.updates.0 q ∙ ap (λ b. cond b true had) (ap (λ k. is_at (slice_cmp nat_cmp k) q) copied ∙ sym (texts_ties symbol q)) in
    let left : is_among (drop i symbols) q ≡ pointwise nat_eq symbol q || is_among (drop (i + 1) symbols) q =
    at_drop_more (λ ss. is_among ss q) symbols i symbol c.loop-symbol-test.true ∙ ap (λ s. pointwise nat_eq s q || is_among (drop (i + 1) symbols) q) (sym c.symbol-item.is) in
    rw known (one_more_known (pointwise nat_eq symbol q) had (is_among (drop (i + 1) symbols) q)) ∙ ap (λ b. had || b) (sym left) ∙ c.loop-symbol.invariant q
