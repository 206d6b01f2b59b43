use Rattle.std.proofs.Common.{rules, ◌≡◌, ◌∙◌, ◌||◌, ◌+◌, true, cond, drop, nat_eq, nat_cmp, ap, sym}
use Rattle.std.specs.BTreeSet as sets
use Rattle.std.specs.BTreeMap.{is_at}
use Rattle.std.specs.Cmp.Lexicographic.{slice_cmp, pointwise, texts_ties}
use Rattle.std.proofs.lemmas.List.{at_drop_more}
use Rattle.decl_index.specs.Declarations.{is_among}
use Rattle.file_check.proofs.SiteLemmas.{one_more_known}
use Rattle.file_check.proofs.sites.set_of_names.Goals as goal

pub loop-name-preserved : goal.loop-name-preserved
loop-name-preserved c = λ name.
    let names = c.args.names.now in
    let i = c.loop-name.name-index in
    let one = c.name-item.result in
    let had = sets.contains (slice_cmp nat_cmp) c.loop-name.set name in
    let copied : c.in_ok-clone.field-0 ≡ one = search rules in
    let known : sets.contains (slice_cmp nat_cmp) c.insert.new.self name ≡ cond (pointwise nat_eq one name) true had =
    c.in_ok-insert.ensures.updates.0 name ∙ ap (λ b. cond b true had) (ap (λ k. is_at (slice_cmp nat_cmp k) name) copied ∙ sym (texts_ties one name)) in
    let left : is_among (drop i names) name ≡ pointwise nat_eq one name || is_among (drop (i + 1) names) name =
    at_drop_more (λ fs. is_among fs name) names i one c.loop-name-test.true ∙ ap (λ f. pointwise nat_eq f name || is_among (drop (i + 1) names) name) (sym c.name-item.is) in
    rw known (one_more_known (pointwise nat_eq one name) had (is_among (drop (i + 1) names) name)) ∙ ap (λ b. had || b) (sym left) ∙ c.loop-name.invariant name
