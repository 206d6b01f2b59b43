use Rattle.std.proofs.Common.{rules, ◌≡◌, ◌∙◌, ◌||◌, ◌+◌, true, cond, drop, ap, sym}
use Rattle.std.specs.List.{list_any}
use Rattle.std.specs.Ordering.{eq_by_cmp}
use Rattle.std.specs.BTreeSet as sets
use Rattle.std.specs.BTreeMap.{is_at}
use Rattle.std.proofs.lemmas.List.{at_drop_more}
use Rattle.dep_key.specs.KeyOrder.{key_order}
use Rattle.file_check.proofs.SiteLemmas.{one_more_known}
use Rattle.file_check.proofs.sites.set_of_keys.Goals as goal

pub loop-key-preserved : goal.loop-key-preserved
loop-key-preserved c = λ key.
    let keys = c.args.keys.now in
    let i = c.loop-key.key-index in
    let one = c.key-item.result in
    let had = sets.contains key_order c.loop-key.set key in
    let copied : c.in_ok-clone.field-0 ≡ one = search rules in
    let known : sets.contains key_order c.insert.new.self key ≡ cond (eq_by_cmp key_order one key) true had =
    c.in_ok-insert.ensures.updates.0 key ∙ ap (λ b. cond b true had) (ap (λ k. is_at (key_order k) key) copied) in
    let left : list_any (λ k. eq_by_cmp key_order k key) (drop i keys) ≡ eq_by_cmp key_order one key || list_any (λ k. eq_by_cmp key_order k key) (drop (i + 1) keys) =
    at_drop_more (λ ks. list_any (λ k. eq_by_cmp key_order k key) ks) keys i one c.loop-key-test.true ∙ ap (λ k. eq_by_cmp key_order k key || list_any (λ k. eq_by_cmp key_order k key) (drop (i + 1) keys)) (sym c.key-item.is) in
    rw known (one_more_known (eq_by_cmp key_order one key) had (list_any (λ k. eq_by_cmp key_order k key) (drop (i + 1) keys))) ∙ ap (λ b. had || b) (sym left) ∙ c.loop-key.invariant key
