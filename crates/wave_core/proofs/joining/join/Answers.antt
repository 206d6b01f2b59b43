use Rattle.std.proofs.Common.{◌≡◌, ◌∙◌, ap, sym, ℕ, ◌+◌, true, not, ◌||◌, cond, List, take, subst, is_eq}
use Rattle.std.specs.BTreeMap.{is_at}
use Rattle.std.specs.BTreeSet.{BTreeSet}
use Rattle.dep_key.specs.declared.key.Key.{Key}
use Rattle.dep_key.specs.KeyOrder.{key_order}
use Rattle.dep_graph.specs.Moves.{is_one}
use Rattle.wave_core.proofs.WakingLemmas.{held-more, first-more, first-same, absent-from, present-from, one-more-key}
use Rattle.wave_core.proofs.joining.join.Goals as goal
use Rattle.wave_core.proofs.joining.join.Goals.{then-branch+in_ok-copy-2+in_ok-insert-2, else-branch}

pub loop-key-preserved : goal.loop-key-preserved
loop-key-preserved c =
    let key : Key = c.key-item.result in
    let keys : List Key = c.args.keys.now in
    let i : ℕ = c.loop-key.key-index in
    let old : List Key = c.args.changed.now.keys in
    let mid : List Key = c.loop-key.changed.keys in
    let new : List Key = c.insert.new.self.keys in
    let more : (k : Key) → is_one (take (i + 1) keys) k ≡ (is_one (take i keys) k || is_eq (key_order k key)) = one-more-key keys i key c.loop-key-test.true (sym c.key-item.is) in
    let gained : (k : Key) → is_one new k ≡ cond (is_at (key_order key) k) true (is_one mid k) =
    subst (λ (q : Key). (k : Key) → is_one new k ≡ cond (is_at (key_order q) k) true (is_one mid k)) c.in_ok-copy.ensures.cases c.in_ok-insert.ensures.updates.0 in
    let added : c.in_ok-insert.field-0 ≡ not (is_one mid key) = c.in_ok-insert.ensures.added ∙ ap (λ (q : Key). not (is_one mid q)) c.in_ok-copy.ensures.cases in
    record {
      held = held-more old mid new key (is_one (take i keys)) (is_one (take (i + 1) keys)) more c.loop-key.invariant.held gained;
      first_held = elim c.if-branch.branch [
        | then-branch+in_ok-copy-2+in_ok-insert-2 w ↦ λ k.
            ap (λ (v : BTreeSet Key). is_one v.keys k) w.first-is
            ∙ first-more old mid new key (is_one (take i keys)) c.loop-key.first.keys w.insert-then-branch.new.self.keys c.loop-key.invariant.held gained
            (subst (λ (q : Key). (k : Key) → is_one w.insert-then-branch.new.self.keys k ≡ cond (is_at (key_order q) k) true (is_one c.loop-key.first.keys k)) w.in_ok-copy-2.ensures.cases w.in_ok-insert-2.ensures.updates.0)
            (absent-from c.in_ok-insert.field-0 (is_one mid key) added w.if-branch.true) c.loop-key.invariant.first_held k
        | else-branch w ↦ λ k.
            ap (λ (v : BTreeSet Key). is_one v.keys k) w.first-is
            ∙ first-same old mid new key c.loop-key.first.keys gained (present-from c.in_ok-insert.field-0 (is_one mid key) added w.if-branch.false) c.loop-key.invariant.first_held k
      ];
    }
