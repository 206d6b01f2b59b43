use Rattle.std.proofs.Common.{◌+◌, ℕ, List, sym, take, is_eq}
use Rattle.dep_key.specs.declared.key.Key.{Key}
use Rattle.dep_key.specs.KeyOrder.{key_order}
use Rattle.dep_graph.specs.Moves.{is_one}
use Rattle.dep_trace.proofs.TraceLemmas.{moved-both, one-key-more}
use Rattle.dep_trace.proofs.noting.note_keys.Goals as goal

pub loop-key-preserved : goal.loop-key-preserved
loop-key-preserved c =
    let keys : List Key = c.args.keys.now in
    let i : ℕ = c.loop-key.key-index in
    let key : Key = c.key-item.result in
    moved-both c.args.origins.now.entries c.loop-key.origins.entries c.note_key.new.origins.entries c.args.file.now (is_one (take i keys)) (λ k. is_eq (key_order k key)) (is_one (take (i + 1) keys))
    (one-key-more keys i key c.loop-key-test.true (sym c.key-item.is)) c.loop-key.invariant c.in_ok-note_key.ensures
