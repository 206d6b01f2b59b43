use Rattle.std.proofs.Common.{◌+◌, ℕ, List, sym, take, is_eq}
use Rattle.dep_key.specs.declared.key.Key.{Key}
use Rattle.dep_key.specs.KeyOrder.{key_order}
use Rattle.dep_graph.specs.Moves.{is_one}
use Rattle.dep_trace.specs.Traces.{moved_beside}
use Rattle.dep_trace.proofs.TraceLemmas.{found-both, one-key-more}
use Rattle.dep_trace.proofs.tracing.find_keys.Goals as goal

pub loop-key-preserved : goal.loop-key-preserved
loop-key-preserved c =
    let keys : List Key = c.args.keys.now in
    let i : ℕ = c.loop-key.key-index in
    let key : Key = c.key-item.result in
    found-both c.args.found.now.keys c.loop-key.found.keys c.find_key.new.found.keys (moved_beside c.args.origins.now.entries c.args.file.now) (is_one (take i keys)) (λ k. is_eq (key_order k key)) (is_one (take (i + 1) keys))
    (one-key-more keys i key c.loop-key-test.true (sym c.key-item.is)) c.loop-key.invariant c.in_ok-find_key.ensures
