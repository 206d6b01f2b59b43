use Rattle.std.proofs.Common.{◌≡◌, ◌∙◌, sym, true, cond, subst}
use Rattle.std.specs.BTreeMap.{is_at}
use Rattle.dep_key.specs.declared.key.Key.{Key}
use Rattle.dep_key.specs.KeyOrder.{key_order}
use Rattle.dep_graph.specs.Moves.{is_one}
use Rattle.dep_trace.specs.Traces.{moved_beside}
use Rattle.dep_trace.proofs.TraceLemmas.{found-not, found-one}
use Rattle.dep_trace.proofs.tracing.find_key.Goals as goal

pub returns-then-not-is_moved_beside : goal.returns-then-not-is_moved_beside
returns-then-not-is_moved_beside c =
    found-not c.args.found.now.keys (moved_beside c.args.origins.now.entries c.args.file.now) c.args.key.now (sym c.is_moved_beside.ensures ∙ c.if-not-is_moved_beside.true)

pub returns : goal.returns
returns c =
    found-one c.args.found.now.keys c.insert.new.self.keys (moved_beside c.args.origins.now.entries c.args.file.now) c.args.key.now (sym c.is_moved_beside.ensures ∙ c.if-not-is_moved_beside.false)
    (subst (λ (p : Key). (q : Key) → is_one c.insert.new.self.keys q ≡ cond (is_at (key_order p) q) true (is_one c.args.found.now.keys q)) c.in_ok-copy.ensures.cases c.in_ok-insert.ensures.updates.0)
