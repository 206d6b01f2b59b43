use Rattle.std.proofs.Common.{◌≡◌, ◌∙◌, Some, cond, nat_eq, ap, sym}
use Rattle.std.specs.BTreeMap.{get, is_at}
use Rattle.std.specs.Cmp.Lexicographic.{pointwise, texts_ties}
use Rattle.dep_graph.specs.Arcs.{path_order}
use Rattle.wave_plan.proofs.MapLemmas.{find_back}
use Rattle.wave_plan.proofs.reasons.recorded_files.Goals as goal

pub loop-file-preserved-in_ok-insert : goal.loop-file-preserved-in_ok-insert
loop-file-preserved-in_ok-insert c = λ q.
    let at : is_at (path_order c.in_ok-path.path) q ≡ pointwise nat_eq c.in-Some.file.path q = ap (λ k. is_at (path_order k) q) c.in_ok-path.ensures ∙ sym (texts_ties c.in-Some.file.path q) in
    find_back (λ file. pointwise nat_eq file.path q) c.pop.new.self c.loop-file.files c.in-Some.file (get path_order c.loop-file.recorded q) _ _ c.in-Some.ensures
    (c.in_ok-insert.ensures.updates.0 q ∙ ap (λ b. cond b (Some c.in-Some.file) (get path_order c.loop-file.recorded q)) at) (c.loop-file.invariant q)

pub loop-file-preserved : goal.loop-file-preserved
loop-file-preserved c = λ q.
    let at : is_at (path_order c.in_ok-path.path) q ≡ pointwise nat_eq c.in-Some.file.path q = ap (λ k. is_at (path_order k) q) c.in_ok-path.ensures ∙ sym (texts_ties c.in-Some.file.path q) in
    find_back (λ file. pointwise nat_eq file.path q) c.pop.new.self c.loop-file.files c.in-Some.file (get path_order c.loop-file.recorded q) _ _ c.in-Some.ensures
    (c.in_ok-insert.ensures.updates.0 q ∙ ap (λ b. cond b (Some c.in-Some.file) (get path_order c.loop-file.recorded q)) at) (c.loop-file.invariant q)
