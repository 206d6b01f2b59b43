use Rattle.std.proofs.Common.{rules, arith, ◌≡◌, ◌∙◌, ◌+◌, ◌∷◌, true, false, not, Bool, cond, drop, ap, sym}
use Rattle.std.proofs.lemmas.Grind.{common_steps}
use Rattle.std.proofs.lemmas.List.{at_drop_more}
use Rattle.std.specs.BTreeSet.{contains}
use Rattle.dep_graph.specs.Arcs.{path_order}
use Rattle.wave_plan.specs.Plans.{removed_files}
use Rattle.wave_plan.proofs.graphs.removed_files.Goals as goal
use Rattle.wave_plan.proofs.graphs.removed_files.Goals.{then-not-contains+in_ok-copy_of_path+in_ok-push, else-not-contains}

-- one file more: it is removed where it isn't listed
one_more_file : (c : goal.Joined-not-contains) (has : Bool) → contains path_order c.args.listed.now c.file-item.result.path ≡ has
    → removed_files (contains path_order c.args.listed.now) (drop c.loop-file.file-index c.args.files.now) ≡ cond (not has) (c.file-item.result.path ∷ removed_files (contains path_order c.args.listed.now) (drop (c.loop-file.file-index + 1) c.args.files.now)) (removed_files (contains path_order c.args.listed.now) (drop (c.loop-file.file-index + 1) c.args.files.now))
one_more_file c has is =
    let listed = contains path_order c.args.listed.now in
    let rest = removed_files listed (drop (c.loop-file.file-index + 1) c.args.files.now) in
    at_drop_more (removed_files listed) c.args.files.now c.loop-file.file-index c.file-item.result c.loop-file-test.true
    ∙ ap (λ f. cond (not (listed f.path)) (f.path ∷ rest) rest) (sym c.file-item.is)
    ∙ ap (λ b. cond (not b) (c.file-item.result.path ∷ rest) rest) is

pub loop-file-preserved : goal.loop-file-preserved
loop-file-preserved c =
    elim c.if-not-contains.branch [
      | then-not-contains+in_ok-copy_of_path+in_ok-push w ↦
          let more = one_more_file c false (sym c.contains.ensures ∙ search rules) in
          let copied : w.in_ok-copy_of_path.field-0 ≡ c.file-item.result.path = w.in_ok-copy_of_path.ensures in
          grind (arith, common_steps, c.loop-file.invariant, more, copied, w.in_ok-push.ensures.items, w.removed-is)
      | else-not-contains w ↦
          let more = one_more_file c true (sym c.contains.ensures ∙ search rules) in
          grind (arith, common_steps, c.loop-file.invariant, more, w.removed-is)
    ]
