use Rattle.std.proofs.Common.{◌∙◌, sym, ap, ◌++◌, ◌||◌, arith}
use Rattle.dep_key.specs.GraphOrder.{keys_of}
use Rattle.dep_key.specs.Moved.{has_moved}
use Rattle.dep_graph.specs.Moves.{is_one}
use Rattle.dep_graph.proofs.MergingLemmas.{found-all, whole-rest, all-ascend, apart_none}
use Rattle.dep_graph.proofs.changes.changed_keys.Goals as goal

pub returns-clause-changed : goal.returns-clause-changed
returns-clause-changed c = found-all c.args.old.now c.args.new.now c.loop-at.at.old c.loop-at.at.new c.loop-at.keys.items c.push_keys.new.keys.items c.loop-at-test.false c.requires.new c.loop-at.invariant.moved (c.in_ok-push_keys.ensures ∙ ap (λ l. c.loop-at.keys.items ++ keys_of l) (whole-rest c.args.new.now c.loop-at.at.new))

pub returns-clause-ascending : goal.returns-clause-ascending
returns-clause-ascending c = all-ascend c.loop-at.keys.items c.push_keys.new.keys.items c.args.old.now c.args.new.now c.loop-at.at.old c.loop-at.at.new c.requires.new c.loop-at.invariant.order (c.in_ok-push_keys.ensures ∙ ap (λ l. c.loop-at.keys.items ++ keys_of l) (whole-rest c.args.new.now c.loop-at.at.new))

pub loop-at-init : goal.loop-at-init
loop-at-init c = record {
  left = omega arith;
  right = omega arith;
  moved = λ k. ap (λ l. is_one l k || has_moved c.args.old.now c.args.new.now k) (sym c.new-keys.ensures.items);
  order = apart_none c.new-keys.result.items c.args.old.now c.args.new.now c.new-keys.ensures.items;
}
