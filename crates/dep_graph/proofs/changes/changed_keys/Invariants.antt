use Rattle.std.proofs.Common.{◌≡◌, ◌≤◌, ◌+◌, ◌-◌, ◌||◌, length, drop}
use Rattle.dep_key.specs.declared.key.Key.{Key}
use Rattle.dep_key.specs.Moved.{has_moved}
use Rattle.dep_graph.specs.Moves.{is_one, AreApart}
use Rattle.dep_graph.proofs.changes.changed_keys.Given as goal

abbrev pub invariant-loop-at : goal.invariant-loop-at
invariant-loop-at l = record {
  left : l.at.old ≤ length l.old;
  right : l.at.new ≤ length l.new;
  moved : (k : Key) → has_moved l.old l.new k ≡ (is_one l.keys.items k || has_moved (drop l.at.old l.old) (drop l.at.new l.new) k);
  order : AreApart l.keys.items (drop l.at.old l.old) (drop l.at.new l.new);
}

abbrev pub decreases-loop-at : goal.decreases-loop-at
decreases-loop-at l = (length l.old - l.at.old) + (length l.new - l.at.new)
