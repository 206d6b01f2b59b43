use Rattle.std.proofs.Common.{◌≡◌, not, ◌&&◌, ◌||◌, take}
use Rattle.dep_key.specs.declared.key.Key.{Key}
use Rattle.dep_graph.specs.Moves.{is_one}
use Rattle.wave_core.proofs.joining.join.Given as goal

abbrev pub invariant-loop-key : goal.invariant-loop-key
invariant-loop-key l = record {
  held : (k : Key) → is_one l.changed.keys k ≡ (is_one l.initial.changed.keys k || is_one (take l.key-index l.keys) k);
  first_held : (k : Key) → is_one l.first.keys k ≡ (is_one l.changed.keys k && not (is_one l.initial.changed.keys k));
}
