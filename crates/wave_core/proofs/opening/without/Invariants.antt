use Rattle.std.proofs.Common.{◌≡◌, ℕ, List, cond, None, take}
use Rattle.std.specs.List.{list_any}
use Rattle.dep_key.specs.declared.key.Key.{Key}
use Rattle.dep_graph.specs.Moves.{is_one}
use Rattle.dep_graph.specs.Arcs.{nodes_in}
use Rattle.wave_core.specs.Cores.{is_among, has_print}
use Rattle.wave_core.proofs.opening.without.Given as goal

abbrev pub invariant-loop-file : goal.invariant-loop-file
invariant-loop-file l = record {
  graph : (f : List ℕ) → nodes_in l.rest f ≡ cond (is_among (take l.file-index l.removed) f) None (nodes_in l.fn.graph f);
  changed : (k : Key) → is_one l.changed.keys k ≡ list_any (λ f. has_print (nodes_in l.fn.graph f) k) (take l.file-index l.removed);
}
