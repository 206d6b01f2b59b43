use Rattle.std.proofs.Common.{◌≡◌, ℕ, List, vec_len}
use Rattle.std.specs.List.{AllByRecursion}
use Rattle.dep_graph.specs.Arcs.{nodes_in}
use Rattle.dep_key.specs.declared.graph.FileGraph.{FileGraph}
use Rattle.dep_key.specs.GraphOrder.{AreInOrder}
use Rattle.wave_plan.specs.Plans.{nodes_of}
use Rattle.wave_plan.proofs.MapLemmas.{or_else}
use Rattle.wave_plan.proofs.graphs.graph_of.Given as goal

-- What is left has a path, or the graph has it, and what is left is in order.
abbrev pub invariant-loop-file : goal.invariant-loop-file
invariant-loop-file l = record {
  at : (q : List ℕ) → or_else (nodes_of l.files.items q) (nodes_in l.graph q) ≡ nodes_of l.fn.files.items q;
  ordered : AllByRecursion (λ (file : FileGraph). AreInOrder file.nodes) l.files.items;
}

abbrev pub decreases-loop-file : goal.decreases-loop-file
decreases-loop-file l = vec_len l.files
