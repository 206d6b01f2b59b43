use Rattle.std.proofs.Common.{nat_eq, subst}
use Rattle.std.specs.List.{AllByRecursion}
use Rattle.std.specs.Cmp.Lexicographic.{pointwise}
use Rattle.dep_key.specs.declared.graph.FileGraph.{FileGraph}
use Rattle.dep_key.specs.GraphOrder.{AreInOrder}
use Rattle.dep_graph.specs.Arcs.{nodes_in}
use Rattle.wave_plan.proofs.MapLemmas.{map_back, all_last, nodes_entered}
use Rattle.wave_plan.proofs.graphs.graph_of.Goals as goal

pub loop-file-preserved : goal.loop-file-preserved
loop-file-preserved c = record {
  at = λ q. map_back (λ (file : FileGraph). file.nodes) (λ file. pointwise nat_eq file.path q) c.pop.new.self.items c.loop-file.files.items c.in-Some.file (nodes_in c.loop-file.graph q) _ _ c.in-Some.ensures.items
      (nodes_entered q c.in-Some.file.path c.integrate.new.self c.loop-file.graph c.in-Some.file.nodes c.in_ok-integrate.ensures.here c.in_ok-integrate.ensures.others) (c.loop-file.invariant.at q);
  ordered = (all_last (λ (file : FileGraph). AreInOrder file.nodes) c.pop.new.self.items c.in-Some.file (subst (AllByRecursion (λ (file : FileGraph). AreInOrder file.nodes)) c.in-Some.ensures.items c.loop-file.invariant.ordered)).0;
}
