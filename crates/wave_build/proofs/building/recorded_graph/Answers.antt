use Rattle.std.proofs.Common.{sym, subst}
use Rattle.dep_key.specs.GraphOrder.{AreInOrder}
use Rattle.dep_key.specs.declared.graph.FileGraph.{FileGraph}
use Rattle.wave_build.proofs.BuildLemmas.{digested-ordered}
use Rattle.wave_build.proofs.building.recorded_graph.Goals as goal

pub returns-clause-ordered : goal.returns-clause-ordered
returns-clause-ordered c = subst (λ (g : FileGraph). AreInOrder g.nodes) (sym c.in_ok-made.ensures) (digested-ordered c.args.graph.now c.requires.ordered)
