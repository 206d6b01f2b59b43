use Rattle.priors_store.proofs.PriorsLemmas.{one_graph}
use Rattle.priors_store.proofs.priors_record_one_graph.Goals as goal

pub returns : goal.returns
returns c = one_graph
