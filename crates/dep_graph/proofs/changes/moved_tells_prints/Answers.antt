use Rattle.dep_key.proofs.MovedLemmas.{moved_tells}
use Rattle.dep_graph.proofs.changes.moved_tells_prints.Goals as goal

pub returns : goal.returns
returns c = moved_tells
