use Rattle.file_nodes.proofs.OrderLemmas.{in-order}
use Rattle.file_nodes.proofs.NodeLemmas.{prints, uses}
use Rattle.file_nodes.proofs.node_laws.Goals as goal

pub returns-clause-ordered : goal.returns-clause-ordered
returns-clause-ordered c = in-order

pub returns-clause-prints : goal.returns-clause-prints
returns-clause-prints c = prints

pub returns-clause-uses : goal.returns-clause-uses
returns-clause-uses c = uses
