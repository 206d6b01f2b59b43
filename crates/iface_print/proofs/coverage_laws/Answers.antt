use Rattle.iface_print.proofs.Covered.{kept, used, nodes, prints, queries}
use Rattle.iface_print.proofs.coverage_laws.Goals as goal

pub returns-clause-kept : goal.returns-clause-kept
returns-clause-kept g c = kept

pub returns-clause-used : goal.returns-clause-used
returns-clause-used g c = used

pub returns-clause-nodes : goal.returns-clause-nodes
returns-clause-nodes g c = nodes

pub returns-clause-prints : goal.returns-clause-prints
returns-clause-prints g c = prints

pub returns-clause-queries : goal.returns-clause-queries
returns-clause-queries g c = queries
