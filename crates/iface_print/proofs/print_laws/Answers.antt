use Rattle.type_infer.specs.Meanings.{meaning_in}
use Rattle.iface_print.proofs.Covered.{prints-fix, prints-lines}
use Rattle.iface_print.proofs.FileNodes.{node-value}
use Rattle.iface_print.proofs.print_laws.Goals as goal

pub returns-clause-fix : goal.returns-clause-fix
returns-clause-fix c = prints-fix

pub returns-clause-lines : goal.returns-clause-lines
returns-clause-lines c = prints-lines

pub returns-clause-nodes : goal.returns-clause-nodes
returns-clause-nodes c files = node-value (meaning_in files)
