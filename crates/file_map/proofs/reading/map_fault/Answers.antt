use Rattle.std.proofs.Common.{rules}
use Rattle.file_map.proofs.MapLemmas.{later_fault}
use Rattle.file_map.proofs.reading.map_fault.Goals as goal

pub returns-in_ok-fault-in-None : goal.returns-in_ok-fault-in-None
returns-in_ok-fault-in-None c = search (rules, later_fault)
