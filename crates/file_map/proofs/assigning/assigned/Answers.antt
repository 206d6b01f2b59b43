use Rattle.std.proofs.Common.{◌∙◌}
use Rattle.file_map.proofs.MapLemmas.{named_once}
use Rattle.file_map.proofs.assigning.assigned.Goals as goal

pub returns-in-None : goal.returns-in-None
returns-in-None c = named_once _ c.in_ok-names.names c.deref.result.now c.in_ok-names.ensures (c.deref.ensures.value ∙ c.in_ok-all.ensures) (rw c.in-None.is at c.in_ok-fault.ensures)
