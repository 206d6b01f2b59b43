use Rattle.object_emit.proofs.SlotLemmas.{slots_apart, slots_within}
use Rattle.object_emit.proofs.laws.slots_are_apart.Goals as goal

pub returns-clause-apart : goal.returns-clause-apart
returns-clause-apart c = slots_apart

pub returns-clause-within : goal.returns-clause-within
returns-clause-within c = slots_within
