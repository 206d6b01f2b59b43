use Rattle.dep_key.proofs.MovedLemmas.{moved_tells}
use Rattle.dep_key.proofs.laws.moved_keys_are_told.Goals as goal

pub returns : goal.returns
returns c = record { told = moved_tells }
