use Rattle.object_emit.proofs.LabelLemmas.{units_labelled}
use Rattle.object_emit.proofs.laws.labels_are_set.Goals as goal

pub returns : goal.returns
returns c = units_labelled
