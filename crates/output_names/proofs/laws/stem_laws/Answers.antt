use Rattle.output_names.proofs.StemsLemmas.{same_path, object_name_plain}
use Rattle.output_names.proofs.laws.stem_laws.Goals as goal

pub returns-clause-differ : goal.returns-clause-differ
returns-clause-differ c = λ p q h k e. same_path p q h k e

pub returns-clause-plain : goal.returns-clause-plain
returns-clause-plain c = λ path h. object_name_plain path h
