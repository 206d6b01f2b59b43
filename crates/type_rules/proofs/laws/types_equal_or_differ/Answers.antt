use Rattle.type_rules.specs.Sameness.{same_type_decides}
use Rattle.type_rules.proofs.laws.types_equal_or_differ.Goals as goal

pub returns : goal.returns
returns c = same_type_decides
