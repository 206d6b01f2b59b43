use Rattle.type_rules.specs.Sameness.{same_meaning_decides}
use Rattle.type_rules.proofs.laws.meanings_equal_or_differ.Goals as goal

pub returns : goal.returns
returns c = same_meaning_decides
