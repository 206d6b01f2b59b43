use Rattle.swiftdeps.proofs.OneSpellingLaws.{one_written}
use Rattle.swiftdeps.proofs.laws.written_is_one.Goals as goal

pub returns : goal.returns
returns c = one_written
