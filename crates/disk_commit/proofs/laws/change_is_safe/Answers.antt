use Rattle.disk_commit.proofs.ChangeLemmas.{change_safely}
use Rattle.disk_commit.proofs.laws.change_is_safe.Goals as goal

pub returns : goal.returns
returns g c = change_safely g.K.Trust.trusted
