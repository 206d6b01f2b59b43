use Rattle.disk_images.proofs.CommitLemmas.{commit_is_durable}
use Rattle.disk_images.proofs.commit_law.Goals as goal

pub returns : goal.returns
returns g c = commit_is_durable g.K.Trust.trusted
