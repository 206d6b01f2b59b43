use Rattle.disk_images.proofs.ActsLemmas.{crash_durably, drop_durably}
use Rattle.disk_images.proofs.crash_laws.Goals as goal

pub returns-clause-crash : goal.returns-clause-crash
returns-clause-crash g c = crash_durably g.K.Trust.trusted

pub returns-clause-dropped : goal.returns-clause-dropped
returns-clause-dropped g c = drop_durably g.K.Trust.trusted
