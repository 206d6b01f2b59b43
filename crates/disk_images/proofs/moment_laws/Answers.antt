use Rattle.disk_images.proofs.MomentsLemmas.{done_leaves, stops_leaves, reads_leave, leaves_then, left_since}
use Rattle.disk_images.proofs.moment_laws.Goals as goal

pub returns-clause-done : goal.returns-clause-done
returns-clause-done g c = done_leaves g.K.Trust.trusted

pub returns-clause-stops : goal.returns-clause-stops
returns-clause-stops g c = stops_leaves g.K.Trust.trusted

pub returns-clause-reads : goal.returns-clause-reads
returns-clause-reads g c = reads_leave g.K.Trust.trusted

pub returns-clause-compose : goal.returns-clause-compose
returns-clause-compose g c = leaves_then g.K.Trust.trusted

pub returns-clause-each : goal.returns-clause-each
returns-clause-each g c = left_since g.K.Trust.trusted
