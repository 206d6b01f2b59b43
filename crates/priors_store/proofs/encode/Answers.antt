use Rattle.std.proofs.Common.{refl}
use Rattle.priors_store.proofs.PriorsLemmas.{one_graph}
use Rattle.priors_store.proofs.encode.Goals as goal

pub returns-in-Ok-clause-only : goal.returns-in-Ok-clause-only
returns-in-Ok-clause-only c = λ version others h.
    one_graph c.in-Ok.text version 3 others c.args.files.now h (record { is_known = refl; spelled = c.args.files.now; spell = c.in-Ok.ensures.read_back; graph = refl })
