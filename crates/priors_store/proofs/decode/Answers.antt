use Rattle.priors_store.proofs.PriorsLemmas.{one_graph}
use Rattle.priors_store.proofs.decode.Goals as goal

pub returns-in-Ok-recorded-clause-only : goal.returns-in-Ok-recorded-clause-only
returns-in-Ok-recorded-clause-only c = λ version files h.
    one_graph c.args.bytes.now version c.in-Ok.header.version files c.in-Ok-recorded.files.items h
    (record { is_known = c.in-Ok.ensures.version; spelled = c.in-Ok.files.items; spell = c.in-Ok.ensures.read; graph = c.in-Ok-recorded.ensures })

pub returns-in-Err-clause-all : goal.returns-in-Err-clause-all
returns-in-Err-clause-all c = λ version files h. c.in-Err.ensures.spelled version h.spelled h.is_known h.spell
