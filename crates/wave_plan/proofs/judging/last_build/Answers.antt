use Rattle.wave_plan.specs.Validity.{HasAskedRecord, IsFirstFault}
use Rattle.wave_plan.proofs.AnswerLemmas.{ok_of}
use Rattle.wave_plan.proofs.judging.last_build.Goals as goal

pub returns-in-Ok : goal.returns-in-Ok
returns-in-Ok c =
    let seen = c.args.seen.now in
    let asked = c.args.asked.now in
    c.with_priors.ensures asked (ok_of (HasAskedRecord seen asked) (IsFirstFault seen asked) c.in_ok-read.field-0 c.in-Ok.read c.in-Ok.is c.in_ok-read.ensures)
