use Rattle.wave_plan.specs.Validity.{HasRecord, HasAskedRecord, IsFirstFault}
use Rattle.wave_plan.proofs.AnswerLemmas.{ok_of, err_of, some_of, none_of}
use Rattle.wave_plan.proofs.judging.asked_record.Goals as goal

pub returns-in-Some : goal.returns-in-Some
returns-in-Some c =
    let seen = c.args.seen.now in
    let asked = c.args.asked.now in
    let has = ok_of (HasRecord seen) (IsFirstFault seen asked) c.in_ok-read.field-0 c.in-Ok.read c.in-Ok.is (c.in_ok-read.ensures asked) in
    some_of (HasAskedRecord seen asked c.in-Ok.read) (IsFirstFault seen asked) c.in_ok-why-in-Ok.field-0 c.in-Some.why c.in-Some.is (c.in_ok-why-in-Ok.ensures seen has)

pub returns-in-None : goal.returns-in-None
returns-in-None c =
    let seen = c.args.seen.now in
    let asked = c.args.asked.now in
    let has = ok_of (HasRecord seen) (IsFirstFault seen asked) c.in_ok-read.field-0 c.in-Ok.read c.in-Ok.is (c.in_ok-read.ensures asked) in
    none_of (HasAskedRecord seen asked c.in-Ok.read) (IsFirstFault seen asked) c.in_ok-why-in-Ok.field-0 c.in-None.is (c.in_ok-why-in-Ok.ensures seen has)

pub returns-in-Err : goal.returns-in-Err
returns-in-Err c = err_of (HasRecord c.args.seen.now) (IsFirstFault c.args.seen.now c.args.asked.now) c.in_ok-read.field-0 c.in-Err.why c.in-Err.is (c.in_ok-read.ensures c.args.asked.now)
