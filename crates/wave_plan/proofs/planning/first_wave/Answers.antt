use Rattle.wave_plan.specs.Validity.{AreValid, IsFirstFault}
use Rattle.wave_plan.specs.Told.{told}
use Rattle.wave_plan.proofs.AnswerLemmas.{ok_of, err_of}
use Rattle.wave_plan.proofs.OrderLemmas.{priors_ordered}
use Rattle.wave_plan.proofs.PlanLemmas.{incremental_has_graph, incremental_has_no_fault, full_has_no_graph, full_has_fault}
use Rattle.wave_plan.proofs.planning.first_wave.Goals as goal

pub incremental-requires-clause-ordered : goal.incremental-requires-clause-ordered
incremental-requires-clause-ordered c =
    let valid = ok_of (λ found. AreValid c.args.seen.now c.args.asked.now (told found)) (IsFirstFault c.args.seen.now c.args.asked.now) c.in_ok-found.field-0 c.in-Ok.found c.in-Ok.is c.in_ok-found.ensures in
    priors_ordered c.in-Ok.found.version c.in-Ok.found.graph.items valid.text valid.read

pub returns-in-Ok-clause-valid : goal.returns-in-Ok-clause-valid
returns-in-Ok-clause-valid c =
    let valid = ok_of (λ found. AreValid c.args.seen.now c.args.asked.now (told found)) (IsFirstFault c.args.seen.now c.args.asked.now) c.in_ok-found.field-0 c.in-Ok.found c.in-Ok.is c.in_ok-found.ensures in
    incremental_has_graph c.args.seen.now c.args.asked.now (told c.in-Ok.found) c.incremental.result valid c.incremental.ensures

pub returns-in-Ok-clause-fault : goal.returns-in-Ok-clause-fault
returns-in-Ok-clause-fault c = incremental_has_no_fault c.args.seen.now c.args.asked.now (told c.in-Ok.found) c.incremental.result c.incremental.ensures

pub returns-in-Err-clause-valid : goal.returns-in-Err-clause-valid
returns-in-Err-clause-valid c = full_has_no_graph c.args.seen.now c.args.asked.now c.in-Err.why c.full.result c.full.ensures

pub returns-in-Err-clause-fault : goal.returns-in-Err-clause-fault
returns-in-Err-clause-fault c =
    let first = err_of (λ found. AreValid c.args.seen.now c.args.asked.now (told found)) (IsFirstFault c.args.seen.now c.args.asked.now) c.in_ok-found.field-0 c.in-Err.why c.in-Err.is c.in_ok-found.ensures in
    full_has_fault c.args.seen.now c.args.asked.now c.in-Err.why c.full.result first c.full.ensures
