use Rattle.wave_plan.proofs.judging.held_record.Goals as goal

pub returns-in-Ok : goal.returns-in-Ok
returns-in-Ok c = λ asked. c.read_record.ensures c.args.seen.now asked c.in-Ok.ensures
