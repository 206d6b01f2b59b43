use Rattle.driver_cmd.proofs.DrivenLemmas.{driven_refused}
use Rattle.driver_cmd.proofs.top_call.drive_alone.Goals as goal

pub returns-in-Err : goal.returns-in-Err
returns-in-Err g c = record { driven = driven_refused c.args.words.now c.in-Err.at _ _ _ _ c.in-Err.ensures }
