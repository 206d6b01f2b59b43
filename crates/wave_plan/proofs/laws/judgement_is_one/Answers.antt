use Rattle.wave_plan.proofs.Judgements.{one_judgement}
use Rattle.wave_plan.proofs.laws.judgement_is_one.Goals as goal

pub returns : goal.returns
returns c = one_judgement
