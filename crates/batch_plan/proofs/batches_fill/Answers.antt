use Rattle.batch_plan.proofs.FillLemmas.{fill}
use Rattle.batch_plan.proofs.batches_fill.Goals as goal

pub returns : goal.returns
returns c = fill
