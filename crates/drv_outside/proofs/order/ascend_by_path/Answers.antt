use Rattle.std.proofs.Common.{◌∙◌, sym}
use Rattle.drv_outside.proofs.AscendingLemmas.{sorted, ascends}
use Rattle.drv_outside.proofs.order.ascend_by_path.Goals as goal

pub returns-clause-sound : goal.returns-clause-sound
returns-clause-sound c = λ h. sorted c.args.entries.now (sym c.ascend.ensures ∙ h)

pub returns-clause-complete : goal.returns-clause-complete
returns-clause-complete c = λ h. c.ascend.ensures ∙ ascends c.args.entries.now h
