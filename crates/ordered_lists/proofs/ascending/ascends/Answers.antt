use Rattle.std.proofs.Common.{◌∙◌, sym}
use Rattle.ordered_lists.proofs.AscendingLemmas.{sorted, steps}
use Rattle.ordered_lists.proofs.ascending.ascends.Goals as goal

pub returns : goal.returns
returns g c = (λ h. sorted g.met.T.Ord.total c.args.items.now (sym c.steps_up.ensures ∙ h), λ up. c.steps_up.ensures ∙ steps g.T.Ord.cmp c.args.items.now up)
