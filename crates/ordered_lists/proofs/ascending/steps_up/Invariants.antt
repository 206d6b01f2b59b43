use Rattle.std.proofs.Common.{◌≡◌, drop}
use Rattle.std.specs.Prelude.{option_copied}
use Rattle.ordered_lists.specs.Ascending.{steps_up, steps_up_after}
use Rattle.ordered_lists.proofs.ascending.steps_up.Given as goal

-- All step up where those that are left do, after the last one.
abbrev pub invariant-loop-item : goal.invariant-loop-item
invariant-loop-item g l = steps_up_after g.T.Ord.cmp (option_copied l.last) (drop l.item-index l.items) ≡ steps_up g.T.Ord.cmp l.items
