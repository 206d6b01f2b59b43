use Rattle.std.proofs.Common.{◌≡◌, Bor, take, nat_lt}
use Rattle.std.specs.Prelude.{option_copied}
use Rattle.std.specs.BTreeSet.{contains}
use Rattle.ordered_lists.specs.Repeats.{times, IsLeastRepeat}
use Rattle.ordered_lists.proofs.repeats.least_repeat.Given as goal

-- The elements so far are those of the set, and the least of them that is repeated is known.
abbrev pub invariant-loop-item : goal.invariant-loop-item
invariant-loop-item g l =
    ((q : Bor g.row.T.Denot) → contains (λ x y. g.T.Ord.cmp x.now y.now) l.seen q ≡ nat_lt 0 (times g.T.Ord.cmp q.now (take l.item-index l.items)))
    × IsLeastRepeat g.T.Ord.cmp (take l.item-index l.items) (option_copied l.least)
