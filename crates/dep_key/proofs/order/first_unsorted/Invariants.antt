use Rattle.std.proofs.Common.{◌≡◌, None, drop}
use Rattle.std.specs.Option.{option_copied}
use Rattle.dep_key.specs.Scans.{unsorted_from}
use Rattle.dep_key.proofs.order.first_unsorted.Given as goal

abbrev pub invariant-loop-at : goal.invariant-loop-at
invariant-loop-at l = unsorted_from l.at (option_copied l.before) (drop l.at l.nodes) ≡ unsorted_from 0 None l.nodes
