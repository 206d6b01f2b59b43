use Rattle.std.proofs.Common.{sym, ◌∙◌, ap, None}
use Rattle.dep_key.specs.Scans.{unsorted_from}
use Rattle.dep_key.proofs.OrderLaws.{none_unsorted, all_sorted, is_first, some_is_not_none}
use Rattle.dep_key.proofs.graph.FileGraph.check.Goals as goal

pub returns-in-Some-clause-some : goal.returns-in-Some-clause-some
returns-in-Some-clause-some c = is_first c.args.self.now.nodes c.in-Some.at (ap (unsorted_from 0 None) (sym c.as_slice.ensures) ∙ sym c.first_unsorted.ensures ∙ c.in-Some.is)

pub returns-in-Some-clause-none : goal.returns-in-Some-clause-none
returns-in-Some-clause-none c =
    let found = ap (unsorted_from 0 None) (sym c.as_slice.ensures) ∙ sym c.first_unsorted.ensures ∙ c.in-Some.is in
    (λ e. absurd cc, λ s. absurd (some_is_not_none (sym found ∙ all_sorted 0 None c.args.self.now.nodes s)))

pub returns-in-None-clause-none : goal.returns-in-None-clause-none
returns-in-None-clause-none c =
    (λ e. none_unsorted 0 None c.args.self.now.nodes (ap (unsorted_from 0 None) (sym c.as_slice.ensures) ∙ sym c.first_unsorted.ensures ∙ c.in-None.is), λ s. cc)
