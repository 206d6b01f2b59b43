use Rattle.std.proofs.Common.{rules, ◌∙◌, ◌++◌, ap, nat_eq}
use Rattle.std.specs.List.{flat_map}
use Rattle.std.specs.Slice.Iter.{split_callee}
use Rattle.std.proofs.lemmas.Iterator.Splits.{YieldsList-from_slice_split}
use borrow.Author.Tests.{tests}
use Rattle.module_merge.specs.Image.{defined_by}
use Rattle.module_merge.proofs.MergeLemmas.{all_yielded}
use Rattle.module_merge.proofs.symbols.push_defined.Goals as goal

pub returns : goal.returns
returns c =
    let same = c.into_iter-line-iterator.ensures.into_iter_gives in
    let all = all_yielded c.loop-line.yielded _ c.loop-line.yielded_by _ _ c.in-None.is c.next.ensures.steps
    (YieldsList-from_slice_split _ (λ b. nat_eq b 10) c.args.object.now (rw same c.split-line-items.ensures.rest) (rw same c.split-line-items.ensures.done) (ap split_callee same ∙ c.split-line-items.ensures.closure) (λ x b q k. search (rules, tests))) in
    c.loop-line.invariant ∙ ap (λ xs. c.args.symbols.now.items ++ flat_map defined_by xs) all
