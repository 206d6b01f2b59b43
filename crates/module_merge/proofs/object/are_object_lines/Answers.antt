use Rattle.std.proofs.Common.{rules, nat_eq}
use Rattle.std.proofs.lemmas.Iterator.Search.{all_from_yields_List}
use Rattle.std.proofs.lemmas.Iterator.Splits.{YieldsList-from_slice_split}
use borrow.Author.Tests.{tests}
use Rattle.module_merge.specs.Object.{is_object_line}
use Rattle.module_merge.proofs.object.are_object_lines.Goals as goal

pub returns : goal.returns
returns c = all_from_yields_List is_object_line _ _ c.all.result c.all.ensures.ran
    (YieldsList-from_slice_split _ (λ b. nat_eq b 10) c.args.text.now c.split.ensures.rest c.split.ensures.done c.split.ensures.closure (λ x b q k. search (rules, tests)))
    (λ x b q k. search (rules, tests))
