use Rattle.std.proofs.Common.{rules, ◌+◌, nat_eq}
use Rattle.std.proofs.lemmas.Iterator.{YieldsList-from_slice}
use Rattle.std.proofs.lemmas.Iterator.Search.{any_from_yields_List}
use Rattle.tree_mem.proofs.failures.is_numbered.Goals as goal

pub returns : goal.returns
returns c = any_from_yields_List (λ number. nat_eq (c.args.since + number) c.args.place) _ _ c.any.result c.any.ensures.ran (YieldsList-from_slice c.args.numbers.now c.iter.ensures.rest) (λ x b q k. search rules)
