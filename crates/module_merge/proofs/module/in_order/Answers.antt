use Rattle.std.proofs.Common.{IsTrue, codes}
use Rattle.std.proofs.lemmas.List.Sorted.{All-permutation}
use Rattle.module_merge.specs.Module.{is_partial}
use Rattle.module_merge.proofs.PathOrderLemmas.{sorted_by_path}
use Rattle.module_merge.proofs.module.in_order.Goals as goal

pub returns-clause-by_path : goal.returns-clause-by_path
returns-clause-by_path c = sorted_by_path (codes "partial ") c.args.partials.now c.in_ok-ordered.ordered.items c.requires c.in_ok-ordered.ensures.moved c.in_ok-ordered.ensures.sorted

pub returns-clause-partial : goal.returns-clause-partial
returns-clause-partial c = All-permutation (λ partial. IsTrue (is_partial partial)) c.args.partials.now c.in_ok-ordered.ordered.items c.in_ok-ordered.ensures.moved c.requires
