use Rattle.std.proofs.Common.{◌≡◌, subst, arith}
use Rattle.std.specs.List.Sorted.{IsPermutation}
use Rattle.std.proofs.lemmas.Grind.{common_steps}
use Rattle.module_merge.proofs.by_path.in_byte_order.Goals as goal

pub returns-clause-moved : goal.returns-clause-moved
returns-clause-moved c =
    let same : c.loop-text.ordered.items ≡ c.args.texts.now = grind (arith, common_steps, c.loop-text.invariant) in
    subst (λ texts. IsPermutation texts c.sort.new.self.items) same c.in_ok-sort.ensures.permutation
