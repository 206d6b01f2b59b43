use Rattle.std.proofs.Common.{◌≡◌, ◌∙◌, [], ◌∷◌, sym, ap, arith}
use Rattle.std.proofs.lemmas.Grind.{common_steps}
use Rattle.std.specs.FinMap.{entries}
use Rattle.drv_outside.specs.Disk.{left_by_crash}
use Rattle.tree_mem.proofs.Plain.{plain_head, plain_tail}
use Rattle.tree_mem.proofs.Sorted.{entries-from_entries}
use Rattle.tree_mem.proofs.doubts.MemDoubts.left_by_crash.Goals as goal

pub leave-requires : goal.leave-requires
leave-requires c =
    let step : c.loop-name.name-iterator ≡ (c.in-Some.name.now, c.in-Some.was.now) ∷ c.next.new.self = rw (c.in-Some.name-is, c.in-Some.was-is) c.in-Some.ensures.steps in
    record { plain = plain_head (c.in-Some.name.now, c.in-Some.was.now) c.next.new.self (rw step at c.loop-name.invariant.1) }

pub loop-name-preserved : goal.loop-name-preserved
loop-name-preserved c =
    let step : c.loop-name.name-iterator ≡ (c.in-Some.name.now, c.in-Some.was.now) ∷ c.next.new.self = rw (c.in-Some.name-is, c.in-Some.was-is) c.in-Some.ensures.steps in
    (rw c.in_ok-leave.ensures (rw step at c.loop-name.invariant.0), plain_tail (c.in-Some.name.now, c.in-Some.was.now) c.next.new.self (rw step at c.loop-name.invariant.1))

pub returns : goal.returns
returns c =
    let none : c.loop-name.name-iterator ≡ [] = c.in-None.ensures.steps.0 in
    let all : c.into_iter-name-iterator.result ≡ c.self.inside.names.entries = grind (arith, common_steps, c.iter-name-items.ensures.rest, c.into_iter-name-iterator.ensures.into_iter_gives) in
    (rw none at c.loop-name.invariant.0)
    ∙ ap (λ es. left_by_crash c.args.choice es c.args.folder) (all ∙ sym (entries-from_entries c.self.inside.names.entries c.iter-name-items.ensures.ordered) ∙ ap entries c.self.view_is)
