use Rattle.std.proofs.Common.{arith, ◌∙◌, ◌-◌, sym}
use Rattle.bitstream.proofs.EntryReadingLaws.{next-some, next-none, next-err}
use Rattle.bitstream.proofs.entry_reader.EntryReader.read_item.Goals as goal

pub overflow_add-entries : goal.overflow_add-entries
overflow_add-entries c = omega (arith, c.left-entries.ensures.bound)

pub returns-in-Ok-Some : goal.returns-in-Ok-Some
returns-in-Ok-Some c =
    sym c.each.invariant ∙ rw c.at-at.ensures (next-some (c.each.entries - 1) c.each.entries _ _ _ _ _ (omega (arith, c.each-test.true)) (sym c.is_at_end.ensures ∙ c.if-is_at_end.false)
    (rw c.in-Ok-Some.field-0-is at c.in-Ok-Some.ensures))

pub each-preserved : goal.each-preserved
each-preserved c =
    sym (next-none (c.each.entries - 1) c.each.entries _ _ _ _ (omega (arith, c.each-test.true)) (sym c.is_at_end.ensures ∙ c.if-is_at_end.false)
    (rw c.in-Ok-None.field-0-is at c.in-Ok-None.ensures)) ∙ c.each.invariant

pub returns-in-Err : goal.returns-in-Err
returns-in-Err c = λ fault. sym c.each.invariant
    ∙ next-err (c.each.entries - 1) c.each.entries _ _ c.in-Err.fault (omega (arith, c.each-test.true)) (sym c.is_at_end.ensures ∙ c.if-is_at_end.false) (c.in-Err.ensures fault)
