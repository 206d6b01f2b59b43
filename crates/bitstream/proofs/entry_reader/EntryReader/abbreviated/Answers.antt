use Rattle.std.proofs.Common.{arith, ◌∙◌, ◌-◌, ap, sym, subst, Some}
use Rattle.bitstream.specs.Cursor.{here}
use Rattle.bitstream.specs.Stream.{values_at, behind_numbers}
use Rattle.bitstream.specs.Scopes.{abbrev_in}
use Rattle.bitstream.specs.Reading.{EntryGives, context}
use Rattle.bitstream.proofs.EntryReadingLaws.{abbreviated-blob, abbreviated-is, abbreviated-none, behind-none, uncons, none_left, some_left}
use Rattle.bitstream.proofs.entry_reader.EntryReader.abbreviated.Goals as goal

pub returns-in-Some-code_before_blob : goal.returns-in-Some-code_before_blob
returns-in-Some-code_before_blob c =
    let found = ap (λ own. abbrev_in c.args.self.now.scope c.args.self.now.block_info.all.items own (c.args.id - 4)) (sym c.as_slice.ensures.value) ∙ sym c.in-Some.ensures in
    subst (λ r. EntryGives (context c.blob_record.new.self) (here c.blob_record.new.self.cursor) c.blob_record.result r)
    (sym (abbreviated-blob c.args.at c.args.id (context c.args.self.now) _ c.in-Some-code_before_blob.code (found ∙ ap Some (sym c.as_slice-ops.ensures.ops ∙ c.in-Some-code_before_blob.ensures)))) c.blob_record.ensures

pub returns-then-is_empty : goal.returns-then-is_empty
returns-then-is_empty c =
    let found = ap (λ own. abbrev_in c.args.self.now.scope c.args.self.now.block_info.all.items own (c.args.id - 4)) (sym c.as_slice.ensures.value) ∙ sym c.in-Some.ensures in
    let read = values_at c.as_slice-ops.result.now (here c.args.self.now.cursor) in
    let is = sym (behind-none read) ∙ ap (λ s. behind_numbers s read) (sym c.new-numbers.ensures.items) ∙ c.in-Ok-values.ensures in
    subst (λ r. EntryGives (context c.record.new.self) (here c.record.new.self.cursor) c.record.result r)
    (sym (abbreviated-none c.args.at c.args.id (context c.args.self.now) _ _ _ _ _ (found ∙ ap Some (sym c.as_slice-ops.ensures.ops)) is (none_left _ _ (sym c.is_empty.ensures ∙ c.if-is_empty.true) (omega (arith, c.values.new.values.ok))))) c.record.ensures

pub returns : goal.returns
returns c =
    let found = ap (λ own. abbrev_in c.args.self.now.scope c.args.self.now.block_info.all.items own (c.args.id - 4)) (sym c.as_slice.ensures.value) ∙ sym c.in-Some.ensures in
    let read = values_at c.as_slice-ops.result.now (here c.args.self.now.cursor) in
    let is = sym (behind-none read) ∙ ap (λ s. behind_numbers s read) (sym c.new-numbers.ensures.items) ∙ c.in-Ok-values.ensures in
    let some = some_left c.values.new.values.items _ (sym c.is_empty.ensures ∙ c.if-is_empty.false) (omega (arith, c.values.new.values.ok)) in
    subst (λ r. EntryGives (context c.record-2.new.self) (here c.record-2.new.self.cursor) c.record-2.result r)
    (sym (abbreviated-is c.args.at c.args.id (context c.args.self.now) _ _ _ _ _ _ _ (found ∙ ap Some (sym c.as_slice-ops.ensures.ops)) is (uncons _ _ _ some c.remove-code.ensures.value c.remove-code.ensures.items))) c.record-2.ensures
