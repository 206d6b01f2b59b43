use Rattle.std.proofs.Common.{◌∙◌, ◌++◌, ap, arith, length}
use Rattle.bitstream.specs.Bits.{bits}
use Rattle.bitstream.proofs.EntryLaws.{enter-is}
use Rattle.bitstream.proofs.WritingLaws.{small_id, field_at, field_room}
use Rattle.bitstream.proofs.buffer.BitBuffer.push_enter.Goals as goal

pub push_bits-requires-clause-value : goal.push_bits-requires-clause-value
push_bits-requires-clause-value c = small_id 1 c.args.id_width (omega arith) c.requires.low

pub returns-clause-at : goal.returns-clause-at
returns-clause-at c =
    let items = c.align.new.self.bytes.items in
    ap length (enter-is c.args.id_width c.args.block c.args.width _ _ _ _ _ c.in_ok-push_bits.ensures.ok c.in_ok-push_vbr.ensures.ok c.in_ok-push_vbr-2.ensures.ok c.in_ok-align.ensures.ok
    ∙ ap (λ s. s ++ bits 32 0) c.in_ok-align.ensures.whole) ∙ field_at items 0 ∙ omega (arith, c.len-at.ensures)

pub returns-clause-field : goal.returns-clause-field
returns-clause-field c =
    let items = c.align.new.self.bytes.items in
    let new = c.push_bits-2.new.self in
    let room = field_room new.bytes.items items new.count new.pending 0 new.whole new.few (c.in_ok-push_bits-2.ensures.ok ∙ ap (λ s. s ++ bits 32 0) c.in_ok-align.ensures.whole) c.align.new.self.whole in
    omega (arith, room, c.len-at.ensures)
