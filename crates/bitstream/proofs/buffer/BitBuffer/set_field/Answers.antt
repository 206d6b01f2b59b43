use Rattle.std.proofs.Common.{arith, ap, length, ◌∙◌, refl}
use Rattle.std.specs.Int.{w32, to_le_bytes}
use Rattle.bitstream.proofs.WritingLaws.{field-written, words-written, none_pending, length-field}
use Rattle.bitstream.proofs.buffer.BitBuffer.set_field.Goals as goal

pub returns-clause-written : goal.returns-clause-written
returns-clause-written c = field-written c.args.self.now.bytes.items _ c.args.self.now.count c.args.self.now.pending c.args.at c.args.number c.requires.whole c.requires.within c.overwrite_in.ensures

pub returns-clause-words : goal.returns-clause-words
returns-clause-words c =
    let same = ap length c.overwrite_in.ensures ∙ length-field c.args.self.now.bytes.items (to_le_bytes w32 c.args.number) c.args.at c.requires.within refl in
    words-written _ _ c.args.self.now.pending (none_pending c.args.self.now.bytes.items c.args.self.now.count c.args.self.now.pending c.requires.whole)
    (omega (arith, c.args.self.now.whole, same))
