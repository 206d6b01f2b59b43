use Rattle.std.proofs.lemmas.Nat.{and_mask}
use Rattle.bitstream.proofs.EntryLaws.{end-is}
use Rattle.bitstream.proofs.buffer.BitBuffer.push_end.Goals as goal

pub returns-clause-ok : goal.returns-clause-ok
returns-clause-ok c =
    end-is c.args.id_width c.args.at c.len.result _ _ _ _ _ c.align.new.self.bytes.items c.in_ok-push_bits.ensures.ok c.in_ok-align.ensures.ok c.in_ok-align.ensures.whole
    c.len.ensures (and_mask _ 32) c.set_field.ensures.written
