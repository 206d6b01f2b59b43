use Rattle.std.proofs.lemmas.Result.{on_ok_weaker}
use Rattle.bitstream.proofs.WritingLaws.{aligned-written, whole-aligned}
use Rattle.bitstream.proofs.buffer.BitBuffer.align.Goals as goal

pub returns-clause-ok : goal.returns-clause-ok
returns-clause-ok c = on_ok_weaker c.push_bits.result (λ made. aligned-written c.args.self.now.bytes.items c.args.self.now.count c.args.self.now.pending _ c.args.self.now.whole c.args.self.now.few made) c.push_bits.ensures.ok

pub returns-clause-whole : goal.returns-clause-whole
returns-clause-whole c = on_ok_weaker c.push_bits.result (λ made. whole-aligned _ _ _ _ c.push_bits.new.self.whole c.push_bits.new.self.few
    (aligned-written c.args.self.now.bytes.items c.args.self.now.count c.args.self.now.pending _ c.args.self.now.whole c.args.self.now.few made)) c.push_bits.ensures.ok
