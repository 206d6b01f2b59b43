use Rattle.std.proofs.Common.{◌∙◌, arith}
use Rattle.std.proofs.lemmas.Result.{on_ok_weaker}
use Rattle.bitstream.proofs.WritingLaws.{words_added}
use Rattle.bitstream.proofs.buffer.BitBuffer.push_bytes.Goals as goal

pub returns-clause-ok : goal.returns-clause-ok
returns-clause-ok c =
    let self = c.args.self.now in
    on_ok_weaker c.push_each-2.result (λ made. made ∙ words_added self.bytes.items _ _ _ _ c.args.bytes.now self.count self.pending (omega (arith, c.if-self-gt0.false)) c.in_default.ensures.items c.split_at.ensures.front c.split_at.ensures.back) c.push_each-2.ensures.ok
