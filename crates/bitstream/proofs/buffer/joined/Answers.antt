use Rattle.std.proofs.Common.{arith}
use Rattle.bitstream.proofs.WritingLaws.{joined-is, joined-fits}
use Rattle.bitstream.proofs.buffer.joined.Goals as goal

pub returns : goal.returns
returns c =
    let is = joined-is c.args.pending c.args.count c.args.value c.args.width (omega (arith, c.requires.few)) c.requires.low c.requires.width c.requires.value in
    record {
      sum = is;
      fits = rw is (joined-fits c.args.pending c.args.count c.args.value c.args.width c.requires.low c.requires.value);
    }
