use Rattle.std.proofs.Common.{arith}
use Rattle.bitstream.proofs.cursor.Cursor.align.Goals as goal

pub invariant_of-self : goal.invariant_of-self
invariant_of-self c = record { within = omega (arith, c.if-left-pad.false, c.left.ensures.count, c.args.self.now.within) }
