use Rattle.std.proofs.Common.{◌^◌, rules, arith}
use Rattle.bitstream.specs.Writer.{writing}
use Rattle.bitstream.proofs.WrittenLaws.{recording-wrote, all_below}
use Rattle.bitstream.proofs.writer.BitWriter.put_rec.Goals as goal

pub returns-in-Ok-clause-wrote : goal.returns-in-Ok-clause-wrote
returns-in-Ok-clause-wrote c = λ items has. recording-wrote items (writing c.args.self.now) _ c.args.code c.args.ops.now c.requires (omega (arith, c.ranges.code.fits)) (all_below (2 ^ 64) c.args.ops.now (λ i. omega (arith, c.type_inv.ops i))) c.in-Ok.ensures.count (search rules) has
