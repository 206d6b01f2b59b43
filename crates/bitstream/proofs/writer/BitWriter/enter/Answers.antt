use Rattle.std.proofs.Common.{rules, arith}
use Rattle.bitstream.specs.Writer.{writing}
use Rattle.bitstream.proofs.WrittenLaws.{entering-wrote}
use Rattle.bitstream.proofs.writer.BitWriter.enter.Goals as goal

pub returns-clause-wrote : goal.returns-clause-wrote
returns-clause-wrote c = λ items has. entering-wrote items (writing c.args.self.now) _ c.args.block c.args.width c.requires.blocks c.requires.block (omega (arith, c.ranges.block.fits)) c.requires.low c.requires.high (search rules) has
