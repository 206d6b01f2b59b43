use Rattle.std.proofs.Common.{rules}
use Rattle.bitstream.specs.Writer.{writing}
use Rattle.bitstream.proofs.WrittenLaws.{defining-wrote}
use Rattle.bitstream.proofs.writer.BitWriter.define.Goals as goal

pub returns-clause-wrote : goal.returns-clause-wrote
returns-clause-wrote c = λ items has. defining-wrote items (writing c.args.self.now) _ c.args.ops.now c.requires.inside c.requires.ops c.in_default.ensures.fit c.in_default.ensures.count (search rules) has
