use Rattle.std.proofs.Common.{rules}
use Rattle.bitstream.specs.Writer.{writing}
use Rattle.bitstream.proofs.WrittenLaws.{leaving-wrote}
use Rattle.bitstream.proofs.writer.BitWriter.leave.Goals as goal

pub returns-clause-wrote : goal.returns-clause-wrote
returns-clause-wrote c = λ items has. leaving-wrote items (writing c.args.self.now) _ (search rules) has
