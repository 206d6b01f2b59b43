use Rattle.std.proofs.Common.{rules, arith}
use Rattle.bitstream.specs.Writer.{writing}
use Rattle.bitstream.proofs.WrittenLaws.{blobbing-wrote, all_below}
use Rattle.bitstream.proofs.writer.BitWriter.put_blob.Goals as goal

pub returns-in-Ok-clause-wrote : goal.returns-in-Ok-clause-wrote
returns-in-Ok-clause-wrote c = λ items code is has. blobbing-wrote items (writing c.args.self.now) _ c.args.id code c.args.blob.now c.requires.inside is c.requires.fits (all_below 256 c.args.blob.now (λ i. omega (arith, c.type_inv.blob i))) c.in-Ok.ensures.count (search rules) has
