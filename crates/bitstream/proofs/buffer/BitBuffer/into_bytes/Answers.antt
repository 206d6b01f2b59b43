use Rattle.std.proofs.Common.{◌∙◌, ap}
use Rattle.bitstream.specs.Bits.{bits_of}
use Rattle.bitstream.proofs.WritingLaws.{written-whole}
use Rattle.bitstream.proofs.buffer.BitBuffer.into_bytes.Goals as goal

pub returns : goal.returns
returns c = ap bits_of c.from_vec.ensures ∙ written-whole c.args.self.bytes.items c.args.self.count c.args.self.pending c.args.self.whole c.args.self.few c.requires
