use Rattle.std.proofs.Common.{arith}
use Rattle.bitstream.proofs.WritingLaws.{small_id}
use Rattle.bitstream.proofs.buffer.BitBuffer.push_definition.Goals as goal

pub push_bits-requires-clause-value : goal.push_bits-requires-clause-value
push_bits-requires-clause-value c = small_id 2 c.args.id_width (omega arith) c.requires.low
