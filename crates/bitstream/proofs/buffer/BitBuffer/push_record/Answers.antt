use Rattle.std.proofs.Common.{arith}
use Rattle.bitstream.proofs.WritingLaws.{small_id}
use Rattle.bitstream.proofs.buffer.BitBuffer.push_record.Goals as goal

pub new-packed-requires-clause-value : goal.new-packed-requires-clause-value
new-packed-requires-clause-value c = small_id 3 c.args.id_width (omega arith) c.requires.low
