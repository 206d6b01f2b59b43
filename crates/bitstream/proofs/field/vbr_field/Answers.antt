use Rattle.bitstream.specs.Fields.{input_at}
use Rattle.bitstream.proofs.GroupLaws.{vbr-none}
use Rattle.bitstream.proofs.field.vbr_field.Goals as goal

pub returns-then-width-eq0-clause-read : goal.returns-then-width-eq0-clause-read
returns-then-width-eq0-clause-read c = rw c.if-width-eq0.true (vbr-none (input_at c.args.bytes.now c.args.at))
