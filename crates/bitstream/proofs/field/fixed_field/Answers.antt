use Rattle.bitstream.proofs.FieldLaws.{fixed-eight}
use Rattle.bitstream.proofs.field.fixed_field.Goals as goal

pub returns-in-Some-clause-read : goal.returns-in-Some-clause-read
returns-in-Some-clause-read c = fixed-eight c.args.bytes.now c.split_at.result.1.now c.in-Some.eight.now c.args.at c.args.width c.bits_in.result
    c.if-width-le56.true c.requires.at c.split_at.ensures.back c.in-Some.ensures.cases.enough c.in-Some.ensures.cases.same c.bits_in.ensures
