use Rattle.std.proofs.Common.{arith, ◌/◌, ◌%◌, ◌^◌}
use Rattle.std.proofs.lemmas.Nat.{mod_below, pow_pos}
use Rattle.bitstream.proofs.FieldLaws.{fixed-short, fixed-code, masked}
use Rattle.bitstream.proofs.field.any_field.Goals as goal

pub returns-then-rest-need-clause-read : goal.returns-then-rest-need-clause-read
returns-then-rest-need-clause-read c = fixed-short c.args.bytes.now c.args.at c.args.width
    (omega (arith, c.if-rest-need.true, c.split_at.ensures.back_len, c.requires.at)) c.requires.at

pub returns-clause-end : goal.returns-clause-end
returns-clause-end c = omega (arith, c.if-rest-need.false, c.split_at.ensures.back_len, c.requires.at)

pub returns-clause-value : goal.returns-clause-value
returns-clause-value c = rw (masked (c.word.result / 2 ^ (c.args.at % 8)) c.args.width c.requires.width) (mod_below _ _ (pow_pos c.args.width))

pub returns-clause-read : goal.returns-clause-read
returns-clause-read c = fixed-code c.args.bytes.now c.split_at.result.1.now c.split_at-2.result.0.now c.args.at c.args.width c.word.result
    c.requires.width c.requires.at c.split_at.ensures.back c.split_at-2.ensures.front c.if-rest-need.false c.word.ensures
