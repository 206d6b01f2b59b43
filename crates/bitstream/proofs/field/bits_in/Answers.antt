use Rattle.std.proofs.Common.{◌/◌, ◌%◌, ◌^◌, ◌∙◌, ap, rules}
use Rattle.bitstream.proofs.FieldLaws.{eight-value, low_bits}
use Rattle.bitstream.proofs.field.bits_in.Goals as goal

pub returns : goal.returns
returns c =
    low_bits (c.from_le_bytes.result / 2 ^ c.args.skip) c.args.width c.requires.width
    ∙ ap (λ n. n / 2 ^ c.args.skip % 2 ^ c.args.width) (c.from_le_bytes.ensures ∙ eight-value c.args.eight.now (search rules) (search rules))
