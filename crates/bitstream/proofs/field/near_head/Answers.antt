use Rattle.std.proofs.Common.{◌≡◌, ◌+◌, ◌∙◌, ap, arith, Ok}
use Rattle.bitstream.specs.Fields.{input_at}
use Rattle.bitstream.proofs.FieldLaws.{fixed-eight, fixed-behind}
use Rattle.bitstream.proofs.GroupLaws.{vbr-one}
use Rattle.bitstream.proofs.field.near_head.Goals as goal

pub returns-clause-id : goal.returns-clause-id
returns-clause-id c = fixed-eight c.args.bytes.now c.split_at.result.1.now c.in-Some.eight.now c.args.at c.args.width c.bits_in-id.result
    (omega (arith, c.requires.width)) c.requires.at c.split_at.ensures.back c.in-Some.ensures.cases.enough c.in-Some.ensures.cases.same c.bits_in-id.ensures

pub returns-clause-code : goal.returns-clause-code
returns-clause-code c =
    vbr-one 6 _ _ c.bits_in-code.result (omega arith) (fixed-behind c.args.bytes.now c.split_at.result.1.now c.in-Some.eight.now c.args.at c.args.width 6 c.bits_in-code.result
    (omega (arith, c.requires.width)) c.requires.at c.split_at.ensures.back c.in-Some.ensures.cases.enough c.in-Some.ensures.cases.same c.bits_in-code.ensures)
    (omega (arith, c.if-code-ge32.false))

pub returns-clause-count : goal.returns-clause-count
returns-clause-count c =
    let behind : c.args.width + 6 + 6 ≡ c.args.width + 12 = omega arith in
    vbr-one 6 _ _ c.bits_in-count.result (omega arith) (fixed-behind c.args.bytes.now c.split_at.result.1.now c.in-Some.eight.now c.args.at (c.args.width + 6) 6 c.bits_in-count.result
    (omega (arith, c.requires.width)) c.requires.at c.split_at.ensures.back c.in-Some.ensures.cases.enough c.in-Some.ensures.cases.same c.bits_in-count.ensures
    ∙ ap (λ n. Ok (c.bits_in-count.result, input_at c.args.bytes.now (c.args.at + n))) behind)
    (omega (arith, c.if-count-ge32.false))
