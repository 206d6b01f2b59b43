use Rattle.std.proofs.Common.{◌≡◌, ◌-◌, ◌+◌, ◌∙◌, ap, arith, sym}
use Rattle.std.proofs.lemmas.Nat.{one_shl, mod_below, pow_pos}
use Rattle.bitstream.specs.Fields.{input_at, groups_at, vbr_at}
use Rattle.bitstream.proofs.FieldLaws.{fixed-behind}
use Rattle.bitstream.proofs.GroupLaws.{answer, vbr-answer, digit_is, more-last, more-next, near-step}
use Rattle.bitstream.proofs.field.near_field.Goals as goal

pub each-init : goal.each-init
each-init c =
    let none : c.args.at + 0 ≡ c.args.at = omega arith in
    record {
      within = omega arith;
      behind = omega arith;
      sum = omega arith;
      read = ap (λ n. answer c.args.at c.args.width 0 0 (input_at c.args.bytes.now n) (groups_at c.args.width (input_at c.args.bytes.now n))) none ∙ sym (vbr-answer c.args.width (input_at c.args.bytes.now c.args.at));
    }

pub overflow_add-sum : goal.overflow_add-sum
overflow_add-sum c =
    let step = (near-step c.args.width c.each.sum c.each.shift _ c.bits_in-group.result (digit_is c.bits_in-group.result c.args.width c.requires.width) (omega (arith, c.each.invariant.behind, c.each-test.true, c.requires.some)) c.each.invariant.sum) in
    omega (arith, step.fits)

pub returns-then-group-more-clause-read : goal.returns-then-group-more-clause-read
returns-then-group-more-clause-read c =
    let low = rw (one_shl (c.args.width - 1) 64 (omega (arith, c.requires.width))) at c.if-group-more.true in
    let digit = digit_is c.bits_in-group.result c.args.width c.requires.width in
    let step = (near-step c.args.width c.each.sum c.each.shift _ c.bits_in-group.result (digit_is c.bits_in-group.result c.args.width c.requires.width) (omega (arith, c.each.invariant.behind, c.each-test.true, c.requires.some)) c.each.invariant.sum) in
    sym c.each.invariant.read ∙ more-last c.args.at c.args.width c.each.sum c.each.shift _ _ (input_at c.args.bytes.now (c.args.at + c.each.over)) _ c.bits_in-group.result
    (fixed-behind c.args.bytes.now c.split_at.result.1.now c.in-Some.eight.now c.args.at c.each.over c.args.width c.bits_in-group.result c.each-test.true c.requires.at c.split_at.ensures.back c.in-Some.ensures.cases.enough c.in-Some.ensures.cases.same c.bits_in-group.ensures)
    low digit step.is step.fits

pub each-preserved : goal.each-preserved
each-preserved c =
    let high = rw (one_shl (c.args.width - 1) 64 (omega (arith, c.requires.width))) at c.if-group-more.false in
    let digit = digit_is c.bits_in-group.result c.args.width c.requires.width in
    let step = (near-step c.args.width c.each.sum c.each.shift _ c.bits_in-group.result (digit_is c.bits_in-group.result c.args.width c.requires.width) (omega (arith, c.each.invariant.behind, c.each-test.true, c.requires.some)) c.each.invariant.sum) in
    record {
      within = c.each-test.true;
      behind = omega (arith, c.each.invariant.behind, c.requires.some);
      sum = step.low;
      read = more-next c.args.at c.args.width c.each.sum c.each.shift _ _ (input_at c.args.bytes.now (c.args.at + c.each.over)) _ c.bits_in-group.result
          c.requires.some (fixed-behind c.args.bytes.now c.split_at.result.1.now c.in-Some.eight.now c.args.at c.each.over c.args.width c.bits_in-group.result c.each-test.true c.requires.at c.split_at.ensures.back c.in-Some.ensures.cases.enough c.in-Some.ensures.cases.same c.bits_in-group.ensures)
          high (rw c.bits_in-group.ensures (mod_below _ _ (pow_pos c.args.width))) digit step.is ∙ c.each.invariant.read;
    }
