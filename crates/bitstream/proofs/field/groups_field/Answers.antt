use Rattle.std.proofs.Common.{◌-◌, ◌∙◌, arith, sym, lit<}
use Rattle.std.proofs.lemmas.Nat.{one_shl}
use Rattle.bitstream.specs.Fields.{input_at, vbr_at}
use Rattle.bitstream.proofs.GroupLaws.{vbr-answer, vbr-err, vbr-wide, digit_is, more-last, more-next, more-low}
use Rattle.bitstream.proofs.field.groups_field.Goals as goal

pub each-init : goal.each-init
each-init c = record {
  within = c.requires.at;
  behind = omega arith;
  fits = lit< tt;
  sum = omega arith;
  read = sym (vbr-answer c.args.width (input_at c.args.bytes.now c.args.at));
}

pub returns-in-Err-clause-read : goal.returns-in-Err-clause-read
returns-in-Err-clause-read c = sym c.each.invariant.read ∙ vbr-err c.args.at c.args.width c.each.sum c.each.shift (input_at c.args.bytes.now c.each.here) _ c.each.invariant.fits c.in-Err.ensures.read

pub returns-in-None-clause-read : goal.returns-in-None-clause-read
returns-in-None-clause-read c =
    let wide = rw (digit_is c.in-Ok.group c.args.width c.requires.width) at c.in-None.ensures.none in
    sym c.each.invariant.read ∙ vbr-wide c.args.at c.args.width c.each.sum c.each.shift (input_at c.args.bytes.now c.each.here) _ c.in-Ok.group
    (omega (arith, c.requires.some)) c.in-Ok.ensures.read c.in-Ok.ensures.value wide

pub returns-then-group-top-clause-read : goal.returns-then-group-top-clause-read
returns-then-group-top-clause-read c =
    let low = rw (one_shl (c.args.width - 1) 64 (omega (arith, c.requires.width))) at c.if-group-top.true in
    sym c.each.invariant.read ∙ more-last c.args.at c.args.width c.each.sum c.each.shift c.in-Some.more _ (input_at c.args.bytes.now c.each.here) _ c.in-Ok.group
    c.in-Ok.ensures.read low (digit_is c.in-Ok.group c.args.width c.requires.width) c.in-Some.ensures.some c.in-Some.ensures.fits

pub each-preserved : goal.each-preserved
each-preserved c =
    let high = rw (one_shl (c.args.width - 1) 64 (omega (arith, c.requires.width))) at c.if-group-top.false in
    let digit = digit_is c.in-Ok.group c.args.width c.requires.width in
    record {
      within = c.in-Ok.ensures.end;
      behind = omega (arith, c.each.invariant.behind, c.requires.some);
      fits = c.in-Some.ensures.fits;
      sum = more-low c.args.width c.each.sum c.each.shift c.in-Some.more _ c.in-Ok.group digit c.in-Some.ensures.some c.each.invariant.sum;
      read = more-next c.args.at c.args.width c.each.sum c.each.shift c.in-Some.more _ (input_at c.args.bytes.now c.each.here) _ c.in-Ok.group
          (omega (arith, c.requires.some)) c.in-Ok.ensures.read high c.in-Ok.ensures.value digit c.in-Some.ensures.some ∙ c.each.invariant.read;
    }
