use Rattle.std.proofs.Common.{arith, ◌∙◌, ◌-◌, ◌+◌}
use Rattle.bitstream.proofs.ListLaws.{numbers-step}
use Rattle.bitstream.proofs.cursor.Cursor.numbers.Goals as goal

pub each-preserved : goal.each-preserved
each-preserved c = record {
  within = omega (arith, c.each-test.true);
  read = numbers-step _ _ (c.args.count - (c.each.i + 1)) (c.args.count - c.each.i) c.args.op _ _ c.in-Ok.number (omega (arith, c.each-test.true)) c.in-Ok.ensures c.in_default.ensures.items ∙ c.each.invariant.read;
}
