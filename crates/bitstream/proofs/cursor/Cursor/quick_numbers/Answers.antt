use Rattle.std.proofs.Common.{arith, ◌∙◌, ◌-◌, ◌+◌}
use Rattle.bitstream.proofs.ListLaws.{vbrs-step}
use Rattle.bitstream.proofs.cursor.Cursor.quick_numbers.Goals as goal

pub each-preserved : goal.each-preserved
each-preserved c = record {
  within = omega (arith, c.each-test.true);
  room = omega (arith, c.push.ensures.len, c.each.invariant.room, c.each-test.true);
  read = vbrs-step _ _ (c.args.count - (c.each.i + 1)) (c.args.count - c.each.i) _ _ c.in-Some.number (omega (arith, c.each-test.true)) c.in-Some.ensures c.push.ensures.items ∙ c.each.invariant.read;
}
