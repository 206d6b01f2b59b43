use Rattle.std.proofs.Common.{◌≡◌, suc, ◌-◌, arith}
use Rattle.bitstream.proofs.FieldLaws.{word-step}
use Rattle.bitstream.proofs.field.word.Goals as goal

pub loop-i-preserved : goal.loop-i-preserved
loop-i-preserved c =
    let up : suc (c.loop-i.i - 1) ≡ c.loop-i.i = omega (arith, c.loop-i-test.true) in
    record {
      within = omega (arith, c.loop-i.invariant.within);
      sum = word-step c.args.bytes.now (c.loop-i.i - 1) c.loop-i.sum (omega (arith, c.loop-i.invariant.within, up)) c.requires (omega (arith, c.type_inv.bytes (c.loop-i.i - 1))) (rw up c.loop-i.invariant.sum);
    }
