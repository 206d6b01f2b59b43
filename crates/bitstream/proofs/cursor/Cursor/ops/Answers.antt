use Rattle.std.proofs.Common.{arith, ◌≡◌, ◌∙◌, ◌-◌, ◌+◌, ◌==◌, ℕ, true, false, sym}
use Rattle.std.specs.Prelude.{IsTrue}
use Rattle.std.proofs.lemmas.List.Elements.{All-push}
use Rattle.bitstream.specs.Stream.{has_width, may_stand}
use Rattle.bitstream.proofs.ListLaws.{ops-step}
use Rattle.bitstream.proofs.cursor.Cursor.ops.Goals as goal

not_first : (i : ℕ) → (i + 1 == 0) ≡ false
not_first i = grind arith

pub each-preserved : goal.each-preserved
each-preserved c =
    let left : c.args.count - (c.each.i + 1) ≡ c.args.count - c.each.i - 1 = omega arith in
    let stands : may_stand (c.each.i == 0) c.each.in_array (c.args.count - c.each.i - 1) c.in-Ok.op ≡ true = sym c.may_stand.ensures ∙ c.if-not-may_stand.false in
    record {
      within = omega (arith, c.each-test.true);
      widths = rw c.in_default.ensures.items (All-push (λ op. IsTrue (has_width op)) _ _ c.each.invariant.widths c.in-Ok.ensures.width);
      read = rw (left, not_first c.each.i, c.is_array-in_array.ensures)
          (ops-step c.each.ops.items c.push.new.self.items c.args.entered (c.args.count - c.each.i - 1) (c.args.count - c.each.i) (c.each.i == 0) c.each.in_array _ _ c.in-Ok.op
          (omega (arith, c.each-test.true)) c.in-Ok.ensures.read stands c.in_default.ensures.items) ∙ c.each.invariant.read;
    }
