use Rattle.std.proofs.Common.{◌≡◌, ℕ, ◌+◌, ◌-◌, ◌/◌, ◌%◌, ◌^◌, ◌++◌, ◌≤◌, ◌∙◌, sym, ap, arith, append_assoc, List, Bool}
use Rattle.std.proofs.lemmas.Nat.{one_shl}
use Rattle.bitstream.specs.Bits.{bits}
use Rattle.bitstream.specs.Buffer.{bits_in, packed_bits}
use Rattle.bitstream.specs.Writing.{vbr_bits}
use Rattle.bitstream.proofs.NumberLaws.{smaller, vbr_bits-last, vbr_bits-more, grows-more}
use Rattle.bitstream.proofs.buffer.BitBuffer.pack_vbr.Goals as goal

-- one group more
stepped : (w n top : ℕ) (before after whole : List Bool) → 2 ≤ w → top ≡ 2 ^ (w - 1) → top ≤ n → after ≡ before ++ bits w (top + n % top)
    → before ++ vbr_bits w n ≡ whole → after ++ vbr_bits w (n / 2 ^ (w - 1)) ≡ whole
stepped w n top before after whole wide top-is high made kept =
    let made' : after ≡ before ++ bits w (2 ^ (w - 1) + n % 2 ^ (w - 1)) = rw (sym top-is) made in
    ap (λ s. s ++ vbr_bits w (n / 2 ^ (w - 1))) made' ∙ append_assoc before (bits w (2 ^ (w - 1) + n % 2 ^ (w - 1))) (vbr_bits w (n / 2 ^ (w - 1)))
    ∙ ap (λ s. before ++ s) (sym (vbr_bits-more w n wide (rw (sym top-is) high))) ∙ kept

pub each-smaller : goal.each-smaller
each-smaller c = smaller c.args.width c.each.rest c.requires.low (rw (one_shl (c.args.width - 1) 64 (omega (arith, c.requires.high))) at c.each-test.true)

pub each-preserved : goal.each-preserved
each-preserved c = record {
  kept = grows-more _ _ _ c.each.invariant.kept c.pack.ensures.kept;
  made = stepped c.args.width c.each.rest _ _ _ _ c.requires.low (one_shl (c.args.width - 1) 64 (omega (arith, c.requires.high))) c.each-test.true c.in_ok-packed.ensures.ok c.each.invariant.made;
}

pub returns-clause-ok : goal.returns-clause-ok
returns-clause-ok c =
    let low = rw (one_shl (c.args.width - 1) 64 (omega (arith, c.requires.high))) at c.each-test.false in
    c.in_ok-packed-2.ensures.ok ∙ ap (λ s. bits_in c.each.self ++ packed_bits c.each.packed ++ s) (sym (vbr_bits-last c.args.width c.each.rest low)) ∙ c.each.invariant.made
