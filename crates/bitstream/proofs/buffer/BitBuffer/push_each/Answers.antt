use Rattle.std.proofs.Common.{◌≡◌, ◌++◌, ◌∙◌, ap, sym, arith, append_assoc, drop, drop-cons, ◌<◌, suc, ◌+◌, length, get_or, List, Bool, ℕ}
use Rattle.bitstream.specs.Bits.{bits, bits_of, byte_bits}
use Rattle.bitstream.proofs.NumberLaws.{grows-more}
use Rattle.bitstream.proofs.buffer.BitBuffer.push_each.Goals as goal

-- one byte more
stepped : (before after whole : List Bool) (bytes : List ℕ) (i : ℕ) → i < length bytes → after ≡ before ++ bits 8 (get_or bytes i 0)
    → before ++ bits_of (drop i bytes) ≡ whole → after ++ bits_of (drop (suc i) bytes) ≡ whole
unfolding byte_bits
stepped before after whole bytes i within made kept =
    ap (λ s. s ++ bits_of (drop (suc i) bytes)) made ∙ append_assoc before (bits 8 (get_or bytes i 0)) (bits_of (drop (suc i) bytes))
    ∙ ap (λ s. before ++ bits_of s) (sym (drop-cons bytes i 0 within)) ∙ kept

pub loop-byte-preserved : goal.loop-byte-preserved
loop-byte-preserved c = record {
  kept = grows-more _ _ _ c.loop-byte.invariant.kept c.in_default.ensures.kept;
  made = rw (let e : c.loop-byte.byte-index + 1 ≡ suc c.loop-byte.byte-index = omega arith in e) (stepped _ _ _ c.args.bytes.now c.loop-byte.byte-index c.loop-byte-test.true c.in_default.ensures.ok c.loop-byte.invariant.made);
}
