-- The entries as the code writes them.
use Rattle.std.proofs.Common.{◌≡◌, ℕ, ◌+◌, ◌*◌, ◌-◌, ◌/◌, ◌%◌, ◌^◌, ◌∙◌, ◌++◌, List, Bool, ap, arith, length, sym}
use Rattle.bitstream.specs.Bits.{bits, bits_of}
use Rattle.bitstream.specs.Writing.{vbr_bits, aligned, with_field}
use Rattle.bitstream.specs.Entries.{enter_bits, end_bits}
use Rattle.bitstream.proofs.BitLaws.{length-bits_of}

pub enter-is : (w block width : ℕ) (before a b d all : List Bool) → a ≡ before ++ bits w 1 → b ≡ a ++ vbr_bits 8 block → d ≡ b ++ vbr_bits 4 width → all ≡ aligned d
    → enter_bits w block width before ≡ all ++ bits 32 0
unfolding enter_bits
enter-is w block width before a b d all a-is b-is d-is all-is =
    ap (λ s. s ++ bits 32 0) (sym (all-is ∙ ap aligned (d-is ∙ ap (λ s. s ++ vbr_bits 4 width) (b-is ∙ ap (λ s. s ++ vbr_bits 8 block) a-is))))

pub end-is : (w at len number : ℕ) (before a all new : List Bool) (items : List ℕ) → a ≡ before ++ bits w 0 → all ≡ aligned a → all ≡ bits_of items → len ≡ length items
    → number ≡ (len - at - 4) / 4 % 2 ^ 32 → new ≡ with_field (8 * at) number all → new ≡ end_bits w (8 * at) before
unfolding end_bits
end-is w at len number before a all new items a-is all-is whole len-is number-is new-is =
    let words : (len - at - 4) / 4 ≡ (length all - (8 * at + 32)) / 32 = omega (arith, len-is, ap length whole, length-bits_of items) in
    new-is ∙ ap (λ n. with_field (8 * at) n all) (number-is ∙ ap (λ n. n % 2 ^ 32) words)
    ∙ ap (λ s. with_field (8 * at) ((length s - (8 * at + 32)) / 32 % 2 ^ 32) s) (all-is ∙ ap aligned a-is)
