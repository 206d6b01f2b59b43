use Rattle.std.proofs.Common.{◌≡◌, ◌+◌, ◌-◌, ◌%◌, ◌^◌, ◌++◌, ◌∙◌, ap, arith}
use Rattle.std.specs.Int.{to_le_bytes, w32, w64}
use Rattle.std.proofs.lemmas.Nat.{shr_below, and_mask}
use Rattle.bitstream.proofs.WritingLaws.{written-pending, written-word, word-bits, half_word-bits}
use Rattle.bitstream.proofs.buffer.BitBuffer.push_bits.Goals as goal

pub returns-then-count-lt32-clause-ok : goal.returns-then-count-lt32-clause-ok
returns-then-count-lt32-clause-ok c = written-pending c.args.self.now.bytes.items c.args.self.now.pending c.args.self.now.count c.args.value c.args.width c.joined-all.result
    c.args.self.now.low c.joined-all.ensures.sum

pub returns-then-count-lt64-clause-ok : goal.returns-then-count-lt64-clause-ok
returns-then-count-lt64-clause-ok c =
    let items : c.extend_from_slice.new.self.items ≡ c.args.self.now.bytes.items ++ to_le_bytes w32 (c.joined-all.result % 2 ^ 32)
    = c.in_default.ensures.items ∙ ap (λ s. c.args.self.now.bytes.items ++ s) (c.to_le_bytes.ensures ∙ ap (to_le_bytes w32) (and_mask c.joined-all.result 32)) in
    rw items (written-word c.args.self.now.bytes.items _ c.args.self.now.pending c.args.self.now.count c.args.value c.args.width c.joined-all.result 32
    (half_word-bits c.joined-all.result) c.args.self.now.low c.joined-all.ensures.sum c.if-count-lt32.false)

pub returns-clause-ok : goal.returns-clause-ok
returns-clause-ok c =
    let items : c.extend_from_slice-2.new.self.items ≡ c.args.self.now.bytes.items ++ to_le_bytes w64 (c.joined-all.result % 2 ^ 64)
    = c.in_default-extend_from_slice.ensures.items ∙ ap (λ s. c.args.self.now.bytes.items ++ s) (c.to_le_bytes-2.ensures ∙ ap (to_le_bytes w64) (and_mask c.joined-all.result 64)) in
    rw items (written-word c.args.self.now.bytes.items _ c.args.self.now.pending c.args.self.now.count c.args.value c.args.width c.joined-all.result 64
    (word-bits c.joined-all.result) c.args.self.now.low c.joined-all.ensures.sum c.if-count-lt64.false)

pub invariant_of-self-then-count-lt64-clause-low : goal.invariant_of-self-then-count-lt64-clause-low
invariant_of-self-then-count-lt64-clause-low c =
    let count : c.args.self.now.count + c.args.width - 32 + 32 ≡ c.args.self.now.count + c.args.width = omega (arith, c.if-count-lt32.false) in
    shr_below c.joined-all.result (c.args.self.now.count + c.args.width - 32) 32 (rw count c.joined-all.ensures.fits)

pub invariant_of-self-2-clause-low : goal.invariant_of-self-2-clause-low
invariant_of-self-2-clause-low c =
    let count : c.args.self.now.count + c.args.width - 64 + 64 ≡ c.args.self.now.count + c.args.width = omega (arith, c.if-count-lt64.false) in
    shr_below c.joined-all.result (c.args.self.now.count + c.args.width - 64) 64 (rw count c.joined-all.ensures.fits)
