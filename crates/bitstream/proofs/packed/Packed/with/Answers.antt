use Rattle.std.proofs.Common.{◌+◌, ◌∙◌, ap, sym}
use Rattle.bitstream.specs.Bits.{bits}
use Rattle.bitstream.proofs.BitLaws.{bits-join}
use Rattle.bitstream.proofs.WritingLaws.{packed-is, joined-fits}
use Rattle.bitstream.proofs.packed.Packed.with.Goals as goal

pub returns : goal.returns
returns c =
    let self = c.args.self in
    ap (bits (self.width + c.args.width)) (packed-is self.value self.width c.args.value c.args.width self.low c.requires.value c.requires.room) ∙ sym (bits-join self.width self.value c.args.width c.args.value self.low)

pub invariant_of-result-clause-low : goal.invariant_of-result-clause-low
invariant_of-result-clause-low c =
    let self = c.args.self in
    rw (packed-is self.value self.width c.args.value c.args.width self.low c.requires.value c.requires.room) (joined-fits self.value self.width c.args.value c.args.width self.low c.requires.value)
