use Rattle.std.proofs.Common.{◌≡◌, ◌∙◌, ap}
use Rattle.bitstream.specs.Sparse.{ops_in_bits}
use Rattle.bitstream.proofs.SparseLaws.{widths-kept}
use Rattle.bitstream.proofs.definition.Definition.from_vec.Goals as goal

pub invariant_of-new : goal.invariant_of-new
invariant_of-new c =
    let ops : c.in_ok-in_bits.in_bits.items ≡ ops_in_bits c.args.ops.items = c.in_ok-in_bits.ensures ∙ ap ops_in_bits c.as_slice.ensures.value in
    record { widths = c.requires; bits = ops; in_bits_widths = rw ops (widths-kept c.args.ops.items c.requires) }
