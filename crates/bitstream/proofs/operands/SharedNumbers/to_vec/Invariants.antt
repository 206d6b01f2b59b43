use Rattle.std.proofs.Common.{◌≡◌, ◌++◌, length, drop}
use Rattle.bitstream.specs.Sparse.{filled}
use Rattle.bitstream.proofs.operands.SharedNumbers.to_vec.Given as goal

abbrev pub invariant-each : goal.invariant-each
invariant-each l = l.numbers.items ++ filled l.left.ops.now l.left.in_bits.now ≡ drop 1 (filled l.self.definition l.self.in_bits.items)

abbrev pub decreases-each : goal.decreases-each
decreases-each l = length (filled l.left.ops.now l.left.in_bits.now)
