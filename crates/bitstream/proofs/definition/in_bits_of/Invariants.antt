use Rattle.std.proofs.Common.{◌≡◌, ◌-◌, ◌++◌, length, drop}
use Rattle.bitstream.specs.Sparse.{ops_in_bits}
use Rattle.bitstream.proofs.definition.in_bits_of.Given as goal

abbrev pub invariant-each : goal.invariant-each
invariant-each l = l.found.items ++ ops_in_bits (drop l.i l.ops) ≡ ops_in_bits l.ops

abbrev pub decreases-each : goal.decreases-each
decreases-each l = length l.ops - l.i
