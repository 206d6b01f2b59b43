use Rattle.std.proofs.Common.{◌≡◌, ◌++◌, drop}
use Rattle.std.specs.List.{flat_map}
use Rattle.bitstream.specs.Buffer.{bits_in}
use Rattle.bitstream.specs.Writing.{op_bits, Grows}
use Rattle.bitstream.specs.Written.{OperandsFit}
use Rattle.bitstream.proofs.buffer.BitBuffer.push_ops.Given as goal

abbrev pub invariant-loop-op : goal.invariant-loop-op
invariant-loop-op l = record {
  fit : OperandsFit (drop l.op-index l.ops) → OperandsFit l.ops;
  kept : Grows l.fn.self.bytes.items l.self.bytes.items;
  made : bits_in l.self ++ flat_map op_bits (drop l.op-index l.ops) ≡ bits_in l.fn.self ++ flat_map op_bits l.ops;
}
