use Rattle.std.proofs.Common.{◌≡◌, ◌++◌, drop}
use Rattle.std.specs.Prelude.{flat_map}
use Rattle.object_emit.specs.Printing.{code_line}
use Rattle.object_emit.proofs.printing.put_lines.Given as goal

abbrev pub invariant-loop-instruction : goal.invariant-loop-instruction
invariant-loop-instruction l = l.out.items ++ flat_map code_line (drop l.instruction-index l.code) ≡ l.fn.out.items ++ flat_map code_line l.code
