use Rattle.std.proofs.Common.{◌≡◌, ◌++◌}
use Rattle.file_nodes.proofs.keys.copied.Given as goal

abbrev pub invariant-loop-key : goal.invariant-loop-key
invariant-loop-key l = l.keys.items ++ l.key-iterator ≡ l.fn.set.keys
