use Rattle.std.proofs.Common.{◌≡◌, map, length}
use Rattle.swift_ast.specs.Leaves.{leaf_of}
use Rattle.token_cursor.specs.Reading.{continues_to_assign}
use Rattle.token_cursor.proofs.cursor.continues_to_assign.Given as goal

abbrev pub invariant-loop-rest : goal.invariant-loop-rest
invariant-loop-rest l = continues_to_assign (map leaf_of l.rest) ≡ continues_to_assign (map leaf_of l.fn.tokens)

abbrev pub decreases-loop-rest : goal.decreases-loop-rest
decreases-loop-rest l = length l.rest
