use Rattle.std.proofs.Common.{vec_len}
use Rattle.std.specs.Prelude.{All}
use Rattle.query_evaluator.specs.Search.{IsAwaited}
use Rattle.query_evaluator.proofs.answering.next_unknown.Given as goal

abbrev pub invariant-loop-next : goal.invariant-loop-next
invariant-loop-next g l = All (IsAwaited (g.T.Tasks.rules l.tasks) l.key) l.wanted.items

abbrev pub decreases-loop-next : goal.decreases-loop-next
decreases-loop-next g l = vec_len l.wanted
