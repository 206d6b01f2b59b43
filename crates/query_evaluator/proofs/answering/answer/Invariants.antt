use Rattle.std.proofs.Common.{◌≡◌, true}
use Rattle.std.specs.BTreeMap.{get}
use Rattle.std.specs.BTreeSet.{contains}
use Rattle.queries.specs.Queries.{IsBelow}
use Rattle.query_evaluator.specs.Search.{IsState, work}
use Rattle.query_evaluator.proofs.answering.answer.Given as goal

abbrev pub invariant-loop-request : goal.invariant-loop-request
invariant-loop-request g l = record {
  state : IsState (g.T.Tasks.rules l.tasks) (g.T.Tasks.keys l.tasks) (get g.K.Ord.cmp l.memo) (contains g.K.Ord.cmp l.marks) l.stack.items;
  marked : contains g.K.Ord.cmp l.marks l.key ≡ true;
  kept : IsBelow (get g.K.Ord.cmp l.fn.memo) (get g.K.Ord.cmp l.memo);
}

abbrev pub decreases-loop-request : goal.decreases-loop-request
decreases-loop-request g l = work (g.T.Tasks.keys l.tasks) (get g.K.Ord.cmp l.memo) (contains g.K.Ord.cmp l.marks) l.stack.items
