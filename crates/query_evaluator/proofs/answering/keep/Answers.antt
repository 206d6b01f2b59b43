use Rattle.std.specs.BTreeMap.{get}
use Rattle.query_evaluator.proofs.MemoLemmas.{Takes, takes-updates}
use Rattle.query_evaluator.proofs.SearchLemmas.{answered, answered-work}
use Rattle.query_evaluator.proofs.answering.keep.Goals as goal

pub returns-clause-state : goal.returns-clause-state
returns-clause-state g c =
    let took : Takes (get g.K.Ord.cmp c.args.memo.now) (get g.K.Ord.cmp c.insert.new.self) c.args.request.key c.args.answer =
    takes-updates g.K.Ord.cmp g.met.K.QueryKey.exact c.args.memo.now c.insert.new.self c.args.request.key c.args.answer c.in_ok-insert.ensures.updates.0 c.in_ok-insert.ensures.updates.1 in
    answered _ _ _ _ _ c.args.stack.now c.args.request c.args.answer took c.requires.answer c.requires.state

pub returns-clause-less : goal.returns-clause-less
returns-clause-less g c =
    let took : Takes (get g.K.Ord.cmp c.args.memo.now) (get g.K.Ord.cmp c.insert.new.self) c.args.request.key c.args.answer =
    takes-updates g.K.Ord.cmp g.met.K.QueryKey.exact c.args.memo.now c.insert.new.self c.args.request.key c.args.answer c.in_ok-insert.ensures.updates.0 c.in_ok-insert.ensures.updates.1 in
    answered-work (g.T.Tasks.keys c.args.tasks.now) _ _ _ c.args.stack.now c.args.request c.args.answer took
