use Rattle.std.proofs.Common.{Some, subst, length, ◌<◌}
use Rattle.std.specs.Prelude.{All}
use Rattle.std.specs.BTreeMap.{get}
use Rattle.std.proofs.lemmas.List.Elements.{All-pop}
use Rattle.queries.specs.Queries.{seen}
use Rattle.query_evaluator.specs.Memos.{known, IsWanted, Tells}
use Rattle.query_evaluator.proofs.MemoLemmas.{read-answer, wanted-awaited, wanted-all, wanted-unknown}
use Rattle.query_evaluator.proofs.answering.read_anew.Goals as goal

pub returns-in-Value-clause-request : goal.returns-in-Value-clause-request
returns-in-Value-clause-request g c = c.requires.request

pub returns-in-Value-clause-step : goal.returns-in-Value-clause-step
returns-in-Value-clause-step g c =
    let r = g.T.Tasks.rules c.args.tasks.now in
    let key = c.args.request.now.key in
    read-answer r (g.T.Tasks.keys c.args.tasks.now) (g.met.T.Tasks.listing c.args.tasks.now) (get g.K.Ord.cmp c.args.memo.now) c.requires.memo key c.in-Value.answer
    (subst (λ reading. Tells (seen r (known (get g.K.Ord.cmp c.args.memo.now))) (r.means key) reading) c.in-Value.is c.in_ok-answer.ensures)

pub returns-in-Some-clause-request : goal.returns-in-Some-clause-request
returns-in-Some-clause-request g c =
    let r = g.T.Tasks.rules c.args.tasks.now in
    let key = c.args.request.now.key in
    let P = IsWanted (seen r (known (get g.K.Ord.cmp c.args.memo.now))) (r.means key) in
    let told : (0 < length c.in-Wants.wanted.items) × All P c.in-Wants.wanted.items =
    subst (λ reading. Tells (seen r (known (get g.K.Ord.cmp c.args.memo.now))) (r.means key) reading) c.in-Wants.is c.in_ok-answer.ensures in
    wanted-all r (g.T.Tasks.keys c.args.tasks.now) (g.met.T.Tasks.listing c.args.tasks.now) (get g.K.Ord.cmp c.args.memo.now) c.requires.memo key c.pop.new.self.items
    (All-pop P c.in-Wants.wanted.items c.pop.new.self.items (Some c.in-Some.next) c.in-Some.ensures.items told.1).0

pub returns-in-Some-clause-step : goal.returns-in-Some-clause-step
returns-in-Some-clause-step g c =
    let r = g.T.Tasks.rules c.args.tasks.now in
    let key = c.args.request.now.key in
    let P = IsWanted (seen r (known (get g.K.Ord.cmp c.args.memo.now))) (r.means key) in
    let told : (0 < length c.in-Wants.wanted.items) × All P c.in-Wants.wanted.items =
    subst (λ reading. Tells (seen r (known (get g.K.Ord.cmp c.args.memo.now))) (r.means key) reading) c.in-Wants.is c.in_ok-answer.ensures in
    let next : P c.in-Some.next = (All-pop P c.in-Wants.wanted.items c.pop.new.self.items (Some c.in-Some.next) c.in-Some.ensures.items told.1).1 in
    (wanted-awaited r (g.T.Tasks.keys c.args.tasks.now) (g.met.T.Tasks.listing c.args.tasks.now) (get g.K.Ord.cmp c.args.memo.now) c.requires.memo key c.in-Some.next next, wanted-unknown r (get g.K.Ord.cmp c.args.memo.now) key c.in-Some.next next)
