use Rattle.std.proofs.Common.{◌<◌, ◌∙◌, ◌++◌, ◌∷◌, [], ap, sym, subst}
use Rattle.std.specs.BTreeMap.{get}
use Rattle.std.specs.BTreeSet.{contains}
use Rattle.std.proofs.lemmas.List.Elements.{All-nil, All-same}
use Rattle.query_evaluator.specs.declared.request.Request.{Request}
use Rattle.query_evaluator.specs.Search.{IsAwaited, IsState, work}
use Rattle.query_evaluator.proofs.MemoLemmas.{Marks, marks-updates}
use Rattle.query_evaluator.proofs.SearchLemmas.{requested, requested-work}
use Rattle.query_evaluator.proofs.answering.ask_first.Goals as goal

pub returns-clause-state : goal.returns-clause-state
returns-clause-state g c =
    let r = g.T.Tasks.rules c.args.tasks.now in
    let above : Request g.row.K.Denot = record { key = c.args.next; wanted = c.new.result } in
    let marked : Marks (contains g.K.Ord.cmp c.args.marks.now) (contains g.K.Ord.cmp c.insert.new.self) c.args.next =
    subst (λ key. Marks (contains g.K.Ord.cmp c.args.marks.now) (contains g.K.Ord.cmp c.insert.new.self) key) c.in_ok-copy.ensures
    (marks-updates g.K.Ord.cmp g.met.K.QueryKey.exact c.args.marks.now c.insert.new.self c.in_ok-copy.field-0 c.in_ok-insert.ensures.updates.0 c.in_ok-insert.ensures.updates.1) in
    subst (λ requests. IsState r (g.T.Tasks.keys c.args.tasks.now) (get g.K.Ord.cmp c.args.memo.now) (contains g.K.Ord.cmp c.insert.new.self) requests)
    (sym (c.in_ok-push-2.ensures.items ∙ ap (λ requests. requests ++ above ∷ []) c.in_ok-push.ensures.items))
    (requested r _ _ (contains g.K.Ord.cmp c.args.marks.now) _ c.args.stack.now.items c.args.request above marked
    (All-same (IsAwaited r c.args.next) c.new.result.items [] c.new.ensures.items (All-nil (IsAwaited r c.args.next))) c.requires.awaited c.requires.state)

pub returns-clause-less : goal.returns-clause-less
returns-clause-less g c =
    let r = g.T.Tasks.rules c.args.tasks.now in
    let above : Request g.row.K.Denot = record { key = c.args.next; wanted = c.new.result } in
    let marked : Marks (contains g.K.Ord.cmp c.args.marks.now) (contains g.K.Ord.cmp c.insert.new.self) c.args.next =
    subst (λ key. Marks (contains g.K.Ord.cmp c.args.marks.now) (contains g.K.Ord.cmp c.insert.new.self) key) c.in_ok-copy.ensures
    (marks-updates g.K.Ord.cmp g.met.K.QueryKey.exact c.args.marks.now c.insert.new.self c.in_ok-copy.field-0 c.in_ok-insert.ensures.updates.0 c.in_ok-insert.ensures.updates.1) in
    subst (λ requests. work (g.T.Tasks.keys c.args.tasks.now) (get g.K.Ord.cmp c.args.memo.now) (contains g.K.Ord.cmp c.insert.new.self) requests
    < work (g.T.Tasks.keys c.args.tasks.now) (get g.K.Ord.cmp c.args.memo.now) (contains g.K.Ord.cmp c.args.marks.now) (c.args.stack.now.items ++ c.args.request ∷ []))
    (sym (c.in_ok-push-2.ensures.items ∙ ap (λ requests. requests ++ above ∷ []) c.in_ok-push.ensures.items))
    (requested-work r (g.T.Tasks.keys c.args.tasks.now) (g.met.T.Tasks.listing c.args.tasks.now) (get g.K.Ord.cmp c.args.memo.now) (contains g.K.Ord.cmp c.args.marks.now) (contains g.K.Ord.cmp c.insert.new.self)
    c.args.stack.now.items c.args.request above marked c.requires.awaited.has c.requires.fresh c.requires.unmarked)
