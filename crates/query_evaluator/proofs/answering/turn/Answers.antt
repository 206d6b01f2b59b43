use Rattle.std.proofs.Common.{◌<◌, ◌≡◌, ◌∙◌, ◌++◌, ◌∷◌, [], None, sym, subst}
use Rattle.std.specs.BTreeMap.{get}
use Rattle.std.specs.BTreeSet.{contains}
use Rattle.queries.specs.Queries.{seen, solution}
use Rattle.query_evaluator.specs.Memos.{known}
use Rattle.query_evaluator.specs.Search.{IsAwaited, IsState, IsStep, work}
use Rattle.query_evaluator.proofs.MemoLemmas.{or-true}
use Rattle.query_evaluator.proofs.SearchLemmas.{circular-answer, replaced, same-work}
use Rattle.query_evaluator.proofs.answering.turn.Goals as goal

pub keep-requires-clause-state : goal.keep-requires-clause-state
keep-requires-clause-state g c =
    subst (λ requests. IsState (g.T.Tasks.rules c.args.tasks.now) (g.T.Tasks.keys c.args.tasks.now) (get g.K.Ord.cmp c.args.memo.now) (contains g.K.Ord.cmp c.args.marks.now) (requests ++ c.advance.new.request ∷ [])) (sym c.deref.ensures.value)
    (replaced (g.T.Tasks.rules c.args.tasks.now) (g.T.Tasks.keys c.args.tasks.now) (get g.K.Ord.cmp c.args.memo.now) (contains g.K.Ord.cmp c.args.marks.now) c.args.stack.now.items c.args.request c.advance.new.request c.in_ok-answer.ensures.key c.in_ok-answer.ensures.request c.requires)

pub keep-requires-then-is_asked-clause-state : goal.keep-requires-then-is_asked-clause-state
keep-requires-then-is_asked-clause-state g c =
    subst (λ requests. IsState (g.T.Tasks.rules c.args.tasks.now) (g.T.Tasks.keys c.args.tasks.now) (get g.K.Ord.cmp c.args.memo.now) (contains g.K.Ord.cmp c.args.marks.now) (requests ++ c.advance.new.request ∷ [])) (sym c.deref-then-is_asked.ensures.value)
    (replaced (g.T.Tasks.rules c.args.tasks.now) (g.T.Tasks.keys c.args.tasks.now) (get g.K.Ord.cmp c.args.memo.now) (contains g.K.Ord.cmp c.args.marks.now) c.args.stack.now.items c.args.request c.advance.new.request c.in_ok-answer.ensures.key c.in_ok-answer.ensures.request c.requires)

pub keep-requires-then-is_asked-clause-answer : goal.keep-requires-then-is_asked-clause-answer
keep-requires-then-is_asked-clause-answer g c =
    let step : IsAwaited (g.T.Tasks.rules c.args.tasks.now) c.args.request.key c.in-Need.next × (known (get g.K.Ord.cmp c.args.memo.now) c.in-Need.next ≡ None) =
    subst (λ step. IsStep (g.T.Tasks.rules c.args.tasks.now) (g.T.Tasks.keys c.args.tasks.now) (get g.K.Ord.cmp c.args.memo.now) c.args.request.key step) c.in-Need.is c.in_ok-answer.ensures.step in
    subst (λ key. seen (g.T.Tasks.rules c.args.tasks.now) (solution (g.T.Tasks.rules c.args.tasks.now) (g.T.Tasks.keys c.args.tasks.now)) key ≡ None) (sym c.in_ok-answer.ensures.key)
    (circular-answer (g.T.Tasks.rules c.args.tasks.now) (g.T.Tasks.keys c.args.tasks.now) (g.met.T.Tasks.listing c.args.tasks.now) (get g.K.Ord.cmp c.args.memo.now) (contains g.K.Ord.cmp c.args.marks.now) c.args.stack.now.items c.args.request c.in-Need.next c.requires step.0 step.1
    (or-true _ _ (sym c.is_asked.ensures ∙ c.if-is_asked.true)))

pub ask_first-requires-clause-state : goal.ask_first-requires-clause-state
ask_first-requires-clause-state g c =
    replaced (g.T.Tasks.rules c.args.tasks.now) (g.T.Tasks.keys c.args.tasks.now) (get g.K.Ord.cmp c.args.memo.now) (contains g.K.Ord.cmp c.args.marks.now) c.args.stack.now.items c.args.request c.advance.new.request c.in_ok-answer.ensures.key c.in_ok-answer.ensures.request c.requires

pub returns-in_ok-keep-in-Answer-clause-less : goal.returns-in_ok-keep-in-Answer-clause-less
returns-in_ok-keep-in-Answer-clause-less g c =
    subst (λ n. work (g.T.Tasks.keys c.args.tasks.now) (get g.K.Ord.cmp c.keep.new.memo) (contains g.K.Ord.cmp c.args.marks.now) c.args.stack.now.items < n) (same-work (g.T.Tasks.keys c.args.tasks.now) (get g.K.Ord.cmp c.args.memo.now) (contains g.K.Ord.cmp c.args.marks.now) c.args.stack.now.items c.args.request c.advance.new.request)
    (subst (λ requests. work (g.T.Tasks.keys c.args.tasks.now) (get g.K.Ord.cmp c.keep.new.memo) (contains g.K.Ord.cmp c.args.marks.now) requests < work (g.T.Tasks.keys c.args.tasks.now) (get g.K.Ord.cmp c.args.memo.now) (contains g.K.Ord.cmp c.args.marks.now) (requests ++ c.advance.new.request ∷ [])) c.deref.ensures.value
    c.in_ok-keep-in-Answer.ensures.less)

pub returns-in_ok-keep-in-Need-clause-less : goal.returns-in_ok-keep-in-Need-clause-less
returns-in_ok-keep-in-Need-clause-less g c =
    subst (λ n. work (g.T.Tasks.keys c.args.tasks.now) (get g.K.Ord.cmp c.keep-then-is_asked.new.memo) (contains g.K.Ord.cmp c.args.marks.now) c.args.stack.now.items < n) (same-work (g.T.Tasks.keys c.args.tasks.now) (get g.K.Ord.cmp c.args.memo.now) (contains g.K.Ord.cmp c.args.marks.now) c.args.stack.now.items c.args.request c.advance.new.request)
    (subst (λ requests. work (g.T.Tasks.keys c.args.tasks.now) (get g.K.Ord.cmp c.keep-then-is_asked.new.memo) (contains g.K.Ord.cmp c.args.marks.now) requests < work (g.T.Tasks.keys c.args.tasks.now) (get g.K.Ord.cmp c.args.memo.now) (contains g.K.Ord.cmp c.args.marks.now) (requests ++ c.advance.new.request ∷ [])) c.deref-then-is_asked.ensures.value
    c.in_ok-keep-in-Need.ensures.less)

pub returns-in_ok-ask_first-in-Need-clause-less : goal.returns-in_ok-ask_first-in-Need-clause-less
returns-in_ok-ask_first-in-Need-clause-less g c =
    subst (λ n. work (g.T.Tasks.keys c.args.tasks.now) (get g.K.Ord.cmp c.args.memo.now) (contains g.K.Ord.cmp c.ask_first.new.marks) c.ask_first.new.stack.items < n) (same-work (g.T.Tasks.keys c.args.tasks.now) (get g.K.Ord.cmp c.args.memo.now) (contains g.K.Ord.cmp c.args.marks.now) c.args.stack.now.items c.args.request c.advance.new.request)
    c.in_ok-ask_first-in-Need.ensures.less
