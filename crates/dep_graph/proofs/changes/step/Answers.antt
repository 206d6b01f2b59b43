use Rattle.std.proofs.Common.{◌∙◌, sym, ap, inl, inr, nat_eq, ◌++◌, ◌∷◌, [], Vec, Global, le_of_lt}
use Rattle.std.specs.Cmp.Lexicographic.{pointwise}
use Rattle.dep_key.specs.declared.key.Key.{Key}
use Rattle.dep_graph.proofs.MergingLemmas.{past-old, past-new, past-both, from-above, item-first, turned, absent-from, present-from, none-left}
use Rattle.dep_graph.proofs.changes.step.Goals as goal
use Rattle.dep_graph.proofs.changes.step.Goals.{then-ne+in_ok-key-in-Equal+in_ok-push-in-Equal, else-ne}

pub returns-in_ok-push-in-Less : goal.returns-in_ok-push-in-Less
returns-in_ok-push-in-Less c =
    past-old c.args.old.now c.args.new.now c.args.at.old c.args.at.new c.args.keys.now.items c.push-in-Less.new.self.items c.index-old-at.result c.requires.left c.requires.right (sym c.index-old-at.is) c.requires.old
    (from-above c.index-old-at.result.key c.args.new.now c.args.at.new c.in-Some.second.now c.requires.new
    (item-first c.args.new.now c.args.at.new c.in-Some.second.now c.in-Some.ensures.lookup.3.0 (sym c.in-Some.ensures.lookup.1))
    (sym c.cmp.ensures ∙ c.in-Less.is))
    (c.in_ok-push-in-Less.ensures.items ∙ ap (λ q. c.args.keys.now.items ++ q ∷ []) c.in_ok-key-in-Less.ensures.cases)

pub returns-in_ok-push-in-Greater : goal.returns-in_ok-push-in-Greater
returns-in_ok-push-in-Greater c =
    past-new c.args.old.now c.args.new.now c.args.at.old c.args.at.new c.args.keys.now.items c.push-in-Greater.new.self.items c.in-Some.second.now (le_of_lt c.requires.left) c.in-Some.ensures.lookup.3.0 (sym c.in-Some.ensures.lookup.1) c.requires.new
    (from-above c.in-Some.second.now.key c.args.old.now c.args.at.old c.index-old-at.result c.requires.old
    (item-first c.args.old.now c.args.at.old c.index-old-at.result c.requires.left (sym c.index-old-at.is))
    (turned c.index-old-at.result.key c.in-Some.second.now.key (sym c.cmp.ensures ∙ c.in-Greater.is)))
    (c.in_ok-push-in-Greater.ensures.items ∙ ap (λ q. c.args.keys.now.items ++ q ∷ []) c.in_ok-key-in-Greater.ensures.cases)

pub returns-after-ne : goal.returns-after-ne
returns-after-ne c =
    past-both c.args.old.now c.args.new.now c.args.at.old c.args.at.new c.args.keys.now.items c.if-ne.keys.items c.index-old-at.result c.in-Some.second.now c.requires.left c.in-Some.ensures.lookup.3.0
    (sym c.index-old-at.is) (sym c.in-Some.ensures.lookup.1) c.requires.old c.requires.new (sym c.cmp.ensures ∙ c.in-Equal.is)
    (elim c.if-ne.branch [
      | then-ne+in_ok-key-in-Equal+in_ok-push-in-Equal w ↦ inl (absent-from _ (pointwise nat_eq c.index-old-at.result.print c.in-Some.second.now.print) c.ne.ensures w.if-ne.true, ap (λ (v : Vec Key Global). v.items) w.keys-is ∙ w.in_ok-push-in-Equal.ensures.items ∙ ap (λ q. c.args.keys.now.items ++ q ∷ []) w.in_ok-key-in-Equal.ensures.cases)
      | else-ne w ↦ inr (present-from _ (pointwise nat_eq c.index-old-at.result.print c.in-Some.second.now.print) c.ne.ensures w.if-ne.false, ap (λ (v : Vec Key Global). v.items) w.keys-is)
    ])

pub returns-in_default : goal.returns-in_default
returns-in_default c =
    past-old c.args.old.now c.args.new.now c.args.at.old c.args.at.new c.args.keys.now.items c.push.new.self.items c.index-old-at.result c.requires.left c.requires.right (sym c.index-old-at.is) c.requires.old
    (none-left c.index-old-at.result.key c.args.new.now c.args.at.new c.in_default.ensures.lookup.3)
    (c.in_ok-push.ensures.items ∙ ap (λ q. c.args.keys.now.items ++ q ∷ []) c.in_ok-key.ensures.cases)
