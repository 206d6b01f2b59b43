use Rattle.std.proofs.Common.{◌≡◌, ◌∙◌, ap, sym}
use Rattle.std.specs.BTreeMap.{get}
use Rattle.dep_key.specs.KeyOrder.{key_order}
use Rattle.decl_index.specs.Providers.{items_or_none}
use Rattle.decl_index.proofs.Entering.{entered-at}
use Rattle.decl_index.proofs.index.enter.Goals as goal
use Rattle.decl_index.proofs.index.enter.Goals.{in-Some, in-None}

pub returns : goal.returns
returns c =
    let was : c.match-remove.known.items ≡ items_or_none (get key_order c.args.map.now c.args.key) = elim c.match-remove.branch [
      | in-Some w ↦ ap (λ v. v.items) w.known-is ∙ sym (ap items_or_none (sym c.remove.ensures.value ∙ w.in-Some.is))
      | in-None w ↦ ap (λ v. v.items) w.known-is ∙ w.new-known.ensures.items ∙ sym (ap items_or_none (sym c.remove.ensures.value ∙ w.in-None.is))
    ] in
    entered-at c.args.map.now c.remove.new.self c.insert.new.self c.args.key c.args.at c.match-remove.known c.push.new.self c.remove.ensures.updates.0 was c.in_ok-push.ensures.items c.in_ok-insert.ensures.updates.0
