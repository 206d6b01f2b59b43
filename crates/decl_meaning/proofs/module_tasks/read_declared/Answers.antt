use Rattle.std.proofs.Common.{◌≡◌, [], ap, sym, subst, ◌∙◌}
use Rattle.std.specs.Prelude.{All}
use Rattle.std.specs.BTreeMap.{get}
use Rattle.queries.specs.Queries.{dependencies, seen}
use Rattle.query_evaluator.specs.Memos.{known, IsWanted}
use Rattle.checks.specs.Logs.{entered}
use Rattle.dep_key.specs.KeyOrder.{key_order}
use Rattle.decl_index.specs.Found.{shown_item}
use Rattle.type_infer.specs.Demand.{or_circular}
use Rattle.type_infer.specs.Meanings.{rules}
use Rattle.type_infer.specs.Readings.{item_query}
use Rattle.type_infer.proofs.Demanded.{asked-needed, all-known}
use Rattle.decl_meaning.proofs.TellLemmas.{value_told, wants_told, emptied, some_items}
use Rattle.decl_meaning.proofs.module_tasks.read_declared.Goals as goal

pub returns-then-is_empty : goal.returns-then-is_empty
returns-then-is_empty c =
    let s = seen (rules c.args.index.now) (known (get key_order c.args.memo.now)) in
    let query = item_query c.args.declared.path.now c.args.key.now (shown_item c.args.declared.item) in
    let set : c.into_keys.result.keys ≡ entered key_order [] (dependencies (or_circular s) query) =
    c.into_keys.ensures ∙ c.in_ok-meaning.ensures.asked ∙ ap (λ l. entered key_order l (dependencies (or_circular s) query)) c.new-asked.ensures in
    value_told all-known s c.args.declared.path.now c.args.key.now (shown_item c.args.declared.item) c.into_keys.result.keys c.in_ok-meaning.meaning c.in_ok-meaning.ensures.meaning set
    (sym c.in_ok-wanted.ensures ∙ emptied c.in_ok-wanted.wanted (sym c.is_empty.ensures ∙ c.if-is_empty.true))

pub returns-else-is_empty : goal.returns-else-is_empty
returns-else-is_empty c =
    let s = seen (rules c.args.index.now) (known (get key_order c.args.memo.now)) in
    let query = item_query c.args.declared.path.now c.args.key.now (shown_item c.args.declared.item) in
    let set : c.into_keys.result.keys ≡ entered key_order [] (dependencies (or_circular s) query) =
    c.into_keys.ensures ∙ c.in_ok-meaning.ensures.asked ∙ ap (λ l. entered key_order l (dependencies (or_circular s) query)) c.new-asked.ensures in
    let wanted : All (IsWanted s query) c.in_ok-wanted.wanted.items =
    subst (λ l. All (IsWanted s query) l) (sym c.in_ok-wanted.ensures) (wants_told asked-needed s c.args.declared.path.now c.args.key.now (shown_item c.args.declared.item) c.into_keys.result.keys set) in
    (some_items c.in_ok-wanted.wanted (sym c.is_empty.ensures ∙ c.if-is_empty.false), wanted)
