use Rattle.std.proofs.Common.{sym, ap, subst, ◌∙◌}
use Rattle.std.specs.BTreeMap.{get}
use Rattle.std.specs.Option.{option_map}
use Rattle.queries.specs.Queries.{run, seen}
use Rattle.query_evaluator.specs.Memos.{known, Tells}
use Rattle.dep_key.specs.KeyOrder.{key_order}
use Rattle.decl_index.specs.Found.{shown_declaration}
use Rattle.type_infer.specs.Meanings.{rules as module_rules}
use Rattle.decl_meaning.proofs.ProviderLemmas.{given_none, given_one, given_several}
use Rattle.decl_meaning.proofs.module_tasks.ModuleTasksTasksKeyMeaning.read.Goals as goal

pub returns-in-empty : goal.returns-in-empty
returns-in-empty c =
    let files = c.args.self.now.index.now in
    ap (run (seen (module_rules files) (known (get key_order c.args.memo.now)))) (given_none files c.args.key.now c.providers.result.now c.providers.ensures.providers c.in-empty.len_below)

pub returns-in_ok-reading-in-Some : goal.returns-in_ok-reading-in-Some
returns-in_ok-reading-in-Some c =
    let files = c.args.self.now.index.now in
    subst (λ q. Tells (seen (module_rules files) (known (get key_order c.args.memo.now))) q c.in_ok-reading-in-Some.reading)
    (sym (given_one files c.args.key.now c.providers.result.now (shown_declaration c.in-Some.declared) c.providers.ensures.providers c.in-len1.len_at_least c.in-len1.len_below (sym c.declared.ensures.declared ∙ ap (option_map shown_declaration) c.in-Some.is)))
    c.in_ok-reading-in-Some.ensures

pub returns-in_default : goal.returns-in_default
returns-in_default c =
    let files = c.args.self.now.index.now in
    ap (run (seen (module_rules files) (known (get key_order c.args.memo.now)))) (given_several files c.args.key.now c.providers.result.now c.providers.ensures.providers c.in_default.len_at_least)
