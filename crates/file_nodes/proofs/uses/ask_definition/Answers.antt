use Rattle.std.proofs.Common.{sym, ap, ◌∙◌}
use Rattle.queries.specs.Queries.{dependencies}
use Rattle.checks.specs.Logs.{entered}
use Rattle.dep_key.specs.KeyOrder.{key_order}
use Rattle.decl_index.specs.Found.{shown_declaration, shown_item}
use Rattle.type_infer.specs.Readings.{definition_query}
use Rattle.file_nodes.proofs.UseLemmas.{defined_asks}
use Rattle.file_nodes.proofs.uses.ask_definition.Goals as goal

pub returns : goal.returns
returns g c =
    let m = g.A.Answers.meanings c.args.answers.now in
    let key = c.args.key.now in
    let d = shown_declaration c.args.declared in
    c.in_ok-definition_meaning.ensures.asked
    ∙ ap (λ l. entered key_order l (dependencies m (definition_query c.args.declared.path.now key (shown_item c.args.declared.item)))) c.in_ok-ask.ensures
    ∙ ap (entered key_order c.args.asked.now) (sym (defined_asks m key d))
