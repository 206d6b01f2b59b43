use Rattle.std.proofs.Common.{◌∙◌, ◌++◌, [], ◌∷◌, ap}
use Rattle.ordered_lists.proofs.AscendingLemmas.{one_ascends}
use Rattle.table_of_files.proofs.ModuleNameLemmas.{m_is_name}
use Rattle.table_of_files.proofs.answers.names_answer.Goals as goal

pub assign-requires-clause-module_name : goal.assign-requires-clause-module_name
assign-requires-clause-module_name c = m_is_name

pub assign-requires-clause-ascending : goal.assign-requires-clause-ascending
assign-requires-clause-ascending c =
    let path = c.in_ok-from_str.field-0 in
    one_ascends c.deref.result.now path (c.deref.ensures.value ∙ c.in_ok-push.ensures.items ∙ ap (λ paths. paths ++ path ∷ []) c.new-paths.ensures.items)
