use Rattle.std.proofs.Common.{◌∙◌, sym}
use Rattle.output_names.proofs.ModuleNamesLemmas.{word_is_utf8}
use Rattle.output_names.proofs.module_names.is_module_name.Goals as goal

pub returns-in-Err : goal.returns-in-Err
returns-in-Err c = absurd (c.in-Err.ensures.cases.0 (word_is_utf8 c.args.name.now (sym c.is_word.ensures ∙ c.if-not-is_word.false)))
