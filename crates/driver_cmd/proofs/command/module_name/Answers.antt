use Rattle.std.proofs.Common.{◌≡◌, ◌∙◌, sym, true}
use Rattle.output_names.specs.ModuleNames.{is_module_name}
use Rattle.driver_cmd.proofs.CommandLemmas.{module_name_is_utf8}
use Rattle.driver_cmd.proofs.command.module_name.Goals as goal

pub returns-in-Err : goal.returns-in-Err
returns-in-Err c =
    let named : is_module_name c.as_slice-word.result.now ≡ true = sym c.is_module_name.ensures ∙ c.if-not-is_module_name.false in
    absurd (c.in-Err.ensures.cases.0 (module_name_is_utf8 c.as_slice-word.result.now named))
