-- Files, by the laws of checks.
use Rattle.std.proofs.Common.{false, ap, ◌∙◌}
use Rattle.dep_key.specs.KeyOrder.{key_order}
use Rattle.checks.specs.Logs.{set_of}
use Rattle.checks.specs.OwnKeys.{with_own}
use Rattle.checks.proofs.Made.{made_from_nothing}
use Rattle.checks.proofs.Owned.{same_task, own_value}
use Rattle.expr_check.specs.Messages.{line_order, orders}
use Rattle.body_check.specs.Declarations.{file_check}
use Rattle.body_check.specs.Files.{units_or_none, file_errors, file_units, file_uses, file_asks, SameMeaningsGiveTheSame, MadeIsTheFile}

pub same_file : SameMeaningsGiveTheSame
unfolding file_errors file_units file_uses file_asks
same_file meanings others file h =
    let same = same_task meanings others (file_check file) h in record {
      errors = ap (λ c. set_of line_order c.errors) same.value;
      units = ap (λ c. units_or_none c.value) same.value;
      uses = ap (set_of key_order) same.uses;
      asks = same.asks;
    }

pub made_file : MadeIsTheFile
unfolding file_errors file_uses
made_file meanings file =
    made_from_nothing orders meanings (with_own meanings (file_check file))
    ∙ ap (λ c. (c.value, record { errors = set_of line_order c.errors; asked = file_uses meanings file; muted = false })) (own_value meanings (file_check file))
