use Rattle.std.proofs.Common.{sym, subst, IsTrue, All}
use Rattle.drv_outside.specs.Plain.{is_plain_name}
use Rattle.file_map.specs.Assigned.{all_names}
use Rattle.file_map.specs.Table.{members}
use Rattle.file_map.proofs.DistinctLemmas.{no_repeat}
use Rattle.file_map.proofs.PlainLemmas.{are_plain}
use Rattle.file_map.proofs.assigning.assign.Goals as goal

pub returns-in-Ok-Ok-clause-distinct : goal.returns-in-Ok-Ok-clause-distinct
returns-in-Ok-Ok-clause-distinct c = let h = rw c.in-Ok-Ok.field-0-is at c.in-Ok-Ok.ensures in h.1

pub returns-in-Ok-Ok-clause-plain : goal.returns-in-Ok-Ok-clause-plain
returns-in-Ok-Ok-clause-plain c =
    let h = rw c.in-Ok-Ok.field-0-is at c.in-Ok-Ok.ensures in
    subst (λ names. All (λ name. IsTrue (is_plain_name name)) (all_names names)) (sym h.0) (are_plain (members c.args.file_map.now) c.args.module_name.now c.args.paths.now c.args.file_map.now.plain c.requires.module_name c.requires.plain)

pub returns-in-Ok-Err-clause-defaults : goal.returns-in-Ok-Err-clause-defaults
returns-in-Ok-Err-clause-defaults c = λ empty.
    let h = rw c.in-Ok-Err.field-0-is at c.in-Ok-Err.ensures in
    absurd (no_repeat (members c.args.file_map.now) c.args.module_name.now c.args.paths.now c.in-Ok-Err.fault empty c.requires.module_name c.requires.plain c.requires.ascending h)
