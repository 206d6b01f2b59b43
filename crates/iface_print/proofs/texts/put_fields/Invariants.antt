use Rattle.std.proofs.Common.{◌≡◌, ◌++◌, drop}
use Rattle.iface_print.specs.Prints as prints
use Rattle.iface_print.proofs.texts.put_fields.Given as goal

abbrev pub invariant-loop-field : goal.invariant-loop-field
invariant-loop-field l = l.out.items ++ prints.fields_text (drop l.field-index l.fields) ≡ l.initial.out.items ++ prints.fields_text l.fields
