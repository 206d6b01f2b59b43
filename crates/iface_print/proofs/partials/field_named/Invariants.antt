use Rattle.std.proofs.Common.{◌≡◌, drop}
use Rattle.iface_print.specs.Partials.{field_named}
use Rattle.iface_print.proofs.partials.field_named.Given as goal

abbrev pub invariant-loop-field : goal.invariant-loop-field
invariant-loop-field l = field_named l.name (drop l.field-index l.fields) ≡ field_named l.name l.fields
