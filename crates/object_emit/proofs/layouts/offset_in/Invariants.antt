use Rattle.std.proofs.Common.{◌≡◌, drop}
use Rattle.object_emit.specs.Layouts.{offset_in}
use Rattle.object_emit.proofs.layouts.offset_in.Given as goal

abbrev pub invariant-loop-field : goal.invariant-loop-field
invariant-loop-field l = offset_in (drop l.field-index l.fields) l.name ≡ offset_in l.fields l.name
