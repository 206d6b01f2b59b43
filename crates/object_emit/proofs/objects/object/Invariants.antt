use Rattle.std.proofs.Common.{◌≡◌, ◌++◌, drop}
use Rattle.std.specs.Prelude.{flat_map}
use Rattle.object_emit.specs.Objects.{object_text, unit_text}
use Rattle.object_emit.proofs.objects.object.Given as goal

abbrev pub invariant-loop-unit : goal.invariant-loop-unit
invariant-loop-unit g l = l.out.items ++ flat_map (unit_text (g.A.Answers.meanings l.answers)) (drop l.unit-index l.units) ≡ object_text (g.A.Answers.meanings l.answers) l.path l.units
