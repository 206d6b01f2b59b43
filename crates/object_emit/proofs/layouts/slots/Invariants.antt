use Rattle.std.proofs.Common.{◌≡◌, ◌++◌, drop}
use Rattle.object_emit.specs.Layouts.{slots_from}
use Rattle.object_emit.proofs.layouts.slots.Given as goal

abbrev pub invariant-loop-ty : goal.invariant-loop-ty
invariant-loop-ty g l = l.slots.items ++ slots_from (g.A.Answers.meanings l.answers) l.next (drop l.ty-index l.types) ≡ slots_from (g.A.Answers.meanings l.answers) l.first l.types
