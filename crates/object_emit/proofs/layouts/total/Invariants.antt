use Rattle.std.proofs.Common.{◌≡◌, ◌+◌, drop}
use Rattle.std.specs.List.{sum_by}
use Rattle.object_emit.specs.Layouts.{words}
use Rattle.object_emit.proofs.layouts.total.Given as goal

abbrev pub invariant-loop-ty : goal.invariant-loop-ty
invariant-loop-ty g l = l.so_far + sum_by (words (g.A.Answers.meanings l.answers)) (drop l.ty-index l.types) ≡ sum_by (words (g.A.Answers.meanings l.answers)) l.types
