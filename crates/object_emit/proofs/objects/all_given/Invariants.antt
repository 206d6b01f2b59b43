use Rattle.std.proofs.Common.{◌≡◌, ◌+◌, drop}
use Rattle.std.specs.List.{sum_by}
use Rattle.object_emit.specs.Objects.{given_words}
use Rattle.object_emit.proofs.objects.all_given.Given as goal

abbrev pub invariant-loop-initial : goal.invariant-loop-initial
invariant-loop-initial g l = l.so_far + sum_by (given_words (g.A.Answers.meanings l.answers)) (drop l.initial-index l.initials) ≡ sum_by (given_words (g.A.Answers.meanings l.answers)) l.initials
