use Rattle.std.proofs.Common.{◌≡◌, ◌+◌, drop}
use Rattle.std.specs.List.{sum_by}
use Rattle.object_emit.specs.Layouts.{member_offset}
use Rattle.object_emit.proofs.layouts.offset_along.Given as goal

abbrev pub invariant-loop-member : goal.invariant-loop-member
invariant-loop-member g l = l.so_far + sum_by (member_offset (g.A.Answers.meanings l.answers)) (drop l.member-index l.members) ≡ sum_by (member_offset (g.A.Answers.meanings l.answers)) l.members
