use Rattle.std.proofs.Common.{◌≡◌, drop}
use Rattle.object_emit.specs.Pieces.{behind}
use Rattle.object_emit.specs.Objects.{initials_piece}
use Rattle.object_emit.proofs.objects.emit_initials.Given as goal

abbrev pub invariant-loop-initial : goal.invariant-loop-initial
invariant-loop-initial g l =
    behind l.out (initials_piece (g.A.Answers.meanings l.answers) l.slot (drop l.initial-index l.initials)) ≡ behind l.fn.out (initials_piece (g.A.Answers.meanings l.answers) 0 l.initials)
