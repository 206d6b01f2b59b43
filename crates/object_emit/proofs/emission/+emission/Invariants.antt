use Rattle.std.proofs.Common.{◌≡◌, drop}
use Rattle.object_emit.specs.Pieces.{behind, branches_piece}
use Rattle.object_emit.specs.Emission.{site, steps_piece, branches_parts}
use Rattle.object_emit.proofs.emission.+emission.Given as goal

abbrev pub invariant-emit_steps-loop-step : goal.invariant-emit_steps-loop-step
invariant-emit_steps-loop-step g l =
    let at = site (g.A.Answers.meanings l.answers) l.slots in
    behind l.out (steps_piece at (drop l.step-index l.steps)) ≡ behind l.fn.out (steps_piece at l.steps)

abbrev pub invariant-emit_branches-loop-branch : goal.invariant-emit_branches-loop-branch
invariant-emit_branches-loop-branch g l =
    let at = site (g.A.Answers.meanings l.answers) l.slots in
    behind l.out (branches_piece l.end (branches_parts at (drop l.branch-index l.branches))) ≡ behind l.fn.out (branches_piece l.end (branches_parts at l.branches))
