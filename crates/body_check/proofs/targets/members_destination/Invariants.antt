use Rattle.std.proofs.Common.{◌≡◌, drop}
use Rattle.checks.specs.Logs.{made}
use Rattle.expr_check.specs.Messages.{orders}
use Rattle.body_check.specs.Targets.{destination_view, members_behind}
use Rattle.body_check.proofs.targets.members_destination.Given as goal

abbrev pub invariant-loop-member : goal.invariant-loop-member
invariant-loop-member g l =
    let meanings = g.A.Answers.meanings l.answers in
    made orders meanings (members_behind l.scope l.root (destination_view l.destination) (drop l.member-index l.members)) l.log
    ≡ made orders meanings (members_behind l.scope l.root (destination_view l.fn.first) l.members) l.fn.log
