use Rattle.std.proofs.Common.{rules, ◌≡◌}
use Rattle.checks.specs.Logs.{made}
use Rattle.expr_check.specs.Messages.{orders}
use Rattle.body_check.specs.Targets.{destination_view, members_behind}
use Rattle.body_check.proofs.TargetLemmas.{target_made}
use Rattle.body_check.proofs.targets.target_destination.Goals as goal

pub returns : goal.returns
returns g c =
    let meanings = g.A.Answers.meanings c.args.answers.now in
    let others : (destination_view c.in_ok-destination.destination, c.members_destination.new.log) ≡ made orders meanings (members_behind c.args.scope.now c.args.target.now.root (destination_view c.in_ok-first.first) c.args.target.now.members) c.root_destination.new.log = search rules in
    target_made meanings c.args.scope.now c.args.target.now (destination_view c.in_ok-first.first) (destination_view c.in_ok-destination.destination) c.args.log.now c.root_destination.new.log c.members_destination.new.log c.in_ok-first.ensures others
