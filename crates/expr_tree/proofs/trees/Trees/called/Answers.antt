use Rattle.expr_check.specs.Messages.{orders}
use Rattle.expr_check.specs.Phrases.{args_meant}
use Rattle.expr_tree.specs.Fronts.{front_view}
use Rattle.expr_tree.proofs.Chains.{call_made}
use Rattle.expr_tree.proofs.trees.Trees.called.Goals as goal

pub returns : goal.returns
returns g c =
    call_made orders (g.A.Answers.meanings c.args.self.now.answers.now) c.args.self.now.scope.now c.args.first.now _ (front_view c.args.front) (args_meant c.args.tree.now) _ _ _ c.args.log.now _ _ _ c.callee_name-name.ensures c.in_ok-callee.ensures c.in_ok-givens.ensures c.in_ok-value.ensures
