use Rattle.expr_check.specs.Messages.{orders}
use Rattle.expr_tree.proofs.TreeLemmas.{sum_made}
use Rattle.expr_tree.proofs.trees.Trees.sum.Goals as goal

pub returns : goal.returns
returns g c = sum_made orders (g.A.Answers.meanings c.args.self.now.answers.now) c.args.self.now.scope.now c.args.tree.now _ _ _ _ _ _ c.as_slice.ensures c.in_ok-left.ensures c.in_ok-value.ensures
