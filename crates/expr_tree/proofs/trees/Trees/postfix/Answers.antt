use Rattle.expr_check.specs.Messages.{orders}
use Rattle.expr_tree.proofs.TreeLemmas.{postfix_made}
use Rattle.expr_tree.proofs.trees.Trees.postfix.Goals as goal

pub returns : goal.returns
returns g c = postfix_made orders (g.A.Answers.meanings c.args.self.now.answers.now) c.args.self.now.scope.now c.args.tree.now _ _ _ _ _ _ _ c.as_slice.ensures c.atom_token-first.ensures c.in_ok-front.ensures c.in_ok-value.ensures
