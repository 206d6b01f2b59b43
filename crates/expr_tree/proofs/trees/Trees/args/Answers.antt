use Rattle.std.proofs.Common.{ap}
use Rattle.expr_check.specs.Messages.{orders}
use Rattle.expr_tree.specs.Callees.{givens_view}
use Rattle.expr_tree.proofs.TreeLemmas.{args_made}
use Rattle.expr_tree.proofs.trees.Trees.args.Goals as goal

pub returns-in_ok-givens-in-Some : goal.returns-in_ok-givens-in-Some
returns-in_ok-givens-in-Some g c =
    args_made orders (g.A.Answers.meanings c.args.self.now.answers.now) c.args.self.now.scope.now c.args.tree.now _ _ _ _ _ _ _ _ _ c.in-Some.is c.as_slice.ensures (ap givens_view c.new-in-Some.ensures.items) c.in_ok-given-in-Some.ensures c.in_ok-before-in-Some.ensures c.in_ok-givens-in-Some.ensures
