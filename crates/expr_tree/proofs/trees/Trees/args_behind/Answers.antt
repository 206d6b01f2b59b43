use Rattle.std.proofs.Common.{sym, ◌∙◌}
use Rattle.expr_check.specs.Messages.{orders}
use Rattle.expr_tree.proofs.TreeLemmas.{args_turn}
use Rattle.expr_tree.proofs.trees.Trees.args_behind.Goals as goal

pub loop-tree-preserved : goal.loop-tree-preserved
loop-tree-preserved g c =
    sym (args_turn orders (g.A.Answers.meanings c.args.self.now.answers.now) c.args.self.now.scope.now _ _ _ _ _ _ _ _ c.loop-tree-test.true c.loop-tree-item.is c.in_ok-given.ensures c.in_ok-givens.ensures) ∙ c.loop-tree.invariant
