use Rattle.std.proofs.Common.{sym, ◌∙◌}
use Rattle.expr_check.specs.Messages.{orders}
use Rattle.expr_tree.proofs.TreeLemmas.{product_turn}
use Rattle.expr_tree.proofs.trees.Trees.product_behind.Goals as goal

pub loop-operator-preserved : goal.loop-operator-preserved
loop-operator-preserved g c =
    sym (product_turn orders (g.A.Answers.meanings c.args.self.now.answers.now) c.args.self.now.scope.now _ _ _ _ _ _ _ _ _ _ c.loop-operator-test.true c.loop-operator-item.is c.in_ok-right.ensures c.product_operator_token.ensures c.in_ok-left.ensures) ∙ c.loop-operator.invariant
