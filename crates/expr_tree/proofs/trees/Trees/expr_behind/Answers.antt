use Rattle.std.proofs.Common.{refl, sym, ◌∙◌}
use Rattle.expr_check.specs.Messages.{orders}
use Rattle.expr_tree.proofs.TreeLemmas.{or_turn}
use Rattle.expr_tree.proofs.trees.Trees.expr_behind.Goals as goal

pub loop-operator-preserved : goal.loop-operator-preserved
loop-operator-preserved g c =
    sym (or_turn orders (g.A.Answers.meanings c.args.self.now.answers.now) c.args.self.now.scope.now _ _ _ _ _ _ _ _ _ _ c.loop-operator-test.true c.loop-operator-item.is c.in_ok-right.ensures refl c.in_ok-left.ensures) ∙ c.loop-operator.invariant
