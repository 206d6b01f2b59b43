use Rattle.expr_check.specs.Messages.{orders}
use Rattle.expr_tree.proofs.ArgumentLemmas.{none_given, one_given}
use Rattle.expr_tree.proofs.trees.Trees.arg.Goals as goal

pub returns-in-None : goal.returns-in-None
returns-in-None g c = none_given orders (g.A.Answers.meanings c.args.self.now.answers.now) c.args.self.now.scope.now c.args.tree.now _ _ _ c.in-None.is c.in_ok-inner.ensures

pub returns-in_ok-label-in-Some : goal.returns-in_ok-label-in-Some
returns-in_ok-label-in-Some g c =
    one_given orders (g.A.Answers.meanings c.args.self.now.answers.now) c.args.self.now.scope.now c.args.tree.now _ _ _ _ _ _ c.in-Some.is c.in_ok-inner.ensures c.in_ok-label-in-Some.ensures c.first_place-first.ensures
