use Rattle.std.proofs.Common.{Some, sym, ap, ◌∙◌}
use Rattle.expr_check.specs.Messages.{orders}
use Rattle.expr_tree.proofs.TreeLemmas.{prefix_lone, prefix_made}
use Rattle.expr_tree.proofs.trees.Trees.prefix.Goals as goal

pub returns-in-None : goal.returns-in-None
returns-in-None g c = prefix_lone orders (g.A.Answers.meanings c.args.self.now.answers.now) c.args.self.now.scope.now c.args.tree.now _ _ _ c.in-None.is c.in_ok-operand.ensures

pub returns-in_ok-value-in-Some : goal.returns-in_ok-value-in-Some
returns-in_ok-value-in-Some g c = prefix_made orders (g.A.Answers.meanings c.args.self.now.answers.now) c.args.self.now.scope.now c.args.tree.now _ _ _ _ _ _ (c.in-Some.is ∙ ap Some (sym c.get.ensures)) c.in_ok-operand.ensures c.in_ok-value-in-Some.ensures
