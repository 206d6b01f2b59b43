use Rattle.std.proofs.Common.{Some, sym, ap, ◌∙◌}
use Rattle.expr_check.specs.Messages.{orders}
use Rattle.expr_tree.proofs.TreeLemmas.{cmp_lone, cmp_made}
use Rattle.expr_tree.proofs.trees.Trees.cmp.Goals as goal

pub returns-in-None : goal.returns-in-None
returns-in-None g c = cmp_lone orders (g.A.Answers.meanings c.args.self.now.answers.now) c.args.self.now.scope.now c.args.tree.now _ _ _ c.in-None.is c.in_ok-left.ensures

pub returns-in_ok-value-in-Some : goal.returns-in_ok-value-in-Some
returns-in_ok-value-in-Some g c = cmp_made orders (g.A.Answers.meanings c.args.self.now.answers.now) c.args.self.now.scope.now c.args.tree.now _ _ _ _ _ _ _ _ _ (c.in-Some.is ∙ ap Some (sym c.get.ensures)) c.cmp_operator_token-t.ensures c.in_ok-left.ensures c.in_ok-right-in-Some.ensures c.in_ok-value-in-Some.ensures
