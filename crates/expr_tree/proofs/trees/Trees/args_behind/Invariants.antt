use Rattle.std.proofs.Common.{◌≡◌, map, drop}
use Rattle.checks.specs.Checks.{all_behind}
use Rattle.checks.specs.Logs.{made}
use Rattle.expr_check.specs.Messages.{orders}
use Rattle.expr_check.specs.Phrases.{given}
use Rattle.expr_tree.specs.Callees.{arguments_view}
use Rattle.expr_tree.specs.Fronts.{arguments_behind}
use Rattle.expr_tree.proofs.trees.Trees.args_behind.Given as goal

abbrev pub invariant-loop-tree : goal.invariant-loop-tree
invariant-loop-tree g l =
    let meanings = g.A.Answers.meanings l.self.answers.now in
    made orders meanings (all_behind (arguments_view l.givens) (map (given l.self.scope.now) (arguments_behind (drop l.tree-index l.more)))) l.log ≡ made orders meanings (all_behind (arguments_view l.fn.before) (map (given l.self.scope.now) (arguments_behind l.more))) l.fn.log
