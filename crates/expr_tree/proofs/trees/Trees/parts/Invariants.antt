use Rattle.std.proofs.Common.{◌≡◌, map, drop}
use Rattle.checks.specs.Logs.{made}
use Rattle.expr_check.specs.Messages.{orders}
use Rattle.expr_check.specs.Phrases.{extended, part_meant}
use Rattle.expr_tree.specs.Fronts.{front_view}
use Rattle.expr_tree.proofs.trees.Trees.parts.Given as goal

abbrev pub invariant-loop-tree : goal.invariant-loop-tree
invariant-loop-tree g l =
    let meanings = g.A.Answers.meanings l.self.answers.now in
    made orders meanings (extended l.self.scope.now l.first (front_view l.front) (map part_meant (drop l.tree-index l.parts))) l.log ≡ made orders meanings (extended l.self.scope.now l.first (front_view l.fn.front) (map part_meant l.parts)) l.fn.log
