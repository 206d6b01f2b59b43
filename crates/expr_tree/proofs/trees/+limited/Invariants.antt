use Rattle.expr_tree.proofs.trees.+limited.Given as goal

abbrev pub decreases-limited : goal.decreases-limited
decreases-limited g l = l.limit
