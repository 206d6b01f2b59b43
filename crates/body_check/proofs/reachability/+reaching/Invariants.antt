use Rattle.std.proofs.Common.{◌≡◌, map, drop}
use Rattle.std.specs.List.{list_any}
use Rattle.body_check.specs.Statements.{Clause, falls_through, stmt_meant, else_if_meant}
use Rattle.body_check.proofs.reachability.+reaching.Given as goal

abbrev pub invariant-falls_through-loop-stmt : goal.invariant-falls_through-loop-stmt
invariant-falls_through-loop-stmt l = falls_through (map stmt_meant (drop l.stmt-index l.stmts)) ≡ falls_through (map stmt_meant l.stmts)

abbrev pub invariant-one_falls_through-loop-tree : goal.invariant-one_falls_through-loop-tree
invariant-one_falls_through-loop-tree l = list_any (λ (c : Clause). falls_through c.block) (map else_if_meant (drop l.tree-index l.else_ifs)) ≡ list_any (λ (c : Clause). falls_through c.block) (map else_if_meant l.else_ifs)
