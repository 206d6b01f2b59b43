use Rattle.std.proofs.Common.{◌≡◌, map, drop, Some, []}
use Rattle.checks.specs.Logs.{made}
use Rattle.expr_check.specs.Messages.{orders}
use Rattle.body_check.specs.Blocks.{surroundings}
use Rattle.body_check.specs.Statements.{row_behind, clauses_behind, stmt_meant, else_if_meant}
use Rattle.body_check.proofs.statements.+statements.Given as goal

abbrev pub invariant-read_row-loop-stmt : goal.invariant-read_row-loop-stmt
invariant-read_row-loop-stmt g l =
    let meanings = g.A.Answers.meanings l.answers in
    (made orders meanings (row_behind l.code (map stmt_meant (drop l.stmt-index l.stmts)) l.scope) l.log ≡ made orders meanings (row_behind (Some []) (map stmt_meant l.stmts) l.fn.scope) l.fn.log)
    × (surroundings l.scope ≡ surroundings l.fn.scope)

abbrev pub invariant-read_else_ifs-loop-tree : goal.invariant-read_else_ifs-loop-tree
invariant-read_else_ifs-loop-tree g l =
    let meanings = g.A.Answers.meanings l.answers in
    (made orders meanings (clauses_behind l.branches (map else_if_meant (drop l.tree-index l.else_ifs)) l.scope) l.log ≡ made orders meanings (clauses_behind l.fn.first (map else_if_meant l.else_ifs) l.fn.scope) l.fn.log)
    × (surroundings l.scope ≡ surroundings l.fn.scope)
