use Rattle.std.proofs.Common.{rules, ◌≡◌, [], map, Some, sym, ap, ◌∙◌}
use Rattle.checks.specs.Logs.{made}
use Rattle.swift_ast.specs.declared.statements.Block.{out-Block}
use Rattle.swift_ast.specs.declared.statements.Stmt.{Stmt}
use Rattle.expr_check.specs.Messages.{orders}
use Rattle.expr_check.specs.Phrases.{expr_phrase}
use Rattle.expr_check.specs.Scopes.{entering}
use Rattle.body_check.specs.Blocks.{surroundings}
use Rattle.body_check.specs.Statements as spec
use Rattle.body_check.proofs.BlockLemmas.{left_alone}
use Rattle.body_check.proofs.Rows.{local_stmt, assign_stmt, return_stmt, if_stmt, while_stmt, call_stmt, row_turn, block_meant, clause_made, clauses_turn, while_made, if_made}
use Rattle.body_check.proofs.statements.+statements.Goals as goal

pub read_block-returns-clause-reads : goal.read_block-returns-clause-reads
read_block-returns-clause-reads g n c =
    let meanings = g.A.Answers.meanings c.args.answers.now in
    let rows : (Some (c.read_row.new.scope, c.in_ok-code.code), c.read_row.new.log) ≡ made orders meanings (spec.row_behind (Some []) (map spec.stmt_meant (out-Block c.args.block.now).stmts) (entering c.args.scope.now)) c.args.log.now = search rules in
    let inside : surroundings c.read_row.new.scope ≡ surroundings (entering c.args.scope.now) = search rules in
    block_meant meanings c.args.block.now c.args.scope.now c.read_row.new.scope c.leave.new.scope c.in_ok-code.code c.args.log.now c.read_row.new.log rows inside c.leave.ensures

pub read_block-returns-clause-stays : goal.read_block-returns-clause-stays
read_block-returns-clause-stays g n c =
    let inside : surroundings c.read_row.new.scope ≡ surroundings (entering c.args.scope.now) = search rules in
    left_alone c.args.scope.now c.read_row.new.scope c.leave.new.scope inside c.leave.ensures

pub read_while-returns-clause-reads : goal.read_while-returns-clause-reads
read_while-returns-clause-reads g n c =
    while_made (g.A.Answers.meanings c.args.answers.now) (expr_phrase c.args.value.now) (spec.block_statements c.args.block.now) c.args.scope.now c.read_block.new.scope c.in_ok-first.first c.in_ok-inside.inside c.in_ok-code.code
    c.args.log.now c.condition.new.log c.read_block.new.log c.in_ok-first.ensures c.in_ok-inside.ensures.reads c.in_ok-code.ensures

pub read_clause-returns-clause-reads : goal.read_clause-returns-clause-reads
read_clause-returns-clause-reads g n c =
    λ others. clause_made (g.A.Answers.meanings c.args.answers.now) (expr_phrase c.args.value.now) (spec.block_statements c.args.block.now) others c.args.scope.now c.read_block.new.scope c.args.branches c.in_ok-branches.branches c.one_branch-one.result c.in_ok-first.first c.in_ok-inside.inside
    c.args.log.now c.condition.new.log c.read_block.new.log c.in_ok-first.ensures c.in_ok-inside.ensures.reads c.one_branch-one.ensures c.in_ok-branches.ensures

pub read_row-loop-stmt-preserved : goal.read_row-loop-stmt-preserved
read_row-loop-stmt-preserved g n c = (
  sym (row_turn (g.A.Answers.meanings c.args.answers.now) _ _ _ _ _ _ _ _ _ _ c.loop-stmt-test.true c.stmt-item.is c.in_ok-more.ensures.reads c.in_ok-code.ensures) ∙ c.loop-stmt.invariant.0,
  c.in_ok-more.ensures.stays ∙ c.loop-stmt.invariant.1,
)

pub read_else_ifs-loop-tree-preserved : goal.read_else_ifs-loop-tree-preserved
read_else_ifs-loop-tree-preserved g n c = (
  sym (clauses_turn (g.A.Answers.meanings c.args.answers.now) _ _ _ _ _ _ _ _ _ c.loop-tree-test.true c.tree-item.is c.in_ok-branches.ensures.reads) ∙ c.loop-tree.invariant.0,
  c.in_ok-branches.ensures.stays ∙ c.loop-tree.invariant.1,
)

pub read_if-returns-clause-reads : goal.read_if-returns-clause-reads
read_if-returns-clause-reads g n c =
    if_made (g.A.Answers.meanings c.args.answers.now) c.args.tree.now c.as_slice.result.now c.args.scope.now c.read_clause.new.scope c.read_else_ifs.new.scope c.read_last.new.scope c.no_branches-before.result c.in_ok-first.first c.in_ok-branches.branches c.in_ok-last.last c.in_ok-code.code
    c.args.log.now c.read_clause.new.log c.read_else_ifs.new.log c.read_last.new.log c.no_branches-before.ensures c.as_slice.ensures c.in_ok-first.ensures.reads c.in_ok-branches.ensures.reads c.in_ok-last.ensures.reads c.in_ok-code.ensures

pub read_stmt-returns-in_ok-code-in-Local-clause-reads : goal.read_stmt-returns-in_ok-code-in-Local-clause-reads
read_stmt-returns-in_ok-code-in-Local-clause-reads g n c =
    let meanings = g.A.Answers.meanings c.args.answers.now in
    local_stmt meanings _ _ _ _ _ c.is_var-mutable.result c.args.scope.now c.read_local.new.scope c.in_ok-code-in-Local.code c.args.log.now c.read_local.new.log c.is_var-mutable.ensures c.in_ok-code-in-Local.ensures.reads
    ∙ ap (λ (x : Stmt). made orders meanings ((spec.stmt_meant x).read c.args.scope.now) c.args.log.now) (sym c.in-Local.is)

pub read_stmt-returns-in_ok-code-in-Assign-clause-reads : goal.read_stmt-returns-in_ok-code-in-Assign-clause-reads
read_stmt-returns-in_ok-code-in-Assign-clause-reads g n c =
    let meanings = g.A.Answers.meanings c.args.answers.now in
    assign_stmt meanings _ _ _ c.args.scope.now c.in_ok-code-in-Assign.code c.args.log.now c.assign.new.log c.in_ok-code-in-Assign.ensures
    ∙ ap (λ (x : Stmt). made orders meanings ((spec.stmt_meant x).read c.args.scope.now) c.args.log.now) (sym c.in-Assign.is)

pub read_stmt-returns-in_ok-code-in-Return-clause-reads : goal.read_stmt-returns-in_ok-code-in-Return-clause-reads
read_stmt-returns-in_ok-code-in-Return-clause-reads g n c =
    let meanings = g.A.Answers.meanings c.args.answers.now in
    return_stmt meanings _ _ c.args.scope.now c.in_ok-code-in-Return.code c.args.log.now c.returned.new.log c.in_ok-code-in-Return.ensures
    ∙ ap (λ (x : Stmt). made orders meanings ((spec.stmt_meant x).read c.args.scope.now) c.args.log.now) (sym c.in-Return.is)

pub read_stmt-returns-in_ok-code-in-If-clause-reads : goal.read_stmt-returns-in_ok-code-in-If-clause-reads
read_stmt-returns-in_ok-code-in-If-clause-reads g n c =
    let meanings = g.A.Answers.meanings c.args.answers.now in
    if_stmt meanings _ c.args.scope.now c.read_if.new.scope c.in_ok-code-in-If.code c.args.log.now c.read_if.new.log c.in_ok-code-in-If.ensures.reads
    ∙ ap (λ (x : Stmt). made orders meanings ((spec.stmt_meant x).read c.args.scope.now) c.args.log.now) (sym c.in-If.is)

pub read_stmt-returns-in_ok-code-in-While-clause-reads : goal.read_stmt-returns-in_ok-code-in-While-clause-reads
read_stmt-returns-in_ok-code-in-While-clause-reads g n c =
    let meanings = g.A.Answers.meanings c.args.answers.now in
    while_stmt meanings _ _ _ c.args.scope.now c.read_while.new.scope c.in_ok-code-in-While.code c.args.log.now c.read_while.new.log c.in_ok-code-in-While.ensures.reads
    ∙ ap (λ (x : Stmt). made orders meanings ((spec.stmt_meant x).read c.args.scope.now) c.args.log.now) (sym c.in-While.is)

pub read_stmt-returns-in_ok-code-in-Call-clause-reads : goal.read_stmt-returns-in_ok-code-in-Call-clause-reads
read_stmt-returns-in_ok-code-in-Call-clause-reads g n c =
    let meanings = g.A.Answers.meanings c.args.answers.now in
    call_stmt meanings _ c.args.scope.now c.in_ok-code-in-Call.code c.args.log.now c.called.new.log c.in_ok-code-in-Call.ensures
    ∙ ap (λ (x : Stmt). made orders meanings ((spec.stmt_meant x).read c.args.scope.now) c.args.log.now) (sym c.in-Call.is)
