-- What stands behind a statement, tree by tree.
use Rattle.std.proofs.Common.{◌≡◌, ℕ, ◌+◌, ◌<◌, ◌≤◌, Bool, true, false, ◌&&◌, ◌||◌, List, map, length, drop, get_or, Option, Some, None, sym, ap, ◌∙◌}
use Rattle.std.proofs.lemmas.List.{drop_more, drop_all}
use Rattle.std.specs.List.{list_any}
use Rattle.swift_ast.specs.Leaves.{Leaf}
use Rattle.swift_ast.specs.declared.expressions.Expr.{Expr}
use Rattle.swift_ast.specs.declared.statements.BindingSpecifier.{BindingSpecifier}
use Rattle.swift_ast.specs.declared.statements.TypeName.{TypeName}
use Rattle.swift_ast.specs.declared.statements.Target.{Target}
use Rattle.swift_ast.specs.declared.statements.Call.{Call}
use Rattle.swift_ast.specs.declared.statements.Block.{Block, out-Block}
use Rattle.swift_ast.specs.declared.statements.Stmt.{Stmt}
use Rattle.swift_ast.specs.declared.statements.Stmt.TheVariants as v
use Rattle.swift_ast.specs.declared.statements.If.{If, out-If}
use Rattle.swift_ast.specs.declared.statements.ElseIf.{ElseIf, out-ElseIf}
use Rattle.body_check.specs.Statements.{Statement, Clause, falls_through, block_statements, stmt_meant, else_if_meant, if_meant}
use Rattle.body_check.proofs.Rows.{ending_in, ends_as, block_is, else_if_is, local_is, assign_is, return_is, if_stmt_is, while_is, call_is}

-- ---- statements in a row

pub block_through : (b : Block) → falls_through (block_statements b) ≡ falls_through (map stmt_meant (out-Block b).stmts)
block_through b = ap falls_through (block_is b)

first_through : (stmts : List Stmt) (i : ℕ) (d : Stmt) → i < length stmts →
    falls_through (map stmt_meant (drop i stmts)) ≡ ((stmt_meant (get_or stmts i d)).falls_through && falls_through (map stmt_meant (drop (i + 1) stmts)))
first_through stmts i d lt = ap (λ l. falls_through (map stmt_meant l)) (drop_more stmts i d lt)

pub on : (stmts : List Stmt) (i : ℕ) (d : Stmt) → i < length stmts → true ≡ (stmt_meant (get_or stmts i d)).falls_through → falls_through (map stmt_meant (drop i stmts)) ≡ falls_through (map stmt_meant (drop (i + 1) stmts))
on stmts i d lt h = first_through stmts i d lt ∙ ap (λ b. b && falls_through (map stmt_meant (drop (i + 1) stmts))) (sym h)

pub stopped : (stmts : List Stmt) (i : ℕ) (d : Stmt) → i < length stmts → false ≡ (stmt_meant (get_or stmts i d)).falls_through → falls_through (map stmt_meant (drop i stmts)) ≡ false
stopped stmts i d lt h = first_through stmts i d lt ∙ ap (λ b. b && falls_through (map stmt_meant (drop (i + 1) stmts))) (sym h)

pub through : (stmts : List Stmt) (i : ℕ) → length stmts ≤ i → falls_through (map stmt_meant (drop i stmts)) ≡ true
through stmts i le = ap (λ l. falls_through (map stmt_meant l)) (drop_all i stmts le)

-- ---- clauses

abbrev one_does_of : List ElseIf → Bool
one_does_of trees = list_any (λ (c : Clause). falls_through c.block) (map else_if_meant trees)

first_clause : (trees : List ElseIf) (i : ℕ) (d : ElseIf) → i < length trees →
    list_any (λ (c : Clause). falls_through c.block) (map else_if_meant (drop i trees)) ≡ (falls_through (block_statements (out-ElseIf (get_or trees i d)).block) || list_any (λ (c : Clause). falls_through c.block) (map else_if_meant (drop (i + 1) trees)))
first_clause trees i d lt =
    ap one_does_of (drop_more trees i d lt)
    ∙ ap (λ (c : Clause). falls_through c.block || one_does_of (drop (i + 1) trees)) (else_if_is (get_or trees i d))

pub none_yet : (trees : List ElseIf) (i : ℕ) (d : ElseIf) → i < length trees → false ≡ falls_through (block_statements (out-ElseIf (get_or trees i d)).block) →
    list_any (λ (c : Clause). falls_through c.block) (map else_if_meant (drop i trees)) ≡ list_any (λ (c : Clause). falls_through c.block) (map else_if_meant (drop (i + 1) trees))
none_yet trees i d lt h = first_clause trees i d lt ∙ ap (λ b. b || one_does_of (drop (i + 1) trees)) (sym h)

pub one_does : (trees : List ElseIf) (i : ℕ) (d : ElseIf) → i < length trees → true ≡ falls_through (block_statements (out-ElseIf (get_or trees i d)).block) →
    list_any (λ (c : Clause). falls_through c.block) (map else_if_meant (drop i trees)) ≡ true
one_does trees i d lt h = first_clause trees i d lt ∙ ap (λ b. b || one_does_of (drop (i + 1) trees)) (sym h)

pub none_does : (trees : List ElseIf) (i : ℕ) → length trees ≤ i → list_any (λ (c : Clause). falls_through c.block) (map else_if_meant (drop i trees)) ≡ false
none_does trees i le = ap one_does_of (drop_all i trees le)

pub if_without_last : (x : If) → (out-If x).last ≡ None → (if_meant x).falls_through ≡ true
if_without_last x h = ap (λ (r : Statement). r.falls_through) (ends_as x) ∙ ap (λ o. (ending_in x o).falls_through) h

pub if_with_last : (x : If) (t : Leaf) (b : Block) → (out-If x).last ≡ Some (t, b) →
    (if_meant x).falls_through ≡ ((falls_through (block_statements (out-If x).block) || list_any (λ (c : Clause). falls_through c.block) (map else_if_meant (out-If x).else_ifs)) || falls_through (block_statements b))
if_with_last x t b h = ap (λ (r : Statement). r.falls_through) (ends_as x) ∙ ap (λ o. (ending_in x o).falls_through) h

-- ---- each statement

pub local_through : (specifier : BindingSpecifier) (name : Leaf) (annotation : Option (Leaf × TypeName)) (assign : Leaf) (value : Expr) → (stmt_meant (v.Local specifier name annotation assign value)).falls_through ≡ true
local_through specifier name annotation assign value = ap (λ (r : Statement). r.falls_through) (local_is specifier name annotation assign value)

pub assign_through : (target : Target) (assign : Leaf) (value : Expr) → (stmt_meant (v.Assign target assign value)).falls_through ≡ true
assign_through target assign value = ap (λ (r : Statement). r.falls_through) (assign_is target assign value)

pub return_through : (keyword : Leaf) (value : Option Expr) → (stmt_meant (v.Return keyword value)).falls_through ≡ false
return_through keyword value = ap (λ (r : Statement). r.falls_through) (return_is keyword value)

pub if_stmt_through : (x : If) → (stmt_meant (v.If x)).falls_through ≡ (if_meant x).falls_through
if_stmt_through x = ap (λ (r : Statement). r.falls_through) (if_stmt_is x)

pub while_through : (keyword : Leaf) (value : Expr) (block : Block) → (stmt_meant (v.While keyword value block)).falls_through ≡ true
while_through keyword value block = ap (λ (r : Statement). r.falls_through) (while_is keyword value block)

pub call_through : (call : Call) → (stmt_meant (v.Call call)).falls_through ≡ true
call_through call = ap (λ (r : Statement). r.falls_through) (call_is call)
