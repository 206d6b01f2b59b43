-- Statements in a row, tree by tree.
use Rattle.std.proofs.Common.{◌≡◌, ℕ, ◌+◌, ◌<◌, ◌≤◌, Bool, false, List, [], ◌∷◌, ◌++◌, map, length, drop, get_or, Option, Some, None, refl, sym, ap, ◌∙◌}
use Rattle.std.proofs.lemmas.List.{drop_all}
use Rattle.std.specs.Option.{option_map}
use Rattle.dep_key.specs.declared.key.Key.{Key}
use Rattle.type_rules.specs.declared.meaning.Meaning.{Meaning}
use Rattle.swift_ast.specs.Leaves.{Leaf}
use Rattle.swift_ast.specs.declared.expressions.Expr.{Expr}
use Rattle.swift_ast.specs.declared.statements.BindingSpecifier.{BindingSpecifier}
use Rattle.swift_ast.specs.declared.statements.TypeName.{TypeName}
use Rattle.swift_ast.specs.declared.statements.Target.{Target}
use Rattle.swift_ast.specs.declared.statements.Call.{Call}
use Rattle.swift_ast.specs.declared.statements.Block.{Block, out-Block, fold_out-Block}
use Rattle.swift_ast.specs.declared.statements.Stmt.{Stmt, Stmt-F, fold-Stmt, fold-roll-Stmt}
use Rattle.swift_ast.specs.declared.statements.Stmt.TheVariants as v
use Rattle.swift_ast.specs.declared.statements.If.{If, map-If, out-If, fold_out-If}
use Rattle.swift_ast.specs.declared.statements.ElseIf.{ElseIf, out-ElseIf, fold_out-ElseIf}
use Rattle.typed_code.specs.declared.step.Step.{Step}
use Rattle.typed_code.specs.declared.step.Step.TheVariants as step
use Rattle.typed_code.specs.declared.step.Branch.{Branch}
use Rattle.checks.specs.Checks.{sure, ◌>>=◌}
use Rattle.checks.specs.Logs.{Logged, made}
use Rattle.expr_check.specs.declared.line.Line.{Line}
use Rattle.expr_check.specs.declared.scope.Scope.{Scope}
use Rattle.expr_check.specs.Messages.{orders}
use Rattle.expr_check.specs.Scopes.{entering}
use Rattle.expr_check.specs.Types.{CheckOf}
use Rattle.expr_check.specs.Phrases.{Phrase, expr_phrase, postfix_phrase}
use Rattle.body_check.specs.Blocks.{without_innermost, surroundings}
use Rattle.body_check.specs.Statements.{Read, Statement, of_both, row_behind, in_block, plain, is_var, local_read, assign_check, return_check, condition, while_read, Clause, clause, branch, clauses_behind, if_read, call_check, goes_on, one_stmt, one_block, one_else_if, one_if, block_statements, stmt_meant, else_if_meant, if_meant, last_statements}
use Rattle.body_check.proofs.BlockLemmas.{block_read}
use Rattle.body_check.proofs.Making.{one_more, tried_then, found_then}

-- ---- rows and blocks

abbrev behind_stmt : Option (List Step) → List Statement → Scope × Option (List Step) → Read
behind_stmt code xs r = row_behind (of_both (λ a b. a ++ b) code r.1) xs r.0

pub row_turn : (m : Key → Meaning) (stmts : List Stmt) (i : ℕ) (x : Stmt) (s t : Scope) (code more all : Option (List Step)) (log new : Logged Key Line) → i < length stmts → x ≡ get_or stmts i x →
    (Some (t, more), new) ≡ made orders m ((stmt_meant x).read s) log → all ≡ of_both (λ a b. a ++ b) code more →
    made orders m (row_behind code (map stmt_meant (drop i stmts)) s) log ≡ made orders m (row_behind all (map stmt_meant (drop (i + 1) stmts)) t) new
row_turn m stmts i x s t code more all log new lt is h e =
    ap (λ l. made orders m (row_behind code (map stmt_meant l) s) log) (one_more stmts i x lt is)
    ∙ found_then m ((stmt_meant x).read s) (behind_stmt code (map stmt_meant (drop (i + 1) stmts))) (t, more) log new h
    ∙ ap (λ c. made orders m (row_behind c (map stmt_meant (drop (i + 1) stmts)) t) new) (sym e)

pub row_end : (m : Key → Meaning) (stmts : List Stmt) (i : ℕ) (s : Scope) (code : Option (List Step)) (log : Logged Key Line) → length stmts ≤ i →
    made orders m (row_behind code (map stmt_meant (drop i stmts)) s) log ≡ (Some (s, code), log)
row_end m stmts i s code log le = ap (λ l. made orders m (row_behind code (map stmt_meant l) s) log) (drop_all i stmts le)

pub block_is : (b : Block) → block_statements b ≡ map stmt_meant (out-Block b).stmts
unfolding block_statements stmt_meant
block_is b = fold_out-Block Statement (List Statement) Clause Statement one_stmt one_block one_else_if one_if b

pub block_meant : (m : Key → Meaning) (b : Block) (s t u : Scope) (code : Option (List Step)) (log new : Logged Key Line) → (Some (t, code), new) ≡ made orders m (row_behind (Some []) (map stmt_meant (out-Block b).stmts) (entering s)) log →
    surroundings t ≡ surroundings (entering s) → u ≡ without_innermost t → (Some (u, code), new) ≡ made orders m (in_block (block_statements b) s) log
block_meant m b s t u code log new r h e =
    block_read m (map stmt_meant (out-Block b).stmts) s t u code log new r h e ∙ ap (λ xs. made orders m (in_block xs s) log) (sym (block_is b))

-- ---- while and if

abbrev while_end : Option (List Step) → Scope × Option (List Step) → Read
while_end first inside = sure (inside.0, of_both (λ c b. step.While c b ∷ []) first inside.1)

abbrev while_behind : List Statement → Scope → Option (List Step) → Read
while_behind block s first = in_block block s >>= while_end first

pub while_made : (m : Key → Meaning) (value : Phrase) (block : List Statement) (s t : Scope) (first inside code : Option (List Step)) (log mid new : Logged Key Line) → (first, mid) ≡ made orders m (condition value s) log →
    (Some (t, inside), new) ≡ made orders m (in_block block s) mid → code ≡ of_both (λ c b. step.While c b ∷ []) first inside → (Some (t, code), new) ≡ made orders m (while_read value block s) log
while_made m value block s t first inside code log mid new h g e =
    ap (λ c. (Some (t, c), new)) e
    ∙ sym (tried_then m (condition value s) (while_behind block s) first log mid h ∙ found_then m (in_block block s) (while_end first) (t, inside) mid new g)

abbrev clause_end : Option (List Branch) → List Clause → Option (List Step) → Scope × Option (List Step) → CheckOf (Scope × Option (List Branch))
clause_end branches others first inside = clauses_behind (of_both (λ bs b. bs ++ b ∷ []) branches (of_both branch first inside.1)) others inside.0

abbrev clause_behind : Option (List Branch) → List Clause → List Statement → Scope → Option (List Step) → CheckOf (Scope × Option (List Branch))
clause_behind branches others block s first = in_block block s >>= clause_end branches others first

pub clause_made : (m : Key → Meaning) (value : Phrase) (block : List Statement) (others : List Clause) (s t : Scope) (branches all : Option (List Branch)) (one : Option Branch) (first inside : Option (List Step)) (log mid new : Logged Key Line) →
    (first, mid) ≡ made orders m (condition value s) log → (Some (t, inside), new) ≡ made orders m (in_block block s) mid → one ≡ of_both branch first inside → all ≡ of_both (λ bs b. bs ++ b ∷ []) branches one →
    made orders m (clauses_behind branches (clause value block ∷ others) s) log ≡ made orders m (clauses_behind all others t) new
clause_made m value block others s t branches all one first inside log mid new h g e k =
    tried_then m (condition value s) (clause_behind branches others block s) first log mid h
    ∙ found_then m (in_block block s) (clause_end branches others first) (t, inside) mid new g
    ∙ ap (λ bs. made orders m (clauses_behind bs others t) new) (sym (k ∙ ap (λ o. of_both (λ bs b. bs ++ b ∷ []) branches o) e))

pub else_if_is : (x : ElseIf) → else_if_meant x ≡ clause (expr_phrase (out-ElseIf x).condition) (block_statements (out-ElseIf x).block)
unfolding block_statements else_if_meant
else_if_is x = fold_out-ElseIf Statement (List Statement) Clause Statement one_stmt one_block one_else_if one_if x

pub clauses_turn : (m : Key → Meaning) (trees : List ElseIf) (i : ℕ) (x : ElseIf) (s t : Scope) (branches all : Option (List Branch)) (log new : Logged Key Line) → i < length trees → x ≡ get_or trees i x →
    ((others : List Clause) → made orders m (clauses_behind branches (clause (expr_phrase (out-ElseIf x).condition) (block_statements (out-ElseIf x).block) ∷ others) s) log ≡ made orders m (clauses_behind all others t) new) →
    made orders m (clauses_behind branches (map else_if_meant (drop i trees)) s) log ≡ made orders m (clauses_behind all (map else_if_meant (drop (i + 1) trees)) t) new
clauses_turn m trees i x s t branches all log new lt is h =
    ap (λ l. made orders m (clauses_behind branches (map else_if_meant l) s) log) (one_more trees i x lt is)
    ∙ ap (λ c. made orders m (clauses_behind branches (c ∷ map else_if_meant (drop (i + 1) trees)) s) log) (else_if_is x)
    ∙ h (map else_if_meant (drop (i + 1) trees))

pub clauses_end : (m : Key → Meaning) (trees : List ElseIf) (i : ℕ) (s : Scope) (branches : Option (List Branch)) (log : Logged Key Line) → length trees ≤ i →
    made orders m (clauses_behind branches (map else_if_meant (drop i trees)) s) log ≡ (Some (s, branches), log)
clauses_end m trees i s branches log le = ap (λ l. made orders m (clauses_behind branches (map else_if_meant l) s) log) (drop_all i trees le)

abbrev if_end : Option (List Branch) → Scope × Option (List Step) → Read
if_end branches inside = sure (inside.0, of_both (λ branches code. step.If branches code ∷ []) branches inside.1)

abbrev if_behind : List Statement → Scope × Option (List Branch) → Read
if_behind last front = in_block last front.0 >>= if_end front.1

-- an `if` with another last block
abbrev pub ending_in : If → Option (Leaf × Block) → Statement
ending_in x o = one_if (map-If Stmt Block ElseIf If Statement (List Statement) Clause Statement stmt_meant block_statements else_if_meant if_meant (record { keyword = (out-If x).keyword; condition = (out-If x).condition; block = (out-If x).block; else_ifs = (out-If x).else_ifs; last = o }))

pub ends_as : (x : If) → if_meant x ≡ ending_in x (out-If x).last
unfolding stmt_meant block_statements else_if_meant if_meant
ends_as x = fold_out-If Statement (List Statement) Clause Statement one_stmt one_block one_else_if one_if x

ending_read : (x : If) (s : Scope) (o : Option (Leaf × Block)) → (ending_in x o).read s ≡ if_read (clause (expr_phrase (out-If x).condition) (block_statements (out-If x).block) ∷ map else_if_meant (out-If x).else_ifs) (last_statements o) s
ending_read x s None = refl
ending_read x s (Some p) = refl

if_is : (x : If) (s : Scope) → (if_meant x).read s ≡ if_read (clause (expr_phrase (out-If x).condition) (block_statements (out-If x).block) ∷ map else_if_meant (out-If x).else_ifs) (last_statements (out-If x).last) s
if_is x s = ap (λ (r : Statement). r.read s) (ends_as x) ∙ ending_read x s (out-If x).last

pub if_made : (m : Key → Meaning) (x : If) (trees : List ElseIf) (s a b t : Scope) (before first branches : Option (List Branch)) (last code : Option (List Step)) (log one two new : Logged Key Line) → before ≡ Some [] → trees ≡ (out-If x).else_ifs →
    ((others : List Clause) → made orders m (clauses_behind before (clause (expr_phrase (out-If x).condition) (block_statements (out-If x).block) ∷ others) s) log ≡ made orders m (clauses_behind first others a) one) →
    (Some (b, branches), two) ≡ made orders m (clauses_behind first (map else_if_meant trees) a) one → (Some (t, last), new) ≡ made orders m (in_block (last_statements (out-If x).last) b) two →
    code ≡ of_both (λ bs l. step.If bs l ∷ []) branches last → (Some (t, code), new) ≡ made orders m ((if_meant x).read s) log
if_made m x trees s a b t before first branches last code log one two new z l h g k e =
    let clauses : List Clause = clause (expr_phrase (out-If x).condition) (block_statements (out-If x).block) ∷ map else_if_meant (out-If x).else_ifs in
    let read : made orders m (clauses_behind (Some []) clauses s) log ≡ (Some (b, branches), two) =
    ap (λ n. made orders m (clauses_behind n clauses s) log) (sym z) ∙ h (map else_if_meant (out-If x).else_ifs)
    ∙ ap (λ ts. made orders m (clauses_behind first (map else_if_meant ts) a) one) (sym l) ∙ sym g in
    ap (λ c. (Some (t, c), new)) e
    ∙ sym (ap (λ r. made orders m r log) (if_is x s)
    ∙ found_then m (clauses_behind (Some []) clauses s) (if_behind (last_statements (out-If x).last)) (b, branches) log two (sym read)
    ∙ found_then m (in_block (last_statements (out-If x).last) b) (if_end branches) (t, last) two new k)

-- ---- each statement

abbrev meant : Stmt → Statement
meant = fold-Stmt Statement (List Statement) Clause Statement one_stmt one_block one_else_if one_if

abbrev plain_end : Scope → Option (List Step) → Read
plain_end s code = sure (s, code)

plain_made : (m : Key → Meaning) (check : Scope → CheckOf (List Step)) (s : Scope) (code : Option (List Step)) (log new : Logged Key Line) → (code, new) ≡ made orders m (check s) log → (Some (s, code), new) ≡ made orders m (plain check s) log
plain_made m check s code log new h = sym (tried_then m (check s) (plain_end s) code log new h)

pub local_is : (specifier : BindingSpecifier) (name : Leaf) (annotation : Option (Leaf × TypeName)) (assign : Leaf) (value : Expr) → stmt_meant (v.Local specifier name annotation assign value) ≡ goes_on (local_read (is_var specifier) name annotation (expr_phrase value))
unfolding stmt_meant
local_is specifier name annotation assign value = ap meant (sym (v.rolls-Local specifier name annotation assign value)) ∙ fold-roll-Stmt Statement (List Statement) Clause Statement one_stmt one_block one_else_if one_if (Stmt-F.Local specifier name annotation assign value)

pub local_stmt : (m : Key → Meaning) (specifier : BindingSpecifier) (name : Leaf) (annotation : Option (Leaf × TypeName)) (assign : Leaf) (value : Expr) (mutable : Bool) (s t : Scope) (code : Option (List Step)) (log new : Logged Key Line) → mutable ≡ is_var specifier →
    (Some (t, code), new) ≡ made orders m (local_read mutable name annotation (expr_phrase value) s) log → (Some (t, code), new) ≡ made orders m ((stmt_meant (v.Local specifier name annotation assign value)).read s) log
local_stmt m specifier name annotation assign value mutable s t code log new e h =
    h ∙ ap (λ b. made orders m (local_read b name annotation (expr_phrase value) s) log) e ∙ ap (λ (r : Statement). made orders m (r.read s) log) (sym (local_is specifier name annotation assign value))

pub assign_is : (target : Target) (assign : Leaf) (value : Expr) → stmt_meant (v.Assign target assign value) ≡ goes_on (plain (assign_check target (expr_phrase value)))
unfolding stmt_meant
assign_is target assign value = ap meant (sym (v.rolls-Assign target assign value)) ∙ fold-roll-Stmt Statement (List Statement) Clause Statement one_stmt one_block one_else_if one_if (Stmt-F.Assign target assign value)

pub assign_stmt : (m : Key → Meaning) (target : Target) (assign : Leaf) (value : Expr) (s : Scope) (code : Option (List Step)) (log new : Logged Key Line) → (code, new) ≡ made orders m (assign_check target (expr_phrase value) s) log →
    (Some (s, code), new) ≡ made orders m ((stmt_meant (v.Assign target assign value)).read s) log
assign_stmt m target assign value s code log new h =
    plain_made m (assign_check target (expr_phrase value)) s code log new h ∙ ap (λ (r : Statement). made orders m (r.read s) log) (sym (assign_is target assign value))

pub return_is : (keyword : Leaf) (value : Option Expr) → stmt_meant (v.Return keyword value) ≡ record { falls_through = false; read = plain (return_check keyword (option_map expr_phrase value)) }
unfolding stmt_meant
return_is keyword value = ap meant (sym (v.rolls-Return keyword value)) ∙ fold-roll-Stmt Statement (List Statement) Clause Statement one_stmt one_block one_else_if one_if (Stmt-F.Return keyword value)

pub return_stmt : (m : Key → Meaning) (keyword : Leaf) (value : Option Expr) (s : Scope) (code : Option (List Step)) (log new : Logged Key Line) → (code, new) ≡ made orders m (return_check keyword (option_map expr_phrase value) s) log →
    (Some (s, code), new) ≡ made orders m ((stmt_meant (v.Return keyword value)).read s) log
return_stmt m keyword value s code log new h =
    plain_made m (return_check keyword (option_map expr_phrase value)) s code log new h ∙ ap (λ (r : Statement). made orders m (r.read s) log) (sym (return_is keyword value))

pub if_stmt_is : (x : If) → stmt_meant (v.If x) ≡ if_meant x
unfolding stmt_meant if_meant
if_stmt_is x = ap meant (sym (v.rolls-If x)) ∙ fold-roll-Stmt Statement (List Statement) Clause Statement one_stmt one_block one_else_if one_if (Stmt-F.If x)

pub if_stmt : (m : Key → Meaning) (x : If) (s t : Scope) (code : Option (List Step)) (log new : Logged Key Line) → (Some (t, code), new) ≡ made orders m ((if_meant x).read s) log → (Some (t, code), new) ≡ made orders m ((stmt_meant (v.If x)).read s) log
if_stmt m x s t code log new h = h ∙ ap (λ (r : Statement). made orders m (r.read s) log) (sym (if_stmt_is x))

pub while_is : (keyword : Leaf) (value : Expr) (block : Block) → stmt_meant (v.While keyword value block) ≡ goes_on (while_read (expr_phrase value) (block_statements block))
unfolding stmt_meant block_statements
while_is keyword value block = ap meant (sym (v.rolls-While keyword value block)) ∙ fold-roll-Stmt Statement (List Statement) Clause Statement one_stmt one_block one_else_if one_if (Stmt-F.While keyword value block)

pub while_stmt : (m : Key → Meaning) (keyword : Leaf) (value : Expr) (block : Block) (s t : Scope) (code : Option (List Step)) (log new : Logged Key Line) → (Some (t, code), new) ≡ made orders m (while_read (expr_phrase value) (block_statements block) s) log →
    (Some (t, code), new) ≡ made orders m ((stmt_meant (v.While keyword value block)).read s) log
while_stmt m keyword value block s t code log new h = h ∙ ap (λ (r : Statement). made orders m (r.read s) log) (sym (while_is keyword value block))

pub call_is : (call : Call) → stmt_meant (v.Call call) ≡ goes_on (plain (call_check (postfix_phrase call.postfix)))
unfolding stmt_meant
call_is call = ap meant (sym (v.rolls-Call call)) ∙ fold-roll-Stmt Statement (List Statement) Clause Statement one_stmt one_block one_else_if one_if (Stmt-F.Call call)

pub call_stmt : (m : Key → Meaning) (call : Call) (s : Scope) (code : Option (List Step)) (log new : Logged Key Line) → (code, new) ≡ made orders m (call_check (postfix_phrase call.postfix) s) log →
    (Some (s, code), new) ≡ made orders m ((stmt_meant (v.Call call)).read s) log
call_stmt m call s code log new h = plain_made m (call_check (postfix_phrase call.postfix)) s code log new h ∙ ap (λ (r : Statement). made orders m (r.read s) log) (sym (call_is call))
