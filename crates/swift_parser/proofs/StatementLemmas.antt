-- What statements are that are read from the same beginning, and the forms between them.
use Rattle.std.proofs.Common.{◌≡◌, ◌<◌, ◌-◌, arith, get_or, true, false, List, [], ◌∷◌, ◌++◌, length, refl, sym, ◌∙◌, ap, subst}
use Rattle.std.proofs.lemmas.Bool.{and_parts, true≢false}
use Rattle.grammar.specs.Forms.{nothing, begins_by}
use Rattle.grammar.specs.Faults.{Stops, Parsed, FailsAt}
use Rattle.grammar.proofs.Basics.{stops_nothing, not_begins, refused_from, taken_not_refused, taken_shorter, begins_left}
use Rattle.grammar.proofs.Lines.{LinesTaken, lines_none, lines_begun, lines_pushed, lines_done, lines_first, lines_later}
use Rattle.grammar.proofs.Shown.{shown_refused, shown_refused_back, shown_took, shown_out}
use Rattle.swift_ast.specs.declared.terminals.Terminal.TheVariants as T
use Rattle.swift_ast.specs.declared.expressions.Expr.{Expr}
use Rattle.swift_ast.specs.declared.expressions.Postfix.{Postfix}
use Rattle.swift_ast.specs.declared.expressions.PostfixPart.{PostfixPart}
use Rattle.swift_ast.specs.declared.declarations.Global.{Global}
use Rattle.swift_ast.specs.declared.statements.BindingSpecifier.{BindingSpecifier}
use Rattle.swift_ast.specs.declared.statements.Target.{Target}
use Rattle.swift_ast.specs.declared.statements.Stmt.{Stmt}
use Rattle.swift_ast.specs.declared.statements.Stmt.TheVariants as stmt
use Rattle.swift_ast.specs.Leaves.{Leaf}
use Rattle.swift_ast.specs.Tests.{on, is, is_specifier, begins_stmt, begins_next_stmt}
use Rattle.swift_ast.specs.Expressions.{word, expr_form, postfix_form}
use Rattle.swift_ast.specs.Statements.{specifier_form, is_args, ends_by, binding_rule, target_form, stmt_form}
use Rattle.swift_ast.specs.Declarations.{global_form}
use Rattle.swift_ast.proofs.TestFacts.{begins_apart}
use Rattle.swift_ast.proofs.StatementShows.{BindingParts, stmts_form, is_target}
use Rattle.swift_ast.proofs.StatementLaws.{specifier_begun, stmt_begun, stmt_lines}
use Rattle.swift_ast.proofs.StatementExits as exits
use Rattle.swift_ast.proofs.DeclarationShows.{global_shows, global_out, global_made}
use Rattle.swift_ast.proofs.AssignLemmas.{TellsAssign, TargetStands, target_stands, stands_not_refused, stands_before, no_assign_behind}
use Rattle.token_cursor.specs.Reading.{continues_to_assign, begins_assign}

-- ---- bindings

pub global_refused : {old new : List Leaf} → FailsAt binding_rule old new → FailsAt global_form old new
global_refused {old} {new} r = shown_refused global_shows r

pub global_taken : {p : BindingParts} {old new : List Leaf} → Parsed binding_rule p (binding_rule.continues p) old new → Parsed global_form (global_made p) (global_form.continues (global_made p)) old new
global_taken {p} {old} {new} t = shown_took {y = p} global_shows t

specifier_begins : (s : BindingSpecifier) (old : List Leaf) → specifier_form.is_well_formed s ≡ true → begins_by (on is_specifier) (specifier_form.tokens s ++ old) ≡ true
specifier_begins s old m = begins_left (on is_specifier) (specifier_form.tokens s) old (specifier_begun s m)

pub local_refused : (s : BindingSpecifier) (old : List Leaf) {new : List Leaf} → specifier_form.is_well_formed s ≡ true → FailsAt global_form (specifier_form.tokens s ++ old) new → FailsAt stmt_form (specifier_form.tokens s ++ old) new
local_refused s old {new} m r = exits.local_refused (specifier_begins s old m) (shown_refused_back global_shows r)

pub local_taken : (x : Global) {old new : List Leaf} → Parsed global_form x (global_form.continues x) old new → Parsed stmt_form (stmt.Local x.specifier x.name x.annotation x.assign x.value) (stmt_form.continues (stmt.Local x.specifier x.name x.annotation x.assign x.value)) old new
local_taken x {old} {new} t = exits.local_taken {p = global_out x} (shown_out global_shows t)

-- ---- assignments

pub tells_assign : TellsAssign continues_to_assign
tells_assign = record { none = refl; one = λ t. refl; more = λ t u ts. refl }

assign_named : (ts : List Leaf) → begins_assign ts ≡ true → begins_by (on (is T.Identifier)) ts ≡ true
assign_named [] h = h
assign_named (t ∷ ts) h = (and_parts (on (is T.Identifier) t) (continues_to_assign ts) h).0

assign_stands : (ts : List Leaf) → begins_assign ts ≡ true → TargetStands ts
assign_stands [] h = absurd (true≢false (sym h))
assign_stands (t ∷ ts) h = let r = and_parts (on (is T.Identifier) t) (continues_to_assign ts) h in target_stands continues_to_assign tells_assign t ts r.0 r.1

pub assign_target : (old new : List Leaf) → begins_assign old ≡ true → FailsAt target_form old new → ⊥
assign_target old new h r = stands_not_refused old new (assign_stands old h) r

word_here : (t : Leaf) (rest : List Leaf) → on (is T.Assign) t ≡ true → Parsed (word T.Assign) t nothing (t ∷ rest) rest
word_here t rest m = record { spelled = refl; right = m; stops = stops_nothing rest }

pub assign_sign : (t : Target) (old mid new : List Leaf) → begins_assign old ≡ true → Parsed target_form t (target_form.continues t) old mid → FailsAt (word T.Assign) mid new → ⊥
assign_sign t old mid new h u r =
    let b = stands_before t old mid (assign_stands old h) u in
    taken_not_refused (word_here b.0 b.1 b.3) (refused_from (word T.Assign) mid (b.0 ∷ b.1) new r (sym b.2))

pub assign_refused : (t : Target) (a : Leaf) (old : List Leaf) {mid late new : List Leaf} → begins_assign old ≡ true → Parsed target_form t (target_form.continues t) old mid → Parsed (word T.Assign) a nothing mid late → FailsAt expr_form late new → FailsAt stmt_form old new
assign_refused t a old {mid} {late} {new} h u w r =
    let n = assign_named old h in
    exits.assign_no_value t a (begins_apart (is T.Identifier) is_specifier old refl n) (begins_apart (is T.Identifier) (is T.Return) old refl n) (begins_apart (is T.Identifier) (is T.If) old refl n) (begins_apart (is T.Identifier) (is T.While) old refl n)
    w.right (subst (λ ts. Parsed target_form t (target_form.continues t) old ts) w.spelled u) r

pub assign_taken : (t : Target) (a : Leaf) {x : Expr} {old mid late new : List Leaf} → Parsed target_form t (target_form.continues t) old mid → Parsed (word T.Assign) a nothing mid late → Parsed expr_form x (expr_form.continues x) late new → Parsed stmt_form (stmt.Assign t a x) (stmt_form.continues (stmt.Assign t a x)) old new
assign_taken t a {x} {old} {mid} {late} {new} u w z = exits.assign_done t a w.right (subst (λ ts. Parsed target_form t (target_form.continues t) old ts) w.spelled u) z

-- ---- calls

none_behind : (front : List Leaf) (t : Leaf) (rest : List Leaf) → [] ≡ front ++ (t ∷ rest) → ⊥
none_behind [] t rest e = cc
none_behind (x ∷ front) t rest e = cc

ends_at : (x : PostfixPart) (xs : List PostfixPart) (d : PostfixPart) → ends_by is_args (x ∷ xs) ≡ is_args (get_or (x ∷ xs) (length xs) d)
ends_at x [] d = refl
ends_at x (y ∷ ys) d = ends_at y ys d

none_short : 0 < 0 → ⊥
none_short h = omega (arith, h)

-- the last part tells whether the parts end by a call
pub ends_last : (p : PostfixPart) (xs : List PostfixPart) → 0 < length xs → p ≡ get_or xs (length xs - 1) p → ends_by is_args xs ≡ is_args p
ends_last p [] h e = absurd (none_short h)
ends_last p (x ∷ xs) h e =
    let back : length (x ∷ xs) - 1 ≡ length xs = omega arith in
    ends_at x xs p ∙ sym (ap (λ z. is_args z) (e ∙ ap (λ n. get_or (x ∷ xs) n p) back))

-- where no assignment stands, a target has no `=` behind it
pub no_assign : (p : Postfix) (old new : List Leaf) → begins_assign old ≡ false → Parsed postfix_form p (postfix_form.continues p) old new → is_target p ≡ true → Stops (on (is T.Assign)) new
no_assign p [] [] h u m = tt
no_assign p [] (a ∷ new) h u m = absurd (none_behind (postfix_form.tokens p) a new u.spelled)
no_assign p (t ∷ ts) new h u m = no_assign_behind continues_to_assign tells_assign p t ts new u h m

-- ---- the statements of a block

-- the statements so far, of which there is one
abbrev pub StmtsSo : List Stmt → List Leaf → List Leaf → Type 0
StmtsSo all old new = LinesTaken (on begins_stmt) (on begins_next_stmt) stmt_form all old new

pub stmts_none : (old : List Leaf) → begins_by (on begins_stmt) old ≡ false → Parsed stmts_form [] (stmts_form.continues []) old old
stmts_none old h = lines_none (on begins_stmt) (on begins_next_stmt) stmt_form old (not_begins (on begins_stmt) old h)

pub stmts_begun : {x : Stmt} {old new : List Leaf} → Parsed stmt_form x (stmt_form.continues x) old new → StmtsSo (x ∷ []) old new
stmts_begun {x} {old} {new} t = lines_begun (on begins_stmt) (on begins_next_stmt) stmt_form t

pub stmts_pushed : {all : List Stmt} {x : Stmt} {old mid new : List Leaf} → StmtsSo all old mid → begins_by (on begins_next_stmt) mid ≡ true → Parsed stmt_form x (stmt_form.continues x) mid new → StmtsSo (all ++ (x ∷ [])) old new
stmts_pushed {all} {x} {old} {mid} {new} s h t = lines_pushed stmt_lines s h t

pub stmts_done : {all : List Stmt} {old new : List Leaf} → StmtsSo all old new → begins_by (on begins_next_stmt) new ≡ false → Parsed stmts_form all (stmts_form.continues all) old new
stmts_done {all} {old} {new} s h = lines_done s (not_begins (on begins_next_stmt) new h)

pub stmts_first : {old new : List Leaf} → begins_by (on begins_stmt) old ≡ true → FailsAt stmt_form old new → FailsAt stmts_form old new
stmts_first {old} {new} h r = lines_first stmt_lines h r

pub stmts_later : {all : List Stmt} {old mid new : List Leaf} → StmtsSo all old mid → begins_by (on begins_next_stmt) mid ≡ true → FailsAt stmt_form mid new → FailsAt stmts_form old new
stmts_later {all} {old} {mid} {new} s h r = lines_later stmt_lines s h r

pub stmt_shorter : {x : Stmt} {old new : List Leaf} → Parsed stmt_form x (stmt_form.continues x) old new → length new < length old
stmt_shorter {x} {old} {new} t = taken_shorter (on begins_stmt) stmt_begun t
