-- What each function of a parser of statements owes at its exits: a tree that is taken, or the first fault.
use Rattle.std.proofs.Common.{◌≡◌, Bool, true, false, List, [], ◌∷◌, ◌++◌, Option, Some, None, refl, sym, ◌∙◌, ap, subst, ◌⊎◌, inl, inr}
use Rattle.std.proofs.lemmas.Bool.{and_parts, and_from}
use Rattle.std.proofs.lemmas.List.{append_assoc}
use Rattle.grammar.specs.Forms.{Form, nothing, begins_by, both, either, still_going}
use Rattle.grammar.specs.Faults.{Stops, StartsAs, Parsed, Refuses, FailsAt, Begins, StartsWithin}
use Rattle.grammar.proofs.Basics.{taken_ended, taken_nothing, begins_at, begins_left, begins_stops, both_false, apart_stops, not_true, stops_as, goes_apart}
use Rattle.grammar.proofs.Sequences.{took, token_taken, first, behind, behind_token, taken_both, taken_token, token_joins, token_peeled, both_on_first_refused, both_on_refused, both_on_stuck, both_on_taken}
use Rattle.grammar.proofs.Rows.{TrailTaken, Trails, trail_begun, trail_pushed, trail_done, trail_first, trail_later}
use Rattle.grammar.proofs.Options.{left_out, put_in, perhaps_refused, beginning_refused, beginning_taken}
use Rattle.grammar.proofs.Choices.{choice_left, choice_right, choice_took_left, choice_took_right}
use Rattle.grammar.proofs.Rests.{UntilTaken, until_none, until_pushed, until_done, until_ended, until_later}
use Rattle.grammar.proofs.Shown.{shown_took, shown_taken, shown_refused, shown_refused_back, shown_out}
use Rattle.swift_ast.specs.declared.terminals.Terminal.TheVariants as T
use Rattle.swift_ast.specs.declared.expressions.Expr.{Expr}
use Rattle.swift_ast.specs.declared.expressions.Postfix.{Postfix}
use Rattle.swift_ast.specs.declared.statements.BindingSpecifier.{BindingSpecifier}
use Rattle.swift_ast.specs.declared.statements.TypeName.{TypeName}
use Rattle.swift_ast.specs.declared.statements.Target.{Target}
use Rattle.swift_ast.specs.declared.statements.Call.{Call}
use Rattle.swift_ast.specs.declared.statements.Block.{Block}
use Rattle.swift_ast.specs.declared.statements.If.{If}
use Rattle.swift_ast.specs.declared.statements.ElseIf.{ElseIf}
use Rattle.swift_ast.specs.declared.statements.Stmt.{Stmt}
use Rattle.swift_ast.specs.declared.statements.Stmt.TheVariants as stmt
use Rattle.swift_ast.specs.Leaves.{Leaf}
use Rattle.swift_ast.specs.Tests.{on, is, is_specifier, begins_part, begins_expr, begins_value}
use Rattle.swift_ast.specs.Expressions.{word, member_rule, expr_form, postfix_form}
use Rattle.swift_ast.specs.Statements.{specifier_form, type_form, annotation_rule, binding_rule, target_form, is_call, return_rule, else_if_rule, stmt_form, block_form, else_if_form, if_form}
use Rattle.swift_ast.proofs.TestFacts.{apart, begins_apart, some_token}
use Rattle.swift_ast.proofs.ExpressionLaws.{expr_some, expr_on, expr_goes, postfix_goes, postfix_one}
use Rattle.swift_ast.proofs.StatementShows.{rows_back, type_made, type_shows, target_made, target_shows, block_made, block_shows, stmts_form, else_if_out, else_if_made, else_if_shows, ElseParts, else_parts_form, if_made, if_shows, behind_else_form, else_row_form, is_last, rows_at, rows_made, rows_show, BindingParts, AssignParts, plain_form, stmt_made, stmt_shows, local_is, return_is, if_is, while_is, assign_is, call_stmt_is, is_target, postfix_of, valued_form, rest_form, plain_shows, target_tokens, target_right, target_is}
use Rattle.swift_ast.proofs.StatementLaws.{specifier_ends, annotated_form, annotated_some, annotation_joins, bound_form, specifier_joins, valued_begun, value_form, some_value, some_value_right, stmts_closed_some, condition_joins, conditional_form, conditional_some, if_behind_form, else_choices, else_untils, if_condition_joins, if_block_joins, while_form, while_choices, if_choices, return_choices, binding_choices, stmts_joins, not_call_and_target, rest_follows, postfix_begins}

-- ---- types and annotations

pub type_refused : {old new : List Leaf} → FailsAt (word T.Identifier) old new → FailsAt type_form old new
type_refused {old} {new} r = shown_refused type_shows r

pub type_taken : {t : Leaf} {old new : List Leaf} → Parsed (word T.Identifier) t nothing old new → Parsed type_form (type_made t) nothing old new
type_taken {t} {old} {new} u = shown_taken type_shows u

pub annotation_none : (old : List Leaf) → Stops (on (is T.Colon)) old → Parsed annotation_rule None (annotation_rule.continues None) old old
annotation_none old s = left_out (on (is T.Colon)) (both (word T.Colon) type_form) old s

pub annotation_refused : (t : Leaf) {old new : List Leaf} → on (is T.Colon) t ≡ true → FailsAt type_form old new → FailsAt annotation_rule (t ∷ old) new
annotation_refused t {old} {new} m r = perhaps_refused (on (is T.Colon)) (both (word T.Colon) type_form) (t ∷ old) new m (behind_token (on (is T.Colon)) t m r)

pub annotation_taken : (t : Leaf) {x : TypeName} {old new : List Leaf} → on (is T.Colon) t ≡ true → Parsed type_form x nothing old new → Parsed annotation_rule (Some (t, x)) (annotation_rule.continues (Some (t, x))) (t ∷ old) new
annotation_taken t {x} {old} {new} m u = put_in (on (is T.Colon)) (both (word T.Colon) type_form) (t, x) (t ∷ old) new (taken_token (on (is T.Colon)) t m u)

-- ---- bindings, behind `let` or `var`

specifier_front : (s : BindingSpecifier) (old : List Leaf) → specifier_form.is_well_formed s ≡ true → Parsed specifier_form s (specifier_form.continues s) (specifier_form.tokens s ++ old) old
specifier_front s old m = taken_ended specifier_ends (record { spelled = refl; right = m; stops = Rattle.grammar.proofs.Basics.stops_nothing old })

bound_refused : (s : BindingSpecifier) {old new : List Leaf} → specifier_form.is_well_formed s ≡ true → FailsAt bound_form old new → FailsAt binding_rule (specifier_form.tokens s ++ old) new
bound_refused s {old} {new} m r = behind specifier_joins (specifier_front s old m) r

pub binding_no_name : (s : BindingSpecifier) {old new : List Leaf} → specifier_form.is_well_formed s ≡ true → FailsAt (word T.Identifier) old new → FailsAt binding_rule (specifier_form.tokens s ++ old) new
binding_no_name s {old} {new} m r = bound_refused s m (first (token_joins (on (is T.Identifier)) annotated_form annotated_some) r)

pub binding_no_type : (s : BindingSpecifier) {n : Leaf} {old mid new : List Leaf} → specifier_form.is_well_formed s ≡ true → Parsed (word T.Identifier) n nothing old mid → FailsAt annotation_rule mid new → FailsAt binding_rule (specifier_form.tokens s ++ old) new
binding_no_type s {n} {old} {mid} {new} m t r = bound_refused s m (behind (token_joins (on (is T.Identifier)) annotated_form annotated_some) t (first annotation_joins r))

abbrev Annotation : Type 0
Annotation = Option (Leaf × TypeName)

pub binding_no_assign : (s : BindingSpecifier) {n : Leaf} {a : Annotation} {old mid late new : List Leaf} → specifier_form.is_well_formed s ≡ true → Parsed (word T.Identifier) n nothing old mid → Parsed annotation_rule a (annotation_rule.continues a) mid late → FailsAt (word T.Assign) late new → FailsAt binding_rule (specifier_form.tokens s ++ old) new
binding_no_assign s {n} {a} {old} {mid} {late} {new} m t u r = bound_refused s m (behind (token_joins (on (is T.Identifier)) annotated_form annotated_some) t (behind annotation_joins u (first (token_joins (on (is T.Assign)) expr_form expr_some) r)))

pub binding_no_value : (s : BindingSpecifier) {n e : Leaf} {a : Annotation} {old mid late last new : List Leaf} → specifier_form.is_well_formed s ≡ true → Parsed (word T.Identifier) n nothing old mid → Parsed annotation_rule a (annotation_rule.continues a) mid late → Parsed (word T.Assign) e nothing late last → FailsAt expr_form last new → FailsAt binding_rule (specifier_form.tokens s ++ old) new
binding_no_value s {n} {e} {a} {old} {mid} {late} {last} {new} m t u w r = bound_refused s m (behind (token_joins (on (is T.Identifier)) annotated_form annotated_some) t (behind annotation_joins u (behind (token_joins (on (is T.Assign)) expr_form expr_some) w r)))

pub binding_done : (s : BindingSpecifier) {n e : Leaf} {a : Annotation} {x : Expr} {old mid late last new : List Leaf} → specifier_form.is_well_formed s ≡ true → Parsed (word T.Identifier) n nothing old mid → Parsed annotation_rule a (annotation_rule.continues a) mid late → Parsed (word T.Assign) e nothing late last → Parsed expr_form x (expr_form.continues x) last new
    → Parsed binding_rule (s, (n, (a, (e, x)))) (expr_form.continues x) (specifier_form.tokens s ++ old) new
binding_done s {n} {e} {a} {x} {old} {mid} {late} {last} {new} m t u w z = taken_both (specifier_front s old m) (taken_both t (taken_both u (taken_both w z)))

-- ---- statements by their kind

abbrev behind_binding : Form Leaf ((Leaf × Option Expr) ⊎ (If ⊎ ((Leaf × (Expr × Block)) ⊎ (AssignParts ⊎ Call))))
behind_binding = either return_rule (either if_form (either while_form plain_form))

pub local_refused : {old new : List Leaf} → begins_by (on is_specifier) old ≡ true → FailsAt binding_rule old new → FailsAt stmt_form old new
local_refused {old} {new} h r = shown_refused stmt_shows (choice_left binding_choices h r)

pub local_taken : {p : BindingParts} {old new : List Leaf} → Parsed binding_rule p (binding_rule.continues p) old new → Parsed stmt_form (stmt.Local p.0 p.1.0 p.1.1.0 p.1.1.1.0 p.1.1.1.1) (stmt_form.continues (stmt.Local p.0 p.1.0 p.1.1.0 p.1.1.1.0 p.1.1.1.1)) old new
local_taken {p} {old} {new} t = subst (λ x. Parsed stmt_form x (stmt_form.continues x) old new) (local_is p) (shown_took {y = inl p} stmt_shows (choice_took_left binding_rule behind_binding t))

return_refused : {old new : List Leaf} → begins_by (on (is T.Return)) old ≡ true → FailsAt return_rule old new → FailsAt stmt_form old new
return_refused {old} {new} h r = shown_refused stmt_shows (choice_right binding_choices (begins_apart (is T.Return) is_specifier old refl h) (choice_left return_choices h r))

return_taken : {p : Leaf × Option Expr} {old new : List Leaf} → Parsed return_rule p (return_rule.continues p) old new → Parsed stmt_form (stmt.Return p.0 p.1) (stmt_form.continues (stmt.Return p.0 p.1)) old new
return_taken {p} {old} {new} t = subst (λ x. Parsed stmt_form x (stmt_form.continues x) old new) (return_is p) (shown_took {y = inr (inl p)} stmt_shows (choice_took_right binding_rule behind_binding (choice_took_left return_rule (either if_form (either while_form plain_form)) t)))

pub if_stmt_refused : {old new : List Leaf} → begins_by (on (is T.If)) old ≡ true → FailsAt if_form old new → FailsAt stmt_form old new
if_stmt_refused {old} {new} h r = shown_refused stmt_shows (choice_right binding_choices (begins_apart (is T.If) is_specifier old refl h) (choice_right return_choices (begins_apart (is T.If) (is T.Return) old refl h) (choice_left if_choices h r)))

pub if_stmt_taken : {x : If} {old new : List Leaf} → Parsed if_form x (if_form.continues x) old new → Parsed stmt_form (stmt.If x) (stmt_form.continues (stmt.If x)) old new
if_stmt_taken {x} {old} {new} t = subst (λ z. Parsed stmt_form z (stmt_form.continues z) old new) (if_is x) (shown_took {y = inr (inr (inl x))} stmt_shows (choice_took_right binding_rule behind_binding (choice_took_right return_rule (either if_form (either while_form plain_form)) (choice_took_left if_form (either while_form plain_form) t))))

while_refused : {old new : List Leaf} → begins_by (on (is T.While)) old ≡ true → FailsAt while_form old new → FailsAt stmt_form old new
while_refused {old} {new} h r = shown_refused stmt_shows (choice_right binding_choices (begins_apart (is T.While) is_specifier old refl h) (choice_right return_choices (begins_apart (is T.While) (is T.Return) old refl h) (choice_right if_choices (begins_apart (is T.While) (is T.If) old refl h) (choice_left while_choices h r))))

while_taken : {p : Leaf × (Expr × Block)} {old new : List Leaf} → Parsed while_form p (while_form.continues p) old new → Parsed stmt_form (stmt.While p.0 p.1.0 p.1.1) (stmt_form.continues (stmt.While p.0 p.1.0 p.1.1)) old new
while_taken {p} {old} {new} t = subst (λ z. Parsed stmt_form z (stmt_form.continues z) old new) (while_is p) (shown_took {y = inr (inr (inr (inl p)))} stmt_shows (choice_took_right binding_rule behind_binding (choice_took_right return_rule (either if_form (either while_form plain_form)) (choice_took_right if_form (either while_form plain_form) (choice_took_left while_form plain_form t)))))

plain_refused : {old new : List Leaf} → Stops (on is_specifier) old → Stops (on (is T.Return)) old → Stops (on (is T.If)) old → Stops (on (is T.While)) old → FailsAt plain_form old new → FailsAt stmt_form old new
plain_refused {old} {new} a b c d r = shown_refused stmt_shows (choice_right binding_choices a (choice_right return_choices b (choice_right if_choices c (choice_right while_choices d r))))

plain_taken : {x : AssignParts ⊎ Call} {old new : List Leaf} → Parsed plain_form x (plain_form.continues x) old new → Parsed stmt_form (stmt_made (inr (inr (inr (inr x))))) (stmt_form.continues (stmt_made (inr (inr (inr (inr x)))))) old new
plain_taken {x} {old} {new} t = shown_took {y = inr (inr (inr (inr x)))} stmt_shows (choice_took_right binding_rule behind_binding (choice_took_right return_rule (either if_form (either while_form plain_form)) (choice_took_right if_form (either while_form plain_form) (choice_took_right while_form plain_form t))))

-- ---- return

pub return_none : (t : Leaf) (old : List Leaf) → on (is T.Return) t ≡ true → Stops (on begins_value) old → Parsed stmt_form (stmt.Return t None) (stmt_form.continues (stmt.Return t None)) (t ∷ old) old
return_none t old m s = return_taken {p = (t, None)} (taken_token (on (is T.Return)) t m (left_out (on begins_value) value_form old s))

pub return_no_value : (t : Leaf) {old new : List Leaf} → on (is T.Return) t ≡ true → begins_by (on begins_value) old ≡ true → FailsAt expr_form old new → FailsAt stmt_form (t ∷ old) new
return_no_value t {old} {new} m h r = return_refused m (behind_token (on (is T.Return)) t m (perhaps_refused (on begins_value) value_form old new h (beginning_refused (on begins_value) expr_form some_value old new some_value_right h r)))

pub return_done : (t : Leaf) {x : Expr} {old new : List Leaf} → on (is T.Return) t ≡ true → begins_by (on begins_value) old ≡ true → Parsed expr_form x (expr_form.continues x) old new → Parsed stmt_form (stmt.Return t (Some x)) (stmt_form.continues (stmt.Return t (Some x))) (t ∷ old) new
return_done t {x} {old} {new} m h u = return_taken {p = (t, Some x)} (taken_token (on (is T.Return)) t m (put_in (on begins_value) value_form x old new (beginning_taken (on begins_value) expr_form x (on begins_expr) Rattle.swift_ast.proofs.ExpressionLaws.expr_begun h u)))

-- ---- while

pub while_no_condition : (t : Leaf) {old new : List Leaf} → on (is T.While) t ≡ true → FailsAt expr_form old new → FailsAt stmt_form (t ∷ old) new
while_no_condition t {old} {new} m r = while_refused m (behind_token (on (is T.While)) t m (first condition_joins r))

pub while_no_block : (t : Leaf) {x : Expr} {old mid new : List Leaf} → on (is T.While) t ≡ true → Parsed expr_form x (expr_form.continues x) old mid → FailsAt block_form mid new → FailsAt stmt_form (t ∷ old) new
while_no_block t {x} {old} {mid} {new} m u r = while_refused m (behind_token (on (is T.While)) t m (behind condition_joins u r))

pub while_done : (t : Leaf) {x : Expr} {b : Block} {old mid new : List Leaf} → on (is T.While) t ≡ true → Parsed expr_form x (expr_form.continues x) old mid → Parsed block_form b (block_form.continues b) mid new → Parsed stmt_form (stmt.While t x b) (stmt_form.continues (stmt.While t x b)) (t ∷ old) new
while_done t {x} {b} {old} {mid} {new} m u w = while_taken {p = (t, (x, b))} (taken_token (on (is T.While)) t m (taken_both u w))

-- ---- if

pub if_no_condition : (t : Leaf) {old new : List Leaf} → on (is T.If) t ≡ true → FailsAt expr_form old new → FailsAt if_form (t ∷ old) new
if_no_condition t {old} {new} m r = shown_refused if_shows (behind_token (on (is T.If)) t m (first if_condition_joins r))

pub if_no_block : (t : Leaf) {x : Expr} {old mid new : List Leaf} → on (is T.If) t ≡ true → Parsed expr_form x (expr_form.continues x) old mid → FailsAt block_form mid new → FailsAt if_form (t ∷ old) new
if_no_block t {x} {old} {mid} {new} m u r = shown_refused if_shows (behind_token (on (is T.If)) t m (behind if_condition_joins u (first if_block_joins r)))

pub if_no_else : (t : Leaf) {x : Expr} {b : Block} {old mid late new : List Leaf} → on (is T.If) t ≡ true → Parsed expr_form x (expr_form.continues x) old mid → Parsed block_form b (block_form.continues b) mid late → FailsAt else_parts_form late new → FailsAt if_form (t ∷ old) new
if_no_else t {x} {b} {old} {mid} {late} {new} m u w r = shown_refused if_shows (behind_token (on (is T.If)) t m (behind if_condition_joins u (behind if_block_joins w r)))

pub if_done : (t : Leaf) {x : Expr} {b : Block} {p : ElseParts} {old mid late new : List Leaf} → on (is T.If) t ≡ true → Parsed expr_form x (expr_form.continues x) old mid → Parsed block_form b (block_form.continues b) mid late → Parsed else_parts_form p (else_parts_form.continues p) late new → Parsed if_form (if_made (t, (x, (b, p)))) (if_form.continues (if_made (t, (x, (b, p))))) (t ∷ old) new
if_done t {x} {b} {p} {old} {mid} {late} {new} m u w z = shown_took {y = (t, (x, (b, p)))} if_shows (taken_token (on (is T.If)) t m (taken_both u (taken_both w z)))

-- ---- else if

else_if_rest_some : Begins if_behind_form []
else_if_rest_some = Rattle.grammar.proofs.Sequences.both_some (word T.If) conditional_form (some_token (is T.If) false T.If refl) conditional_some

pub else_if_no_condition : (t s : Leaf) {old new : List Leaf} → on (is T.Else) t ≡ true → on (is T.If) s ≡ true → FailsAt expr_form old new → FailsAt else_if_form (t ∷ (s ∷ old)) new
else_if_no_condition t s {old} {new} m k r = shown_refused else_if_shows (behind_token (on (is T.Else)) t m (behind_token (on (is T.If)) s k (first condition_joins r)))

pub else_if_no_block : (t s : Leaf) {x : Expr} {old mid new : List Leaf} → on (is T.Else) t ≡ true → on (is T.If) s ≡ true → Parsed expr_form x (expr_form.continues x) old mid → FailsAt block_form mid new → FailsAt else_if_form (t ∷ (s ∷ old)) new
else_if_no_block t s {x} {old} {mid} {new} m k u r = shown_refused else_if_shows (behind_token (on (is T.Else)) t m (behind_token (on (is T.If)) s k (behind condition_joins u r)))

pub else_if_done : (t s : Leaf) {x : Expr} {b : Block} {old mid new : List Leaf} → on (is T.Else) t ≡ true → on (is T.If) s ≡ true → Parsed expr_form x (expr_form.continues x) old mid → Parsed block_form b (block_form.continues b) mid new → Parsed else_if_form (else_if_made (t, (s, (x, b)))) (else_if_form.continues (else_if_made (t, (s, (x, b))))) (t ∷ (s ∷ old)) new
else_if_done t s {x} {b} {old} {mid} {new} m k u w = shown_took {y = (t, (s, (x, b)))} else_if_shows (taken_token (on (is T.Else)) t m (taken_token (on (is T.If)) s k (taken_both u w)))

-- ---- the row of `else if` and `else`

-- the `else if` so far
abbrev pub ElseSo : List ElseIf → List Leaf → List Leaf → Type 0
ElseSo es old new = UntilTaken (on (is T.Else)) is_last else_row_form (rows_at es None) old new

still_else : (es : List ElseIf) → still_going is_last true (rows_at es None) ≡ true
still_else [] = refl
still_else (e ∷ es) = still_else es

rows_push_if : (es : List ElseIf) (e : ElseIf) → rows_at (es ++ (e ∷ [])) None ≡ rows_at es None ++ (((else_if_out e).0, inl (else_if_out e).1) ∷ [])
rows_push_if [] e = refl
rows_push_if (x ∷ es) e = ap (λ rs. ((else_if_out x).0, inl (else_if_out x).1) ∷ rs) (rows_push_if es e)

rows_push_last : (es : List ElseIf) (t : Leaf) (b : Block) → rows_at es (Some (t, b)) ≡ rows_at es None ++ ((t, inr b) ∷ [])
rows_push_last [] t b = refl
rows_push_last (x ∷ es) t b = ap (λ rs. ((else_if_out x).0, inl (else_if_out x).1) ∷ rs) (rows_push_last es t b)

pub else_none : (old : List Leaf) → ElseSo [] old old
else_none old = until_none (on (is T.Else)) is_last else_row_form old

pub else_pushed : (es : List ElseIf) {e : ElseIf} {old mid new : List Leaf} → ElseSo es old mid → Parsed else_if_form e (else_if_form.continues e) mid new → ElseSo (es ++ (e ∷ [])) old new
else_pushed es {e} {old} {mid} {new} t u =
    let w : Parsed (else_if_rule block_form) (else_if_out e) ((else_if_rule block_form).continues (else_if_out e)) mid new = shown_out else_if_shows u in
    subst (λ rs. UntilTaken (on (is T.Else)) is_last else_row_form rs old new) (sym (rows_push_if es e))
    (until_pushed (on (is T.Else)) is_last else_row_form (rows_at es None) {x = ((else_if_out e).0, inl (else_if_out e).1)} t (still_else es) (record { spelled = w.spelled; right = w.right; stops = w.stops }))

rows_show_back : (es : List ElseIf) (o : Option (Leaf × Block)) → rows_made (rows_at es o) ≡ (es, o)
rows_show_back es o = rows_back es o

gone_else : (es : List ElseIf) (t : Leaf) (b : Block) → still_going is_last true (rows_at es (Some (t, b))) ≡ false
gone_else [] t b = refl
gone_else (e ∷ es) t b = gone_else es t b

-- no `else` follows
pub else_done : (es : List ElseIf) {old new : List Leaf} → ElseSo es old new → Stops (on (is T.Else)) new → Parsed else_parts_form (es, None) (else_parts_form.continues (es, None)) old new
else_done es {old} {new} t s = subst (λ x. Parsed else_parts_form x (else_parts_form.continues x) old new) (rows_show_back es None)
    (shown_took rows_show (until_done (on (is T.Else)) is_last else_row_form (rows_at es None) t s))

-- the last `else` and its block
pub else_last : (es : List ElseIf) (e : Leaf) {b : Block} {old mid new : List Leaf} → ElseSo es old (e ∷ mid) → on (is T.Else) e ≡ true → Parsed block_form b (block_form.continues b) mid new → Parsed else_parts_form (es, Some (e, b)) (else_parts_form.continues (es, Some (e, b))) old new
else_last es e {b} {old} {mid} {new} t m u = subst (λ x. Parsed else_parts_form x (else_parts_form.continues x) old new) (rows_show_back es (Some (e, b)))
    (shown_took rows_show (until_ended (on (is T.Else)) is_last else_row_form (rows_at es (Some (e, b)))
    (subst (λ rs. UntilTaken (on (is T.Else)) is_last else_row_form rs old new) (sym (rows_push_last es e b))
    (until_pushed (on (is T.Else)) is_last else_row_form (rows_at es None) {x = (e, inr b)} t (still_else es) (taken_token (on (is T.Else)) e m (choice_took_right if_behind_form block_form u))))
    (gone_else es e b)))

else_refused : (es : List ElseIf) (e : Leaf) {old mid new : List Leaf} → ElseSo es old (e ∷ mid) → on (is T.Else) e ≡ true → FailsAt behind_else_form mid new → FailsAt else_parts_form old new
else_refused es e {old} {mid} {new} t m r = shown_refused rows_show (until_later (rows_at es None) else_untils t (still_else es) m (behind_token (on (is T.Else)) e m r))

-- the block of the last `else` is refused
pub else_no_block : (es : List ElseIf) (e : Leaf) {old mid new : List Leaf} → ElseSo es old (e ∷ mid) → on (is T.Else) e ≡ true → Stops (on (is T.If)) mid → FailsAt block_form mid new → FailsAt else_parts_form old new
else_no_block es e {old} {mid} {new} t m s r = else_refused es e t m (choice_right else_choices s r)

-- an `else if` is refused
pub else_no_if : (es : List ElseIf) (e i : Leaf) {old mid new : List Leaf} → ElseSo es old (e ∷ (i ∷ mid)) → on (is T.Else) e ≡ true → on (is T.If) i ≡ true → FailsAt else_if_form (e ∷ (i ∷ mid)) new → FailsAt else_parts_form old new
else_no_if es e i {old} {mid} {new} t m k r = else_refused es e t m (choice_left else_choices k (token_peeled (on (is T.Else)) e else_if_rest_some m (shown_refused_back else_if_shows r)))

-- ---- blocks

pub block_unopened : {old new : List Leaf} → FailsAt (word T.LeftBrace) old new → FailsAt block_form old new
block_unopened {old} {new} r = shown_refused block_shows (first (token_joins (on (is T.LeftBrace)) (both stmts_form (word T.RightBrace)) stmts_closed_some) r)

pub block_inside : {t : Leaf} {old mid new : List Leaf} → Parsed (word T.LeftBrace) t nothing old mid → FailsAt stmts_form mid new → FailsAt block_form old new
block_inside {t} {old} {mid} {new} u r = shown_refused block_shows (behind (token_joins (on (is T.LeftBrace)) (both stmts_form (word T.RightBrace)) stmts_closed_some) u (first stmts_joins r))

pub block_unclosed : {t : Leaf} {xs : List Stmt} {old mid late new : List Leaf} → Parsed (word T.LeftBrace) t nothing old mid → Parsed stmts_form xs (stmts_form.continues xs) mid late → FailsAt (word T.RightBrace) late new → FailsAt block_form old new
block_unclosed {t} {xs} {old} {mid} {late} {new} u w r = shown_refused block_shows (behind (token_joins (on (is T.LeftBrace)) (both stmts_form (word T.RightBrace)) stmts_closed_some) u (behind stmts_joins w r))

pub block_done : {t s : Leaf} {xs : List Stmt} {old mid late new : List Leaf} → Parsed (word T.LeftBrace) t nothing old mid → Parsed stmts_form xs (stmts_form.continues xs) mid late → Parsed (word T.RightBrace) s nothing late new → Parsed block_form (block_made (t, (xs, s))) (block_form.continues (block_made (t, (xs, s)))) old new
block_done {t} {s} {xs} {old} {mid} {late} {new} u w z = shown_took {y = (t, (xs, s))} block_shows (taken_both u (taken_both w z))

-- ---- targets

abbrev pub TargetSo : Leaf × List (Leaf × Leaf) → List Leaf → List Leaf → Type 0
TargetSo x old new = TrailTaken (on (is T.Dot)) (word T.Identifier) member_rule x old new

pub target_trails : Trails (on (is T.Dot)) (word T.Identifier) member_rule
target_trails = record {
  begun = Rattle.grammar.proofs.Sequences.both_begun (on (is T.Dot)) (word T.Dot) (word T.Identifier) (Rattle.grammar.proofs.Sequences.token_begun (on (is T.Dot)));
  front = λ x t m. refl;
  apart = λ x t m. refl;
  one = Rattle.grammar.proofs.Sequences.token_is_one (on (is T.Identifier));
  each = Rattle.grammar.proofs.Basics.one_of_any member_rule (λ n. Rattle.grammar.proofs.Sequences.both_one (word T.Dot) (word T.Identifier) n (Rattle.grammar.proofs.Sequences.after_token (on (is T.Dot)) (word T.Identifier)) (Rattle.grammar.proofs.Sequences.token_one (on (is T.Dot)) n) (Rattle.grammar.proofs.Sequences.token_one (on (is T.Identifier)) n));
}

pub target_first : {old new : List Leaf} → FailsAt (word T.Identifier) old new → FailsAt target_form old new
target_first {old} {new} r = shown_refused target_shows (trail_first target_trails r)

pub target_begun_with : {t : Leaf} {old new : List Leaf} → Parsed (word T.Identifier) t nothing old new → TargetSo (t, []) old new
target_begun_with {t} {old} {new} u = trail_begun (on (is T.Dot)) (word T.Identifier) member_rule u

pub target_later : (x : Leaf × List (Leaf × Leaf)) (dot : Leaf) {old mid new : List Leaf} → TargetSo x old (dot ∷ mid) → on (is T.Dot) dot ≡ true → FailsAt (word T.Identifier) mid new → FailsAt target_form old new
target_later x dot {old} {mid} {new} t m r = shown_refused target_shows (trail_later x target_trails t m (behind_token (on (is T.Dot)) dot m r))

pub target_pushed : (x : Leaf × List (Leaf × Leaf)) (dot : Leaf) {n : Leaf} {old mid new : List Leaf} → TargetSo x old (dot ∷ mid) → on (is T.Dot) dot ≡ true → Parsed (word T.Identifier) n nothing mid new → TargetSo (x.0, x.1 ++ ((dot, n) ∷ [])) old new
target_pushed x dot {n} {old} {mid} {new} t m u = trail_pushed (on (is T.Dot)) (word T.Identifier) member_rule x {y = (dot, n)} t (taken_token (on (is T.Dot)) dot m u)

pub target_done : (x : Leaf × List (Leaf × Leaf)) {old new : List Leaf} → TargetSo x old new → Stops (on (is T.Dot)) new → Parsed target_form (target_made x) (target_form.continues (target_made x)) old new
target_done x {old} {new} t s = shown_took target_shows (trail_done (on (is T.Dot)) (word T.Identifier) member_rule x t s)

pub target_one : Rattle.grammar.specs.Faults.IsUnambiguous target_form
target_one = Rattle.grammar.proofs.Shown.shown_is_one target_shows (Rattle.grammar.proofs.Rows.trails_one target_trails)

-- ---- an assignment, or a call

rest_refuses : (p : Postfix) (before new : List Leaf) → is_target p ≡ true → Refuses valued_form before new → (y : Option (Leaf × Expr)) (v w : List Leaf) → (rest_form p).is_well_formed y ≡ true → StartsAs new v → Stops ((rest_form p).continues y) w → (rest_form p).tokens y ++ w ≡ before ++ v → ⊥
rest_refuses p before new m r None v w ry sv sw e = not_call_and_target p ry m
rest_refuses p before new m r (Some y) v w ry sv sw e = r y v w ((and_parts (is_target p) (valued_form.is_well_formed y) ry).1) sv sw e

rest_refused : (p : Postfix) {old new : List Leaf} → is_target p ≡ true → FailsAt valued_form old new → FailsAt (rest_form p) old new
rest_refused p {old} {new} m r = record {
  before = r.before;
  spelled = r.spelled;
  refuses = rest_refuses p r.before new m r.refuses;
  begins = record { tree = Some r.begins.tree; more = r.begins.more; right = and_from (is_target p) (valued_form.is_well_formed r.begins.tree) m r.begins.right; spelled = r.begins.spelled };
}

-- a target before `=` is a postfix there
target_postfix : (t : Target) (a : Leaf) {e : Leaf → Bool} {old mid : List Leaf} → on (is T.Assign) a ≡ true → Parsed target_form t e old (a ∷ mid) → Parsed postfix_form (postfix_of t) (postfix_form.continues (postfix_of t)) old (a ∷ mid)
target_postfix t a {e} {old} {mid} m u = record {
  spelled = u.spelled ∙ ap (λ ts. ts ++ (a ∷ mid)) (sym (target_tokens t));
  right = target_right t u.right;
  stops = goes_apart (on (is T.Assign)) (on begins_part) postfix_form postfix_goes (apart (is T.Assign) begins_part refl) (postfix_of t) a m;
}

-- the value of an assignment is refused
pub assign_no_value : (t : Target) (a : Leaf) {e : Leaf → Bool} {old mid new : List Leaf} → Stops (on is_specifier) old → Stops (on (is T.Return)) old → Stops (on (is T.If)) old → Stops (on (is T.While)) old → on (is T.Assign) a ≡ true → Parsed target_form t e old (a ∷ mid) → FailsAt expr_form mid new → FailsAt stmt_form old new
assign_no_value t a {e} {old} {mid} {new} s1 s2 s3 s4 m u r = plain_refused s1 s2 s3 s4 (shown_refused plain_shows (both_on_refused postfix_form rest_form (postfix_of t) old (a ∷ mid) new rest_follows postfix_one (target_postfix t a m u) (rest_refused (postfix_of t) (target_is t) (behind_token (on (is T.Assign)) a m r))))

pub assign_done : (t : Target) (a : Leaf) {x : Expr} {e : Leaf → Bool} {old mid new : List Leaf} → on (is T.Assign) a ≡ true → Parsed target_form t e old (a ∷ mid) → Parsed expr_form x (expr_form.continues x) mid new → Parsed stmt_form (stmt.Assign t a x) (stmt_form.continues (stmt.Assign t a x)) old new
assign_done t a {x} {e} {old} {mid} {new} m u w = subst (λ z. Parsed stmt_form z (stmt_form.continues z) old new) (assign_is (t, (a, x))) (plain_taken {x = inl (t, (a, x))} (record {
  spelled = u.spelled ∙ ap (λ ts. target_form.tokens t ++ (a ∷ ts)) w.spelled ∙ sym (append_assoc (target_form.tokens t) (a ∷ expr_form.tokens x) new);
  right = and_from (target_form.is_well_formed t) _ u.right (and_from (on (is T.Assign) a) (expr_form.is_well_formed x) m w.right);
  stops = w.stops;
}))

-- where no other statement begins, a refused postfix refuses the statement
pub call_refused : {old new : List Leaf} → Stops (on is_specifier) old → Stops (on (is T.Return)) old → Stops (on (is T.If)) old → Stops (on (is T.While)) old → FailsAt postfix_form old new → FailsAt stmt_form old new
call_refused {old} {new} s1 s2 s3 s4 r = plain_refused s1 s2 s3 s4 (shown_refused plain_shows (both_on_first_refused postfix_form rest_form old new rest_follows postfix_begins r))

call_stuck : (p : Postfix) (new : List Leaf) → is_call p ≡ false → (is_target p ≡ true → Stops (on (is T.Assign)) new) → (y : Option (Leaf × Expr)) (v w : List Leaf) → (rest_form p).is_well_formed y ≡ true → StartsAs new v → Stops ((rest_form p).continues y) w → (rest_form p).tokens y ++ w ≡ [] ++ v → ⊥
call_stuck p new none out None v w ry sv sw e = both_false (is_call p) none ry
call_stuck p new none out (Some y) v w ry sv sw e =
    let r2 = and_parts (is_target p) (valued_form.is_well_formed y) ry in
    begins_stops (on (is T.Assign)) v (begins_at (on (is T.Assign)) (valued_form.tokens y ++ w) v e (begins_left (on (is T.Assign)) (valued_form.tokens y) w (valued_begun y r2.1))) (stops_as (on (is T.Assign)) new v sv (out r2.0))

-- a postfix that is no call, and no target before `=`, is no statement
pub call_not : (p : Postfix) {old new : List Leaf} → Stops (on is_specifier) old → Stops (on (is T.Return)) old → Stops (on (is T.If)) old → Stops (on (is T.While)) old → Parsed postfix_form p (postfix_form.continues p) old new → is_call p ≡ false → (is_target p ≡ true → Stops (on (is T.Assign)) new) → FailsAt stmt_form old new
call_not p {old} {new} s1 s2 s3 s4 t none out = plain_refused s1 s2 s3 s4 (shown_refused plain_shows (both_on_stuck postfix_form rest_form p old new rest_follows postfix_one t (call_stuck p new none out) (postfix_begins p t.right)))

pub call_done : (p : Postfix) {old new : List Leaf} → Parsed postfix_form p (postfix_form.continues p) old new → is_call p ≡ true → Parsed stmt_form (stmt.Call (record { postfix = p })) (stmt_form.continues (stmt.Call (record { postfix = p }))) old new
call_done p {old} {new} t m = subst (λ z. Parsed stmt_form z (stmt_form.continues z) old new) (call_stmt_is (record { postfix = p })) (plain_taken {x = inr (record { postfix = p })} (record { spelled = t.spelled; right = and_from (postfix_form.is_well_formed p) (is_call p) t.right m; stops = t.stops }))
