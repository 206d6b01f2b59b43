-- What the trees of statements begin with and continue with, and that no two of them have the same tokens.
use Rattle.std.proofs.Common.{◌≡◌, ℕ, zero, suc, Bool, true, false, not, List, [], ◌∷◌, ◌++◌, Option, Some, None, refl, sym, ◌∙◌, ap, ◌⊎◌, inl, inr}
use Rattle.std.proofs.lemmas.Bool.{and_parts, and_from, false≢true}
use Rattle.std.proofs.lemmas.List.{append_assoc, append-nil}
use Rattle.grammar.specs.Forms.{Form, both, perhaps, either, beginning, in_row, all_well_formed}
use Rattle.grammar.specs.Faults.{Stops, IsUnambiguousBelow, IsUnambiguous, StartsWithin, Begins, NeverContinuesWith, ContinuesWith, Follows, FollowsOn, IsBare}
use Rattle.grammar.proofs.Basics.{one_of_any, one_to, none_smaller, goes_apart, goes_more, weaker_begun, ends_goes, ends_apart, apart_stops, begins_left}
use Rattle.grammar.proofs.Sequences.{token_one, token_is_one, token_begun, both_one, both_begun, both_goes, both_some, after_token, headed_one, ended_follows, begun_follows, Joins, both_on_one, both_on_begun, both_on_goes}
use Rattle.grammar.proofs.Rows.{row_push, right_push}
use Rattle.grammar.proofs.Options.{perhaps_one, perhaps_some, perhaps_goes, perhaps_follows, Optional, optional_one, beginning_begun, beginning_one, bare_later}
use Rattle.grammar.proofs.Choices.{either_goes, either_ends, Choices, choice_one, choice_begun}
use Rattle.grammar.proofs.Lines.{lines_one, lines_goes, lines_some, lines_is_one, LineRules}
use Rattle.grammar.proofs.Rests.{until_one, until_goes, until_some, Untils}
use Rattle.grammar.proofs.Shown.{shown_one, shown_is_one, shown_begun, shown_goes, shown_ends, shown_begins, shown_bare}
use Rattle.swift_ast.specs.declared.terminals.Terminal.TheVariants as T
use Rattle.swift_ast.specs.declared.expressions.Expr.{Expr}
use Rattle.swift_ast.specs.declared.expressions.Args.{Args}
use Rattle.swift_ast.specs.declared.expressions.Atom.{out-Atom}
use Rattle.swift_ast.specs.declared.expressions.Postfix.{Postfix, out-Postfix}
use Rattle.swift_ast.specs.declared.expressions.PostfixPart.{PostfixPart, PostfixPart-F, out-roll-PostfixPart}
use Rattle.swift_ast.specs.declared.statements.BindingSpecifier.{BindingSpecifier}
use Rattle.swift_ast.specs.declared.statements.TypeName.{TypeName}
use Rattle.swift_ast.specs.declared.statements.Block.{Block}
use Rattle.swift_ast.specs.Leaves.{Leaf}
use Rattle.swift_ast.specs.Tests.{Test, on, is, or, is_specifier, opens_args, begins_part, begins_atom, begins_expr, begins_stmt, begins_next_stmt, begins_value}
use Rattle.swift_ast.specs.Expressions.{word, member_rule, expr_form, postfix_form, atom_form, part_form, args_form}
use Rattle.swift_ast.specs.Statements.{specifier_form, type_form, annotation_rule, binding_rule, return_rule, is_args_layer, is_args, ends_by, is_call, while_rule, stmt_form, block_form, if_form}
use Rattle.swift_ast.proofs.TestFacts.{apart, within, sample, sample_on, some_token}
use Rattle.swift_ast.proofs.ExpressionShows.{part_made, part_shows, args_made, args_shows, postfix_out, postfix_made, postfix_shows, postfix_there}
use Rattle.swift_ast.proofs.ExpressionLaws.{expr_goes, expr_on, expr_one, expr_one_to, expr_apart, expr_some, expr_bare, postfix_goes, postfix_begun, postfix_one_to}
use Rattle.swift_ast.proofs.StatementShows.{specifier_shows, type_shows, block_shows, stmts_form, if_shows, ElseParts, else_parts_form, ElseRow, behind_else_form, else_row_form, is_last, rows_show, plain_form, stmt_rule, stmt_shows, is_name_layer, all_members, is_target, valued_form, rest_form, plain_rule, plain_shows}

-- ---- specifiers, types and bindings

pub specifier_begun : StartsWithin (on is_specifier) specifier_form
specifier_begun = shown_begun (on is_specifier) specifier_shows (token_begun (on is_specifier))

pub specifier_ends : (x : BindingSpecifier) (t : Leaf) → specifier_form.continues x t ≡ false
specifier_ends = shown_ends specifier_shows (λ x t. refl)

pub specifier_one : IsUnambiguous specifier_form
specifier_one = shown_is_one specifier_shows (token_is_one (on is_specifier))

pub type_begun : StartsWithin (on (is T.Identifier)) type_form
type_begun = shown_begun (on (is T.Identifier)) type_shows (token_begun (on (is T.Identifier)))

pub type_one : IsUnambiguous type_form
type_one = shown_is_one type_shows (token_is_one (on (is T.Identifier)))

pub type_some : Begins type_form []
type_some = shown_begins type_shows (some_token (is T.Identifier) false T.Identifier refl)

typed_begun : StartsWithin (on (is T.Colon)) (both (word T.Colon) type_form)
typed_begun = both_begun (on (is T.Colon)) (word T.Colon) type_form (token_begun (on (is T.Colon)))

typed_one : IsUnambiguous (both (word T.Colon) type_form)
typed_one = one_of_any (both (word T.Colon) type_form) (λ n. both_one (word T.Colon) type_form n (after_token (on (is T.Colon)) type_form) (token_one (on (is T.Colon)) n) (one_to type_form type_one n))

pub annotation_optional : Optional (on (is T.Colon)) (both (word T.Colon) type_form)
annotation_optional = record { begun = typed_begun; one = typed_one }

pub valued_begun : StartsWithin (on (is T.Assign)) valued_form
valued_begun = both_begun (on (is T.Assign)) (word T.Assign) expr_form (token_begun (on (is T.Assign)))

valued_one_to : (n : ℕ) → IsUnambiguousBelow n valued_form
valued_one_to n = both_one (word T.Assign) expr_form n (after_token (on (is T.Assign)) expr_form) (token_one (on (is T.Assign)) n) (expr_one_to n)

pub valued_one : IsUnambiguous valued_form
valued_one = one_of_any valued_form valued_one_to

pub valued_some : Begins valued_form []
valued_some = both_some (word T.Assign) expr_form (some_token (is T.Assign) false T.Assign refl) expr_some

pub annotation_joins : Joins annotation_rule valued_form
annotation_joins = record { follows = perhaps_follows (on (is T.Colon)) (both (word T.Colon) type_form) valued_form (on (is T.Assign)) valued_begun (apart (is T.Assign) (is T.Colon) refl) (λ x t m. refl); one = optional_one annotation_optional; some = valued_some }

abbrev pub annotated_form : Form Leaf (Option (Leaf × TypeName) × (Leaf × Expr))
annotated_form = both annotation_rule valued_form

pub annotated_some : Begins annotated_form []
annotated_some = both_some annotation_rule valued_form (perhaps_some (on (is T.Colon)) (both (word T.Colon) type_form)) valued_some

abbrev pub bound_form : Form Leaf (Leaf × (Option (Leaf × TypeName) × (Leaf × Expr)))
bound_form = both (word T.Identifier) annotated_form

pub bound_some : Begins bound_form []
bound_some = both_some (word T.Identifier) annotated_form (some_token (is T.Identifier) false T.Identifier refl) annotated_some

pub specifier_joins : Joins specifier_form bound_form
specifier_joins = record { follows = ended_follows specifier_form bound_form specifier_ends; one = specifier_one; some = bound_some }

pub binding_one : IsUnambiguous binding_rule
binding_one = one_of_any binding_rule (λ n. both_one specifier_form bound_form n specifier_joins.follows (one_to specifier_form specifier_one n)
    (both_one (word T.Identifier) annotated_form n (after_token (on (is T.Identifier)) annotated_form) (token_one (on (is T.Identifier)) n)
    (both_one annotation_rule valued_form n annotation_joins.follows (one_to annotation_rule annotation_joins.one n) (valued_one_to n))))

pub binding_begun : StartsWithin (on is_specifier) binding_rule
binding_begun = both_begun (on is_specifier) specifier_form bound_form specifier_begun

pub binding_goes : ContinuesWith (on expr_on) binding_rule
binding_goes = both_goes (on expr_on) specifier_form bound_form (both_goes (on expr_on) (word T.Identifier) annotated_form (both_goes (on expr_on) annotation_rule valued_form (both_goes (on expr_on) (word T.Assign) expr_form expr_goes)))

-- ---- return

abbrev pub value_form : Form Leaf Expr
value_form = beginning (on begins_value) expr_form

pub value_optional : Optional (on begins_value) value_form
value_optional = record { begun = beginning_begun (on begins_value) expr_form; one = one_of_any value_form (λ n. beginning_one (on begins_value) expr_form n (expr_one_to n)) }

value_name : Leaf
value_name = sample false T.Identifier

value_bare : IsBare expr_form value_name
unfolding value_name
value_bare = expr_bare value_name (sample_on Rattle.swift_ast.specs.Tests.is_simple_atom false T.Identifier refl)

value_begins : on begins_value value_name ≡ true
unfolding value_name
value_begins = sample_on begins_value false T.Identifier refl

-- an expression that may stand behind `return`
pub some_value : Expr
some_value = value_bare.tree

pub some_value_right : value_form.is_well_formed some_value ≡ true
unfolding some_value
some_value_right = bare_later (on begins_value) expr_form value_name value_bare value_begins

pub return_one : IsUnambiguous return_rule
return_one = one_of_any return_rule (λ n. both_one (word T.Return) (perhaps (on begins_value) value_form) n (after_token (on (is T.Return)) (perhaps (on begins_value) value_form)) (token_one (on (is T.Return)) n)
    (perhaps_one (on begins_value) value_form n value_optional.begun (one_to value_form value_optional.one n)))

pub return_begun : StartsWithin (on (is T.Return)) return_rule
return_begun = both_begun (on (is T.Return)) (word T.Return) (perhaps (on begins_value) value_form) (token_begun (on (is T.Return)))

abbrev pub stmt_on : Test
stmt_on = or (is T.Else) (or begins_value expr_on)

expr_goes_stmt : ContinuesWith (on stmt_on) expr_form
expr_goes_stmt = goes_more (on expr_on) (on stmt_on) expr_form expr_goes (within expr_on stmt_on refl)

return_goes : ContinuesWith (on stmt_on) return_rule
return_goes = both_goes (on stmt_on) (word T.Return) (perhaps (on begins_value) value_form) (perhaps_goes (on stmt_on) (on begins_value) value_form (within begins_value stmt_on refl) expr_goes_stmt)

-- ---- an assignment or a call

not_both : (b : Bool) → b ≡ true → not b ≡ true → ⊥
not_both true e h = false≢true h
not_both false e h = false≢true e

call_no_target : (xs : List PostfixPart) → ends_by is_args xs ≡ true → all_members xs ≡ true → ⊥
call_no_target [] c m = false≢true c
call_no_target (x ∷ []) c m = not_both (is_args x) c ((and_parts (not (is_args x)) true m).0)
call_no_target (x ∷ (y ∷ xs)) c m = call_no_target (y ∷ xs) c ((and_parts (not (is_args x)) (all_members (y ∷ xs)) m).1)

-- no postfix is a call and a target
pub not_call_and_target : (p : Postfix) → is_call p ≡ true → is_target p ≡ true → ⊥
not_call_and_target p c m = call_no_target (out-Postfix p).parts c ((and_parts (is_name_layer (out-Atom (postfix_out p).0)) (all_members (postfix_out p).1) m).1)

rest_follows_at : (x : Postfix) (y : Option (Leaf × Expr)) (w : List Leaf) → (rest_form x).is_well_formed y ≡ true → Stops ((rest_form x).continues y) w → Stops (postfix_form.continues x) ((rest_form x).tokens y ++ w)
rest_follows_at x None w r s = s
rest_follows_at x (Some v) w r s = apart_stops (on (is T.Assign)) (postfix_form.continues x) (valued_form.tokens v ++ w) (goes_apart (on (is T.Assign)) (on begins_part) postfix_form postfix_goes (apart (is T.Assign) begins_part refl) x) (begins_left (on (is T.Assign)) (valued_form.tokens v) w (valued_begun v ((and_parts (is_target x) (valued_form.is_well_formed v) r).1)))

pub rest_follows : FollowsOn postfix_form rest_form
rest_follows x y w r s = rest_follows_at x y w r s

rest_one : (p : Postfix) (n : ℕ) → IsUnambiguousBelow n (rest_form p)
rest_one p n None None v w small rx ry sv sw e = (refl, e)
rest_one p n None (Some y) v w small rx ry sv sw e = absurd (not_call_and_target p rx ((and_parts (is_target p) (valued_form.is_well_formed y) ry).0))
rest_one p n (Some x) None v w small rx ry sv sw e = absurd (not_call_and_target p ry ((and_parts (is_target p) (valued_form.is_well_formed x) rx).0))
rest_one p n (Some x) (Some y) v w small rx ry sv sw e =
    let found = valued_one_to n x y v w small ((and_parts (is_target p) (valued_form.is_well_formed x) rx).1) ((and_parts (is_target p) (valued_form.is_well_formed y) ry).1) sv sw e in
    (ap (λ z. Some z) found.0, found.1)

plain_one_to : (n : ℕ) → IsUnambiguousBelow n plain_form
plain_one_to n = shown_one n plain_shows (both_on_one postfix_form rest_form n rest_follows (postfix_one_to n) (λ p. rest_one p n))

pub plain_one : IsUnambiguous plain_form
plain_one = one_of_any plain_form plain_one_to

pub plain_begun : StartsWithin (on begins_atom) plain_form
plain_begun = shown_begun (on begins_atom) plain_shows (both_on_begun (on begins_atom) postfix_form rest_form postfix_begun)

rest_goes : (p : Postfix) → ContinuesWith (on expr_on) (rest_form p)
rest_goes p None t h = within begins_part expr_on refl t (postfix_goes p t h)
rest_goes p (Some v) t h = expr_goes v.1 t h

plain_goes : ContinuesWith (on expr_on) plain_form
plain_goes = shown_goes (on expr_on) plain_shows (both_on_goes (on expr_on) postfix_form rest_form rest_goes)

-- ---- blocks

pub block_ends : (x : Block) (t : Leaf) → block_form.continues x t ≡ false
block_ends = shown_ends block_shows (λ x t. refl)

pub block_begun : StartsWithin (on (is T.LeftBrace)) block_form
block_begun = shown_begun (on (is T.LeftBrace)) block_shows (both_begun (on (is T.LeftBrace)) (word T.LeftBrace) (both stmts_form (word T.RightBrace)) (token_begun (on (is T.LeftBrace))))

close_some : Begins (word T.RightBrace) []
close_some = some_token (is T.RightBrace) true T.RightBrace refl

pub stmts_closed_some : Begins (both stmts_form (word T.RightBrace)) []
stmts_closed_some = both_some stmts_form (word T.RightBrace) (lines_some (on begins_stmt) (on begins_next_stmt) stmt_form) close_some

pub block_some : Begins block_form []
block_some = shown_begins block_shows (both_some (word T.LeftBrace) (both stmts_form (word T.RightBrace)) (some_token (is T.LeftBrace) false T.LeftBrace refl) stmts_closed_some)

-- a block behind an expression
pub condition_follows : Follows expr_form block_form
condition_follows = begun_follows (on (is T.LeftBrace)) expr_form block_form block_begun (expr_apart (is T.LeftBrace) refl)

pub condition_joins : Joins expr_form block_form
condition_joins = record { follows = condition_follows; one = expr_one; some = block_some }

abbrev pub conditional_form : Form Leaf (Expr × Block)
conditional_form = both expr_form block_form

pub conditional_some : Begins conditional_form []
conditional_some = both_some expr_form block_form expr_some block_some

conditional_next : (n : ℕ) → IsUnambiguousBelow n block_form → IsUnambiguousBelow n conditional_form
conditional_next n one = both_one expr_form block_form n condition_follows (expr_one_to n) one

conditional_ends : (x : Expr × Block) (t : Leaf) → conditional_form.continues x t ≡ false
conditional_ends x t = block_ends x.1 t

-- ---- what stands behind the block of an `if`

abbrev pub if_behind_form : Form Leaf (Leaf × (Expr × Block))
if_behind_form = both (word T.If) conditional_form

pub if_behind_begun : StartsWithin (on (is T.If)) if_behind_form
if_behind_begun = both_begun (on (is T.If)) (word T.If) conditional_form (token_begun (on (is T.If)))

pub else_choices : Choices (on (is T.If)) (on (is T.LeftBrace)) if_behind_form block_form
else_choices = record { left = if_behind_begun; right = block_begun; apart = apart (is T.If) (is T.LeftBrace) refl }

behind_else_ends : (p : (Leaf × (Expr × Block)) ⊎ Block) (t : Leaf) → behind_else_form.continues p t ≡ false
behind_else_ends = either_ends if_behind_form block_form (λ x t. block_ends x.1.1 t) block_ends

row_ends : (r : ElseRow) (t : Leaf) → else_row_form.continues r t ≡ false
row_ends r t = behind_else_ends r.1 t

row_begun : StartsWithin (on (is T.Else)) else_row_form
row_begun = both_begun (on (is T.Else)) (word T.Else) behind_else_form (token_begun (on (is T.Else)))

row_next : (n : ℕ) → IsUnambiguousBelow n block_form → IsUnambiguousBelow n else_row_form
row_next n one = both_one (word T.Else) behind_else_form n (after_token (on (is T.Else)) behind_else_form) (token_one (on (is T.Else)) n)
    (choice_one n else_choices (both_one (word T.If) conditional_form n (after_token (on (is T.If)) conditional_form) (token_one (on (is T.If)) n) (conditional_next n one)) one)

else_parts_next : (n : ℕ) → IsUnambiguousBelow n block_form → IsUnambiguousBelow n else_parts_form
else_parts_next n one = shown_one n rows_show (until_one (on (is T.Else)) is_last else_row_form n row_begun (ends_apart (on (is T.Else)) else_row_form row_ends) (row_next n one))

else_parts_goes : ContinuesWith (on (is T.Else)) else_parts_form
else_parts_goes = shown_goes (on (is T.Else)) rows_show (until_goes (on (is T.Else)) (on (is T.Else)) is_last else_row_form (λ t m. m) (ends_goes (on (is T.Else)) else_row_form row_ends))

pub else_parts_some : Begins else_parts_form []
else_parts_some = shown_begins rows_show (until_some (on (is T.Else)) is_last else_row_form)

abbrev pub if_body_form : Form Leaf (Block × ElseParts)
if_body_form = both block_form else_parts_form

pub if_body_some : Begins if_body_form []
if_body_some = both_some block_form else_parts_form block_some else_parts_some

if_body_begun : StartsWithin (on (is T.LeftBrace)) if_body_form
if_body_begun = both_begun (on (is T.LeftBrace)) block_form else_parts_form block_begun

pub if_condition_joins : Joins expr_form if_body_form
if_condition_joins = record { follows = begun_follows (on (is T.LeftBrace)) expr_form if_body_form if_body_begun (expr_apart (is T.LeftBrace) refl); one = expr_one; some = if_body_some }

abbrev pub if_rest_form : Form Leaf (Expr × (Block × ElseParts))
if_rest_form = both expr_form if_body_form

pub if_begun : StartsWithin (on (is T.If)) if_form
if_begun = shown_begun (on (is T.If)) if_shows (both_begun (on (is T.If)) (word T.If) if_rest_form (token_begun (on (is T.If))))

if_next : (n : ℕ) → IsUnambiguousBelow n block_form → IsUnambiguousBelow n if_form
if_next n one = shown_one n if_shows (both_one (word T.If) if_rest_form n (after_token (on (is T.If)) if_rest_form) (token_one (on (is T.If)) n)
    (both_one expr_form if_body_form n if_condition_joins.follows (expr_one_to n) (both_one block_form else_parts_form n (ended_follows block_form else_parts_form block_ends) one (else_parts_next n one))))

if_goes : ContinuesWith (on (is T.Else)) if_form
if_goes = shown_goes (on (is T.Else)) if_shows (both_goes (on (is T.Else)) (word T.If) if_rest_form (both_goes (on (is T.Else)) expr_form if_body_form (both_goes (on (is T.Else)) block_form else_parts_form else_parts_goes)))

-- ---- statements

abbrev pub while_form : Form Leaf (Leaf × (Expr × Block))
while_form = while_rule block_form

pub while_begun : StartsWithin (on (is T.While)) while_form
while_begun = both_begun (on (is T.While)) (word T.While) conditional_form (token_begun (on (is T.While)))

while_next : (n : ℕ) → IsUnambiguousBelow n block_form → IsUnambiguousBelow n while_form
while_next n one = both_one (word T.While) conditional_form n (after_token (on (is T.While)) conditional_form) (token_one (on (is T.While)) n) (conditional_next n one)

abbrev pub at_while : Test
at_while = or (is T.While) begins_atom

abbrev pub at_if : Test
at_if = or (is T.If) at_while

abbrev pub at_return : Test
at_return = or (is T.Return) at_if

pub while_choices : Choices (on (is T.While)) (on begins_atom) while_form plain_form
while_choices = record { left = while_begun; right = plain_begun; apart = apart (is T.While) begins_atom refl }

pub if_choices : Choices (on (is T.If)) (on at_while) if_form (either while_form plain_form)
if_choices = record { left = if_begun; right = choice_begun while_choices; apart = apart (is T.If) at_while refl }

pub return_choices : Choices (on (is T.Return)) (on at_if) return_rule (either if_form (either while_form plain_form))
return_choices = record { left = return_begun; right = choice_begun if_choices; apart = apart (is T.Return) at_if refl }

pub binding_choices : Choices (on is_specifier) (on at_return) binding_rule (either return_rule (either if_form (either while_form plain_form)))
binding_choices = record { left = binding_begun; right = choice_begun return_choices; apart = apart is_specifier at_return refl }

pub stmt_begun : StartsWithin (on begins_stmt) stmt_form
stmt_begun = shown_begun (on begins_stmt) stmt_shows (weaker_begun (on (or is_specifier at_return)) (on begins_stmt) stmt_rule (within (or is_specifier at_return) begins_stmt refl) (choice_begun binding_choices))

pub stmt_goes : ContinuesWith (on stmt_on) stmt_form
stmt_goes = shown_goes (on stmt_on) stmt_shows
    (either_goes (on stmt_on) binding_rule (either return_rule (either if_form (either while_form plain_form))) (goes_more (on expr_on) (on stmt_on) binding_rule binding_goes (within expr_on stmt_on refl))
    (either_goes (on stmt_on) return_rule (either if_form (either while_form plain_form)) return_goes
    (either_goes (on stmt_on) if_form (either while_form plain_form) (goes_more (on (is T.Else)) (on stmt_on) if_form if_goes (within (is T.Else) stmt_on refl))
    (either_goes (on stmt_on) while_form plain_form (ends_goes (on stmt_on) while_form (λ x t. block_ends x.1.1 t)) (goes_more (on expr_on) (on stmt_on) plain_form plain_goes (within expr_on stmt_on refl))))))

-- a statement does not continue with the first token of one on a line of its own
pub next_apart : NeverContinuesWith (on begins_next_stmt) stmt_form
next_apart = goes_apart (on begins_next_stmt) (on stmt_on) stmt_form stmt_goes (apart begins_next_stmt stmt_on refl)

abbrev lines_on_test : Test
lines_on_test = or begins_stmt stmt_on

stmts_goes : ContinuesWith (on lines_on_test) stmts_form
stmts_goes = lines_goes (on lines_on_test) (on begins_stmt) (on begins_next_stmt) stmt_form (within begins_stmt lines_on_test refl) (within begins_next_stmt lines_on_test refl) (goes_more (on stmt_on) (on lines_on_test) stmt_form stmt_goes (within stmt_on lines_on_test refl))

stmts_closed : Follows stmts_form (word T.RightBrace)
stmts_closed = begun_follows (on (is T.RightBrace)) stmts_form (word T.RightBrace) (token_begun (on (is T.RightBrace))) (goes_apart (on (is T.RightBrace)) (on lines_on_test) stmts_form stmts_goes (apart (is T.RightBrace) lines_on_test refl))

stmt_next : (n : ℕ) → IsUnambiguousBelow n block_form → IsUnambiguousBelow n stmt_form
stmt_next n one = shown_one n stmt_shows (choice_one n binding_choices (one_to binding_rule binding_one n) (choice_one n return_choices (one_to return_rule return_one n) (choice_one n if_choices (if_next n one) (choice_one n while_choices (while_next n one) (plain_one_to n)))))

block_next : (n : ℕ) → IsUnambiguousBelow n stmt_form → IsUnambiguousBelow (suc n) block_form
block_next n one = shown_one (suc n) block_shows (headed_one (on (is T.LeftBrace)) (both stmts_form (word T.RightBrace)) n
    (both_one stmts_form (word T.RightBrace) n stmts_closed (lines_one (on begins_stmt) (on begins_next_stmt) stmt_form n stmt_begun next_apart one) (token_one (on (is T.RightBrace)) n)))

pub block_one_to : (n : ℕ) → IsUnambiguousBelow n block_form
block_one_to zero = none_smaller block_form
block_one_to (suc n) = block_next n (stmt_next n (block_one_to n))

pub block_one : IsUnambiguous block_form
block_one = one_of_any block_form block_one_to

pub stmt_one : IsUnambiguous stmt_form
stmt_one = one_of_any stmt_form (λ n. stmt_next n (block_one_to n))

pub if_one : IsUnambiguous if_form
if_one = one_of_any if_form (λ n. if_next n (block_one_to n))

pub else_parts_one : IsUnambiguous else_parts_form
else_parts_one = one_of_any else_parts_form (λ n. else_parts_next n (block_one_to n))

pub row_one : IsUnambiguous else_row_form
row_one = one_of_any else_row_form (λ n. row_next n (block_one_to n))

pub else_untils : Untils (on (is T.Else)) is_last else_row_form
else_untils = record { begun = row_begun; apart = ends_apart (on (is T.Else)) else_row_form row_ends; one = row_one }

pub if_block_joins : Joins block_form else_parts_form
if_block_joins = record { follows = ended_follows block_form else_parts_form block_ends; one = block_one; some = else_parts_some }

-- ---- statements on lines of their own

some_return : Leaf
some_return = sample true T.Return

some_return_is : on (is T.Return) some_return ≡ true
unfolding some_return
some_return_is = sample_on (is T.Return) true T.Return refl

some_return_next : on begins_next_stmt some_return ≡ true
unfolding some_return
some_return_next = sample_on begins_next_stmt true T.Return refl

return_bare : (t : Leaf) → on (is T.Return) t ≡ true → IsBare stmt_form t
return_bare t m = shown_bare stmt_shows (record { tree = inr (inl (t, None)); right = and_from (on (is T.Return) t) true m refl; spelled = refl })

some_stmt : IsBare stmt_form some_return
some_stmt = return_bare some_return some_return_is

pub stmt_lines : LineRules (on begins_stmt) (on begins_next_stmt) stmt_form
stmt_lines = record { begun = stmt_begun; apart = next_apart; one = stmt_one; some = some_stmt.tree; later = bare_later (on begins_next_stmt) stmt_form some_return some_stmt some_return_next }

pub stmts_joins : Joins stmts_form (word T.RightBrace)
stmts_joins = record { follows = stmts_closed; one = lines_is_one stmt_lines; some = close_some }

-- ---- each postfix is the beginning of a call

opening_sample : Leaf
opening_sample = sample false T.LeftParenthesis

opening_is : on opens_args opening_sample ≡ true
unfolding opening_sample
opening_is = sample_on opens_args false T.LeftParenthesis refl

closing_sample : Leaf
closing_sample = sample false T.RightParenthesis

closing_is : on (is T.RightParenthesis) closing_sample ≡ true
unfolding closing_sample
closing_is = sample_on (is T.RightParenthesis) false T.RightParenthesis refl

abbrev no_args : Args
no_args = args_made (opening_sample, (None, closing_sample))

abbrev call_part : PostfixPart
call_part = part_made (inr no_args)

no_args_inner : (Rattle.swift_ast.specs.Expressions.args_rule Rattle.swift_ast.specs.Expressions.arg_form).is_well_formed (opening_sample, (None, closing_sample)) ≡ true
no_args_inner = and_from (on opens_args opening_sample) (on (is T.RightParenthesis) closing_sample) opening_is closing_is

no_args_right : args_form.is_well_formed no_args ≡ true
no_args_right = args_shows.made_right (opening_sample, (None, closing_sample)) no_args_inner

call_part_right : part_form.is_well_formed call_part ≡ true
call_part_right = part_shows.made_right (inr no_args) no_args_right

call_part_is : is_args call_part ≡ true
call_part_is = ap (λ y. is_args_layer y) (out-roll-PostfixPart (PostfixPart-F.Call no_args))

ends_push : (xs : List PostfixPart) (x : PostfixPart) → is_args x ≡ true → ends_by is_args (xs ++ (x ∷ [])) ≡ true
ends_push [] x e = e
ends_push (y ∷ []) x e = e
ends_push (y ∷ (z ∷ xs)) x e = ends_push (z ∷ xs) x e

abbrev called : Postfix → Postfix
called p = postfix_made ((postfix_out p).0, (postfix_out p).1 ++ (call_part ∷ []))

called_out : (p : Postfix) → postfix_out (called p) ≡ ((postfix_out p).0, (postfix_out p).1 ++ (call_part ∷ []))
called_out p = postfix_there ((postfix_out p).0, (postfix_out p).1 ++ (call_part ∷ []))

called_is : (p : Postfix) → is_call (called p) ≡ true
called_is p = ap (λ z. ends_by is_args z.1) (called_out p) ∙ ends_push (postfix_out p).1 call_part call_part_is

called_right : (p : Postfix) → postfix_form.is_well_formed p ≡ true → postfix_form.is_well_formed (called p) ≡ true
called_right p r =
    let r2 = and_parts (atom_form.is_well_formed (postfix_out p).0) (all_well_formed part_form (postfix_out p).1) (postfix_shows.right p r) in
    postfix_shows.made_right ((postfix_out p).0, (postfix_out p).1 ++ (call_part ∷ [])) (and_from (atom_form.is_well_formed (postfix_out p).0) _ r2.0 (right_push part_form (postfix_out p).1 call_part r2.1 call_part_right))

called_tokens : (p : Postfix) → postfix_form.tokens (called p) ≡ postfix_form.tokens p ++ part_form.tokens call_part
called_tokens p = postfix_shows.tokens (called p) ∙ ap (λ z. atom_form.tokens z.0 ++ in_row part_form z.1) (called_out p)
    ∙ ap (λ ts. atom_form.tokens (postfix_out p).0 ++ ts) (row_push part_form (postfix_out p).1 call_part)
    ∙ sym (append_assoc (atom_form.tokens (postfix_out p).0) (in_row part_form (postfix_out p).1) (part_form.tokens call_part))
    ∙ ap (λ ts. ts ++ part_form.tokens call_part) (sym (postfix_shows.tokens p))

pub postfix_begins : (p : Postfix) → postfix_form.is_well_formed p ≡ true → Begins plain_rule (postfix_form.tokens p)
postfix_begins p r = record {
  tree = (called p, None);
  more = part_form.tokens call_part;
  right = and_from (postfix_form.is_well_formed (called p)) (is_call (called p)) (called_right p r) (called_is p);
  spelled = append-nil (postfix_form.tokens (called p)) ∙ called_tokens p;
}
