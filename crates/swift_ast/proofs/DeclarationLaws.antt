-- What the trees of declarations begin with and continue with, and that no two of them have the same tokens.
use Rattle.std.proofs.Common.{◌≡◌, ℕ, Bool, true, false, [], ◌∷◌, ◌++◌, Option, refl, ◌⊎◌, inl, inr}
use Rattle.std.proofs.lemmas.Bool.{and_parts, and_from}
use Rattle.grammar.specs.Forms.{Form, token, both, perhaps, lines, either, either_well_formed, beginning}
use Rattle.grammar.specs.Faults.{IsUnambiguousBelow, IsUnambiguous, StartsWithin, Begins, NeverContinuesWith, ContinuesWith, Follows, FollowsOn}
use Rattle.grammar.proofs.Basics.{one_of_any, one_to, goes_apart, goes_more, weaker_begun, ends_goes, ends_apart, stops_nothing}
use Rattle.grammar.proofs.Sequences.{token_one, token_is_one, token_begun, both_begun, both_goes, both_some, ended_follows, begun_follows, Joins, joined_one, behind_token_one, both_on_one, both_on_begun}
use Rattle.grammar.proofs.Rows.{Chains, chain_trails, trails_one, trail_begun_by, chain_goes, Rows, rows_one}
use Rattle.grammar.proofs.Options.{perhaps_some, perhaps_goes, perhaps_follows, Optional, optional_one, optional_begun, beginning_begun, beginning_one}
use Rattle.grammar.proofs.Choices.{either_goes, either_ends, Choices, choice_one, choice_is_one, choice_begun}
use Rattle.grammar.proofs.Lines.{lines_goes, lines_some, lines_is_one, LineRules, Stands, stands_token, stands_shown, stands_left, stands_right, stands_without, stands_later, stands_begins}
use Rattle.grammar.proofs.Shown.{shown_is_one, shown_begun, shown_goes, shown_ends, shown_begins}
use Rattle.swift_ast.specs.declared.terminals.Terminal.TheVariants as T
use Rattle.swift_ast.specs.declared.expressions.Expr.{Expr}
use Rattle.swift_ast.specs.declared.statements.TypeName.{TypeName}
use Rattle.swift_ast.specs.declared.statements.Block.{Block}
use Rattle.swift_ast.specs.declared.declarations.Decl.{Decl}
use Rattle.swift_ast.specs.declared.declarations.NamedDecl.{NamedDecl}
use Rattle.swift_ast.specs.declared.declarations.Access.{Access}
use Rattle.swift_ast.specs.declared.declarations.Func.{Func}
use Rattle.swift_ast.specs.declared.declarations.Param.{Param}
use Rattle.swift_ast.specs.declared.declarations.Struct.{Struct}
use Rattle.swift_ast.specs.declared.declarations.StructMember.{StructMember}
use Rattle.swift_ast.specs.declared.declarations.StoredValue.{StoredValue}
use Rattle.swift_ast.specs.declared.declarations.Computed.{Computed}
use Rattle.swift_ast.specs.declared.declarations.Extension.{Extension}
use Rattle.swift_ast.specs.declared.declarations.ExtensionMember.{ExtensionMember}
use Rattle.swift_ast.specs.declared.declarations.Alias.{Alias}
use Rattle.swift_ast.specs.Leaves.{Leaf}
use Rattle.swift_ast.specs.Tests.{Test, on, is, or, is_specifier, is_access, is_label, begins_decl, begins_next_decl, begins_struct_member, begins_extension_member, on_new_line}
use Rattle.swift_ast.specs.Expressions.{word, expr_form}
use Rattle.swift_ast.specs.Statements.{type_form, block_form}
use Rattle.swift_ast.specs.Declarations.{access_form, global_form, param_form, params_rule, result_rule, func_form, initial_rule, typed_rule, inferred_rule, stored_value_form, computed_form, struct_member_form, with_access, struct_form, extension_member_form, extension_form, alias_form, named_form, decl_form, decls_form}
use Rattle.swift_ast.proofs.TestFacts.{apart, within, sample, sample_on, some_token}
use Rattle.swift_ast.proofs.ExpressionLaws.{expr_goes, expr_on}
use Rattle.swift_ast.proofs.StatementShows.{valued_form}
use Rattle.swift_ast.proofs.StatementLaws.{type_one, type_some, valued_begun, valued_one, valued_some, binding_one, binding_begun, binding_goes, block_ends, block_begun, block_one, block_some}
use Rattle.swift_ast.proofs.DeclarationShows.{access_shows, global_shows, TypedParts, typed_form, name_typed_form, tail_right, tail_form, param_words, param_shows, ParamList, param_list_form, func_shows, stored_value_shows, computed_shows, VarTail, begins_tail, value_or_body_form, var_tail_form, VarTyped, var_typed_form, var_rest_form, var_form, let_form, struct_member_shows, StructMembers, ExtensionMembers, struct_shows, extension_shows, alias_shows, extension_member_shows, named_shows, decl_rule, decl_shows}

-- ---- access

pub access_begun : StartsWithin (on is_access) access_form
access_begun = shown_begun (on is_access) access_shows (token_begun (on is_access))

pub access_ends : (x : Access) (t : Leaf) → access_form.continues x t ≡ false
access_ends = shown_ends access_shows (λ x t. refl)

pub access_one : IsUnambiguous access_form
access_one = shown_is_one access_shows (token_is_one (on is_access))

pub access_optional : Optional (on is_access) access_form
access_optional = record { begun = access_begun; one = access_one }

abbrev pub access_rule : Form Leaf (Option Access)
access_rule = perhaps (on is_access) access_form

-- a declaration behind its access
access_follows : {X : Type 0} (begins : Test) (f : Form Leaf X) → Rattle.grammar.specs.Tests.are_apart begins is_access Rattle.swift_ast.specs.Terminals.terminals ≡ true → StartsWithin (on begins) f → Follows access_rule f
access_follows begins f e begun = perhaps_follows (on is_access) access_form f (on begins) begun (apart begins is_access e) (ends_apart (on begins) access_form access_ends)

-- ---- parameters

typed_begun : StartsWithin (on (is T.Colon)) typed_form
typed_begun = both_begun (on (is T.Colon)) (word T.Colon) type_form (token_begun (on (is T.Colon)))

typed_one : IsUnambiguous typed_form
typed_one = behind_token_one (on (is T.Colon)) type_form type_one

pub typed_some : Begins typed_form []
typed_some = both_some (word T.Colon) type_form (some_token (is T.Colon) false T.Colon refl) type_some

name_typed_begun : StartsWithin (on (is T.Identifier)) name_typed_form
name_typed_begun = both_begun (on (is T.Identifier)) (word T.Identifier) typed_form (token_begun (on (is T.Identifier)))

pub name_typed_some : Begins name_typed_form []
name_typed_some = both_some (word T.Identifier) typed_form (some_token (is T.Identifier) false T.Identifier refl) typed_some

pub tail_choices : Choices (on (is T.Identifier)) (on (is T.Colon)) name_typed_form typed_form
tail_choices = record { left = name_typed_begun; right = typed_begun; apart = apart (is T.Identifier) (is T.Colon) refl }

abbrev TailParts : Type 0
TailParts = (Leaf × TypedParts) ⊎ TypedParts

pub tail_either : (t : Leaf) (p : TailParts) → tail_right t p ≡ true → either_well_formed name_typed_form typed_form p ≡ true
tail_either t (inl p) r = r
tail_either t (inr p) r = (and_parts (on (is T.Identifier) t) (typed_form.is_well_formed p) r).1

tail_ends : (t : Leaf) (p : TailParts) (u : Leaf) → (tail_form t).continues p u ≡ false
tail_ends t (inl p) u = refl
tail_ends t (inr p) u = refl

tail_one : (t : Leaf) (n : ℕ) → IsUnambiguousBelow n (tail_form t)
tail_one t n x y v w small rx ry sv sw e = choice_one n tail_choices (one_to name_typed_form (behind_token_one (on (is T.Identifier)) typed_form typed_one) n) (one_to typed_form typed_one n) x y v w small (tail_either t x rx) (tail_either t y ry) sv sw e

pub tail_follows : FollowsOn (token (on is_label)) tail_form
tail_follows t y w r s = stops_nothing ((tail_form t).tokens y ++ w)

pub param_one : IsUnambiguous param_form
param_one = shown_is_one param_shows (one_of_any param_words (λ n. both_on_one (token (on is_label)) tail_form n tail_follows (token_one (on is_label) n) (λ t. tail_one t n)))

pub param_begun : StartsWithin (on is_label) param_form
param_begun = shown_begun (on is_label) param_shows (both_on_begun (on is_label) (token (on is_label)) tail_form (token_begun (on is_label)))

pub param_ends : (x : Param) (t : Leaf) → param_form.continues x t ≡ false
param_ends = shown_ends param_shows (λ p t. tail_ends p.0 p.1 t)

-- each word of a label begins a parameter
pub label_begins : (t : Leaf) → on is_label t ≡ true → Begins param_words (t ∷ [])
label_begins t m = record { tree = (t, inl name_typed_some.tree); more = name_typed_form.tokens name_typed_some.tree; right = and_from (on is_label t) _ m name_typed_some.right; spelled = refl }

some_label : Leaf
some_label = sample false T.Identifier

some_label_is : on is_label some_label ≡ true
unfolding some_label
some_label_is = sample_on is_label false T.Identifier refl

pub param_some : Begins param_form []
param_some = shown_begins param_shows (record { tree = (label_begins some_label some_label_is).tree; more = some_label ∷ (label_begins some_label some_label_is).more; right = (label_begins some_label some_label_is).right; spelled = (label_begins some_label some_label_is).spelled })

pub param_chains : Chains (on (is T.Comma)) (word T.Comma) param_form
param_chains = record { begun = token_begun (on (is T.Comma)); ends = λ m t. refl; apart = ends_apart (on (is T.Comma)) param_form param_ends; marks = token_is_one (on (is T.Comma)); one = param_one; some = param_some }

param_list_one : IsUnambiguous param_list_form
param_list_one = trails_one (chain_trails param_chains)

param_list_begun : StartsWithin (on is_label) param_list_form
param_list_begun = trail_begun_by (on is_label) (on (is T.Comma)) param_form (both (word T.Comma) param_form) param_begun

param_list_apart : NeverContinuesWith (on (is T.RightParenthesis)) param_list_form
param_list_apart = goes_apart (on (is T.RightParenthesis)) (on (is T.Comma)) param_list_form (chain_goes (on (is T.Comma)) (on (is T.Comma)) (word T.Comma) param_form (λ t m. m) (ends_goes (on (is T.Comma)) param_form param_ends)) (apart (is T.RightParenthesis) (is T.Comma) refl)

pub params_optional : Optional (on is_label) param_list_form
params_optional = record { begun = param_list_begun; one = param_list_one }

-- ---- functions

arrow_begun : StartsWithin (on (is T.Arrow)) (both (word T.Arrow) type_form)
arrow_begun = both_begun (on (is T.Arrow)) (word T.Arrow) type_form (token_begun (on (is T.Arrow)))

pub result_optional : Optional (on (is T.Arrow)) (both (word T.Arrow) type_form)
result_optional = record { begun = arrow_begun; one = behind_token_one (on (is T.Arrow)) type_form type_one }

pub result_joins : Joins result_rule block_form
result_joins = record { follows = perhaps_follows (on (is T.Arrow)) (both (word T.Arrow) type_form) block_form (on (is T.LeftBrace)) block_begun (apart (is T.LeftBrace) (is T.Arrow) refl) (λ x t m. refl); one = optional_one result_optional; some = block_some }

abbrev pub result_body_form : Form Leaf (Option TypedParts × Block)
result_body_form = both result_rule block_form

pub result_body_some : Begins result_body_form []
result_body_some = both_some result_rule block_form (perhaps_some (on (is T.Arrow)) (both (word T.Arrow) type_form)) block_some

abbrev pub closed_form : Form Leaf (Leaf × (Option TypedParts × Block))
closed_form = both (word T.RightParenthesis) result_body_form

pub closed_some : Begins closed_form []
closed_some = both_some (word T.RightParenthesis) result_body_form (some_token (is T.RightParenthesis) false T.RightParenthesis refl) result_body_some

closed_begun : StartsWithin (on (is T.RightParenthesis)) closed_form
closed_begun = both_begun (on (is T.RightParenthesis)) (word T.RightParenthesis) result_body_form (token_begun (on (is T.RightParenthesis)))

pub params_joins : Joins params_rule closed_form
params_joins = record { follows = perhaps_follows (on is_label) param_list_form closed_form (on (is T.RightParenthesis)) closed_begun (apart (is T.RightParenthesis) is_label refl) param_list_apart; one = optional_one params_optional; some = closed_some }

abbrev pub params_closed_form : Form Leaf (Option ParamList × (Leaf × (Option TypedParts × Block)))
params_closed_form = both params_rule closed_form

pub params_closed_some : Begins params_closed_form []
params_closed_some = both_some params_rule closed_form (perhaps_some (on is_label) param_list_form) closed_some

abbrev pub opened_form : Form Leaf (Leaf × (Option ParamList × (Leaf × (Option TypedParts × Block))))
opened_form = both (word T.LeftParenthesis) params_closed_form

pub opened_some : Begins opened_form []
opened_some = both_some (word T.LeftParenthesis) params_closed_form (some_token (is T.LeftParenthesis) false T.LeftParenthesis refl) params_closed_some

abbrev pub func_name_form : Form Leaf (Leaf × (Leaf × (Option ParamList × (Leaf × (Option TypedParts × Block)))))
func_name_form = both (word T.Identifier) opened_form

pub func_name_some : Begins func_name_form []
func_name_some = both_some (word T.Identifier) opened_form (some_token (is T.Identifier) false T.Identifier refl) opened_some

pub func_one : IsUnambiguous func_form
func_one = shown_is_one func_shows (behind_token_one (on (is T.Func)) func_name_form (behind_token_one (on (is T.Identifier)) opened_form (behind_token_one (on (is T.LeftParenthesis)) params_closed_form (joined_one params_joins (behind_token_one (on (is T.RightParenthesis)) result_body_form (joined_one result_joins block_one))))))

pub func_begun : StartsWithin (on (is T.Func)) func_form
func_begun = shown_begun (on (is T.Func)) func_shows (both_begun (on (is T.Func)) (word T.Func) func_name_form (token_begun (on (is T.Func))))

pub func_ends : (x : Func) (t : Leaf) → func_form.continues x t ≡ false
func_ends = shown_ends func_shows (λ p t. block_ends p.1.1.1.1.1.1 t)

-- ---- stored and computed properties

pub initial_optional : Optional (on (is T.Assign)) valued_form
initial_optional = record { begun = valued_begun; one = valued_one }

abbrev pub property_on : Test
property_on = or begins_tail expr_on

expr_goes_property : ContinuesWith (on property_on) expr_form
expr_goes_property = goes_more (on expr_on) (on property_on) expr_form expr_goes (within expr_on property_on refl)

initial_goes : ContinuesWith (on property_on) initial_rule
initial_goes = perhaps_goes (on property_on) (on (is T.Assign)) valued_form (within (is T.Assign) property_on refl) (both_goes (on property_on) (word T.Assign) expr_form expr_goes_property)

abbrev pub type_initial_form : Form Leaf (TypeName × Option (Leaf × Expr))
type_initial_form = both type_form initial_rule

pub type_initial_joins : Joins type_form initial_rule
type_initial_joins = record { follows = ended_follows type_form initial_rule (λ x t. refl); one = type_one; some = perhaps_some (on (is T.Assign)) valued_form }

pub type_initial_some : Begins type_initial_form []
type_initial_some = both_some type_form initial_rule type_some (perhaps_some (on (is T.Assign)) valued_form)

typed_rule_begun : StartsWithin (on (is T.Colon)) typed_rule
typed_rule_begun = both_begun (on (is T.Colon)) (word T.Colon) type_initial_form (token_begun (on (is T.Colon)))

pub stored_choices : Choices (on (is T.Colon)) (on (is T.Assign)) typed_rule inferred_rule
stored_choices = record { left = typed_rule_begun; right = valued_begun; apart = apart (is T.Colon) (is T.Assign) refl }

pub stored_value_one : IsUnambiguous stored_value_form
stored_value_one = shown_is_one stored_value_shows (choice_is_one stored_choices (behind_token_one (on (is T.Colon)) type_initial_form (joined_one type_initial_joins (optional_one initial_optional))) valued_one)

stored_value_goes : ContinuesWith (on property_on) stored_value_form
stored_value_goes = shown_goes (on property_on) stored_value_shows (either_goes (on property_on) typed_rule inferred_rule (both_goes (on property_on) (word T.Colon) type_initial_form (both_goes (on property_on) type_form initial_rule initial_goes)) (both_goes (on property_on) (word T.Assign) expr_form expr_goes_property))

pub stored_value_some : Begins stored_value_form []
stored_value_some = shown_begins stored_value_shows (record { tree = inr valued_some.tree; more = valued_some.more; right = valued_some.right; spelled = valued_some.spelled })

abbrev pub typed_body_form : Form Leaf (TypeName × Block)
typed_body_form = both type_form block_form

pub type_body_joins : Joins type_form block_form
type_body_joins = record { follows = ended_follows type_form block_form (λ x t. refl); one = type_one; some = block_some }

pub typed_body_some : Begins typed_body_form []
typed_body_some = both_some type_form block_form type_some block_some

abbrev pub colon_body_form : Form Leaf (Leaf × (TypeName × Block))
colon_body_form = both (word T.Colon) typed_body_form

pub colon_body_some : Begins colon_body_form []
colon_body_some = both_some (word T.Colon) typed_body_form (some_token (is T.Colon) false T.Colon refl) typed_body_some

abbrev pub computed_name_form : Form Leaf (Leaf × (Leaf × (TypeName × Block)))
computed_name_form = both (word T.Identifier) colon_body_form

pub computed_name_some : Begins computed_name_form []
computed_name_some = both_some (word T.Identifier) colon_body_form (some_token (is T.Identifier) false T.Identifier refl) colon_body_some

pub computed_one : IsUnambiguous computed_form
computed_one = shown_is_one computed_shows (behind_token_one (on (is T.Var)) computed_name_form (behind_token_one (on (is T.Identifier)) colon_body_form (behind_token_one (on (is T.Colon)) typed_body_form (joined_one type_body_joins block_one))))

pub computed_begun : StartsWithin (on (is T.Var)) computed_form
computed_begun = shown_begun (on (is T.Var)) computed_shows (both_begun (on (is T.Var)) (word T.Var) computed_name_form (token_begun (on (is T.Var))))

pub computed_ends : (x : Computed) (t : Leaf) → computed_form.continues x t ≡ false
computed_ends = shown_ends computed_shows (λ p t. block_ends p.1.1.1.1 t)

-- ---- members of a struct

pub body_choices : Choices (on (is T.Assign)) (on (is T.LeftBrace)) valued_form block_form
body_choices = record { left = valued_begun; right = block_begun; apart = apart (is T.Assign) (is T.LeftBrace) refl }

value_or_body_goes : ContinuesWith (on property_on) value_or_body_form
value_or_body_goes = either_goes (on property_on) valued_form block_form (both_goes (on property_on) (word T.Assign) expr_form expr_goes_property) (ends_goes (on property_on) block_form block_ends)

pub var_tail_optional : Optional (on begins_tail) value_or_body_form
var_tail_optional = record { begun = choice_begun body_choices; one = choice_is_one body_choices valued_one block_one }

pub var_type_joins : Joins type_form var_tail_form
var_type_joins = record { follows = ended_follows type_form var_tail_form (λ x t. refl); one = type_one; some = perhaps_some (on begins_tail) value_or_body_form }

abbrev pub type_tail_form : Form Leaf (TypeName × VarTail)
type_tail_form = both type_form var_tail_form

pub type_tail_some : Begins type_tail_form []
type_tail_some = both_some type_form var_tail_form type_some (perhaps_some (on begins_tail) value_or_body_form)

var_typed_begun : StartsWithin (on (is T.Colon)) var_typed_form
var_typed_begun = both_begun (on (is T.Colon)) (word T.Colon) type_tail_form (token_begun (on (is T.Colon)))

pub var_choices : Choices (on (is T.Colon)) (on (is T.Assign)) var_typed_form valued_form
var_choices = record { left = var_typed_begun; right = valued_begun; apart = apart (is T.Colon) (is T.Assign) refl }

pub var_rest_some : Begins var_rest_form []
var_rest_some = record { tree = inr valued_some.tree; more = valued_some.more; right = valued_some.right; spelled = valued_some.spelled }

var_rest_one : IsUnambiguous var_rest_form
var_rest_one = choice_is_one var_choices (behind_token_one (on (is T.Colon)) type_tail_form (joined_one var_type_joins (optional_one var_tail_optional))) valued_one

var_rest_goes : ContinuesWith (on property_on) var_rest_form
var_rest_goes = either_goes (on property_on) var_typed_form valued_form
    (both_goes (on property_on) (word T.Colon) type_tail_form (both_goes (on property_on) type_form var_tail_form (perhaps_goes (on property_on) (on begins_tail) value_or_body_form (within begins_tail property_on refl) value_or_body_goes)))
    (both_goes (on property_on) (word T.Assign) expr_form expr_goes_property)

abbrev pub var_name_form : Form Leaf (Leaf × (VarTyped ⊎ (Leaf × Expr)))
var_name_form = both (word T.Identifier) var_rest_form

pub var_name_some : Begins var_name_form []
var_name_some = both_some (word T.Identifier) var_rest_form (some_token (is T.Identifier) false T.Identifier refl) var_rest_some

abbrev pub let_name_form : Form Leaf (Leaf × StoredValue)
let_name_form = both (word T.Identifier) stored_value_form

pub let_name_some : Begins let_name_form []
let_name_some = both_some (word T.Identifier) stored_value_form (some_token (is T.Identifier) false T.Identifier refl) stored_value_some

let_begun : StartsWithin (on (is T.Let)) let_form
let_begun = both_begun (on (is T.Let)) (word T.Let) let_name_form (token_begun (on (is T.Let)))

var_begun : StartsWithin (on (is T.Var)) var_form
var_begun = both_begun (on (is T.Var)) (word T.Var) var_name_form (token_begun (on (is T.Var)))

pub var_func_choices : Choices (on (is T.Var)) (on (is T.Func)) var_form func_form
var_func_choices = record { left = var_begun; right = func_begun; apart = apart (is T.Var) (is T.Func) refl }

abbrev pub at_var : Test
at_var = or (is T.Var) (is T.Func)

pub struct_member_choices : Choices (on (is T.Let)) (on at_var) let_form (either var_form func_form)
struct_member_choices = record { left = let_begun; right = choice_begun var_func_choices; apart = apart (is T.Let) at_var refl }

abbrev pub at_let : Test
at_let = or (is T.Let) at_var

pub struct_member_one : IsUnambiguous struct_member_form
struct_member_one = shown_is_one struct_member_shows (choice_is_one struct_member_choices (behind_token_one (on (is T.Let)) let_name_form (behind_token_one (on (is T.Identifier)) stored_value_form stored_value_one))
    (choice_is_one var_func_choices (behind_token_one (on (is T.Var)) var_name_form (behind_token_one (on (is T.Identifier)) var_rest_form var_rest_one)) func_one))

pub struct_member_begun : StartsWithin (on at_let) struct_member_form
struct_member_begun = shown_begun (on at_let) struct_member_shows (choice_begun struct_member_choices)

pub struct_member_goes : ContinuesWith (on property_on) struct_member_form
struct_member_goes = shown_goes (on property_on) struct_member_shows
    (either_goes (on property_on) let_form (either var_form func_form) (both_goes (on property_on) (word T.Let) let_name_form (both_goes (on property_on) (word T.Identifier) stored_value_form stored_value_goes))
    (either_goes (on property_on) var_form func_form (both_goes (on property_on) (word T.Var) var_name_form (both_goes (on property_on) (word T.Identifier) var_rest_form var_rest_goes)) (ends_goes (on property_on) func_form func_ends)))

new_let : Leaf
new_let = sample true T.Let

new_let_is : on (is T.Let) new_let ≡ true
unfolding new_let
new_let_is = sample_on (is T.Let) true T.Let refl

new_let_member : on (on_new_line begins_struct_member) new_let ≡ true
unfolding new_let
new_let_member = sample_on (on_new_line begins_struct_member) true T.Let refl

struct_member_stands : Stands (on (on_new_line begins_struct_member)) struct_member_form
struct_member_stands = stands_shown (on (on_new_line begins_struct_member)) struct_member_shows (stands_left (on (on_new_line begins_struct_member)) (either var_form func_form) (stands_token (on (is T.Let)) (on (on_new_line begins_struct_member)) new_let new_let_is new_let_member let_name_some))

abbrev pub struct_line_form : Form Leaf (Option Access × StructMember)
struct_line_form = with_access struct_member_form

pub struct_line_joins : Joins access_rule struct_member_form
struct_line_joins = record { follows = access_follows at_let struct_member_form refl struct_member_begun; one = optional_one access_optional; some = stands_begins struct_member_stands }

pub struct_line_begun : StartsWithin (on begins_struct_member) struct_line_form
struct_line_begun = weaker_begun (on (or is_access at_let)) (on begins_struct_member) struct_line_form (within (or is_access at_let) begins_struct_member refl) (optional_begun (on is_access) (on is_access) (on at_let) access_form struct_member_form access_begun struct_member_begun)

struct_line_goes : ContinuesWith (on property_on) struct_line_form
struct_line_goes = both_goes (on property_on) access_rule struct_member_form struct_member_goes

struct_line_stands : Stands (on (on_new_line begins_struct_member)) struct_line_form
struct_line_stands = stands_without (on (on_new_line begins_struct_member)) (on is_access) access_form struct_member_stands

pub struct_lines : LineRules (on begins_struct_member) (on (on_new_line begins_struct_member)) struct_line_form
struct_lines = record {
  begun = struct_line_begun;
  apart = goes_apart (on (on_new_line begins_struct_member)) (on property_on) struct_line_form struct_line_goes (apart (on_new_line begins_struct_member) property_on refl);
  one = joined_one struct_line_joins struct_member_one;
  some = struct_line_stands.tree;
  later = stands_later (on (on_new_line begins_struct_member)) struct_line_stands;
}

abbrev pub struct_members_form : Form Leaf StructMembers
struct_members_form = lines (on begins_struct_member) (on (on_new_line begins_struct_member)) struct_line_form

abbrev members_on : Test
members_on = or begins_struct_member property_on

struct_members_goes : ContinuesWith (on members_on) struct_members_form
struct_members_goes = lines_goes (on members_on) (on begins_struct_member) (on (on_new_line begins_struct_member)) struct_line_form (within begins_struct_member members_on refl) (within (on_new_line begins_struct_member) members_on refl) (goes_more (on property_on) (on members_on) struct_line_form struct_line_goes (within property_on members_on refl))

brace_some : Begins (word T.RightBrace) []
brace_some = some_token (is T.RightBrace) true T.RightBrace refl

pub struct_members_joins : Joins struct_members_form (word T.RightBrace)
struct_members_joins = record { follows = begun_follows (on (is T.RightBrace)) struct_members_form (word T.RightBrace) (token_begun (on (is T.RightBrace))) (goes_apart (on (is T.RightBrace)) (on members_on) struct_members_form struct_members_goes (apart (is T.RightBrace) members_on refl)); one = lines_is_one struct_lines; some = brace_some }

abbrev pub struct_inside_form : Form Leaf (StructMembers × Leaf)
struct_inside_form = both struct_members_form (word T.RightBrace)

pub struct_inside_some : Begins struct_inside_form []
struct_inside_some = both_some struct_members_form (word T.RightBrace) (lines_some (on begins_struct_member) (on (on_new_line begins_struct_member)) struct_line_form) brace_some

abbrev pub struct_body_form : Form Leaf (Leaf × (StructMembers × Leaf))
struct_body_form = both (word T.LeftBrace) struct_inside_form

pub struct_body_some : Begins struct_body_form []
struct_body_some = both_some (word T.LeftBrace) struct_inside_form (some_token (is T.LeftBrace) false T.LeftBrace refl) struct_inside_some

abbrev pub struct_name_form : Form Leaf (Leaf × (Leaf × (StructMembers × Leaf)))
struct_name_form = both (word T.Identifier) struct_body_form

pub struct_name_some : Begins struct_name_form []
struct_name_some = both_some (word T.Identifier) struct_body_form (some_token (is T.Identifier) false T.Identifier refl) struct_body_some

pub struct_one : IsUnambiguous struct_form
struct_one = shown_is_one struct_shows (behind_token_one (on (is T.Struct)) struct_name_form (behind_token_one (on (is T.Identifier)) struct_body_form (behind_token_one (on (is T.LeftBrace)) struct_inside_form (joined_one struct_members_joins (token_is_one (on (is T.RightBrace)))))))

pub struct_begun : StartsWithin (on (is T.Struct)) struct_form
struct_begun = shown_begun (on (is T.Struct)) struct_shows (both_begun (on (is T.Struct)) (word T.Struct) struct_name_form (token_begun (on (is T.Struct))))

pub struct_ends : (x : Struct) (t : Leaf) → struct_form.continues x t ≡ false
struct_ends = shown_ends struct_shows (λ p t. refl)

-- ---- extensions

pub extension_member_choices : Choices (on (is T.Var)) (on (is T.Func)) computed_form func_form
extension_member_choices = record { left = computed_begun; right = func_begun; apart = apart (is T.Var) (is T.Func) refl }

pub extension_member_one : IsUnambiguous extension_member_form
extension_member_one = shown_is_one extension_member_shows (choice_is_one extension_member_choices computed_one func_one)

pub extension_member_begun : StartsWithin (on at_var) extension_member_form
extension_member_begun = shown_begun (on at_var) extension_member_shows (choice_begun extension_member_choices)

pub extension_member_ends : (x : ExtensionMember) (t : Leaf) → extension_member_form.continues x t ≡ false
extension_member_ends = shown_ends extension_member_shows (either_ends computed_form func_form computed_ends func_ends)

new_func : Leaf
new_func = sample true T.Func

new_func_is : on (is T.Func) new_func ≡ true
unfolding new_func
new_func_is = sample_on (is T.Func) true T.Func refl

new_func_member : on (on_new_line begins_extension_member) new_func ≡ true
unfolding new_func
new_func_member = sample_on (on_new_line begins_extension_member) true T.Func refl

new_func_decl : on begins_next_decl new_func ≡ true
unfolding new_func
new_func_decl = sample_on begins_next_decl true T.Func refl

-- a function on a line of its own
func_stands : (next : Leaf → Bool) → next new_func ≡ true → Stands next func_form
func_stands next m = stands_shown next func_shows (stands_token (on (is T.Func)) next new_func new_func_is m func_name_some)

extension_member_stands : Stands (on (on_new_line begins_extension_member)) extension_member_form
extension_member_stands = stands_shown (on (on_new_line begins_extension_member)) extension_member_shows (stands_right (on (on_new_line begins_extension_member)) computed_form (func_stands (on (on_new_line begins_extension_member)) new_func_member))

abbrev pub extension_line_form : Form Leaf (Option Access × ExtensionMember)
extension_line_form = with_access extension_member_form

pub extension_line_joins : Joins access_rule extension_member_form
extension_line_joins = record { follows = access_follows at_var extension_member_form refl extension_member_begun; one = optional_one access_optional; some = stands_begins extension_member_stands }

pub extension_line_begun : StartsWithin (on begins_extension_member) extension_line_form
extension_line_begun = weaker_begun (on (or is_access at_var)) (on begins_extension_member) extension_line_form (within (or is_access at_var) begins_extension_member refl) (optional_begun (on is_access) (on is_access) (on at_var) access_form extension_member_form access_begun extension_member_begun)

extension_line_ends : (x : Option Access × ExtensionMember) (t : Leaf) → extension_line_form.continues x t ≡ false
extension_line_ends x t = extension_member_ends x.1 t

extension_line_stands : Stands (on (on_new_line begins_extension_member)) extension_line_form
extension_line_stands = stands_without (on (on_new_line begins_extension_member)) (on is_access) access_form extension_member_stands

pub extension_lines : LineRules (on begins_extension_member) (on (on_new_line begins_extension_member)) extension_line_form
extension_lines = record {
  begun = extension_line_begun;
  apart = ends_apart (on (on_new_line begins_extension_member)) extension_line_form extension_line_ends;
  one = joined_one extension_line_joins extension_member_one;
  some = extension_line_stands.tree;
  later = stands_later (on (on_new_line begins_extension_member)) extension_line_stands;
}

abbrev pub extension_members_form : Form Leaf ExtensionMembers
extension_members_form = lines (on begins_extension_member) (on (on_new_line begins_extension_member)) extension_line_form

extension_members_goes : ContinuesWith (on begins_extension_member) extension_members_form
extension_members_goes = lines_goes (on begins_extension_member) (on begins_extension_member) (on (on_new_line begins_extension_member)) extension_line_form (λ t m. m) (within (on_new_line begins_extension_member) begins_extension_member refl) (ends_goes (on begins_extension_member) extension_line_form extension_line_ends)

pub extension_members_joins : Joins extension_members_form (word T.RightBrace)
extension_members_joins = record { follows = begun_follows (on (is T.RightBrace)) extension_members_form (word T.RightBrace) (token_begun (on (is T.RightBrace))) (goes_apart (on (is T.RightBrace)) (on begins_extension_member) extension_members_form extension_members_goes (apart (is T.RightBrace) begins_extension_member refl)); one = lines_is_one extension_lines; some = brace_some }

abbrev pub extension_inside_form : Form Leaf (ExtensionMembers × Leaf)
extension_inside_form = both extension_members_form (word T.RightBrace)

pub extension_inside_some : Begins extension_inside_form []
extension_inside_some = both_some extension_members_form (word T.RightBrace) (lines_some (on begins_extension_member) (on (on_new_line begins_extension_member)) extension_line_form) brace_some

abbrev pub extension_body_form : Form Leaf (Leaf × (ExtensionMembers × Leaf))
extension_body_form = both (word T.LeftBrace) extension_inside_form

pub extension_body_some : Begins extension_body_form []
extension_body_some = both_some (word T.LeftBrace) extension_inside_form (some_token (is T.LeftBrace) false T.LeftBrace refl) extension_inside_some

abbrev pub extension_name_form : Form Leaf (Leaf × (Leaf × (ExtensionMembers × Leaf)))
extension_name_form = both (word T.Identifier) extension_body_form

pub extension_name_some : Begins extension_name_form []
extension_name_some = both_some (word T.Identifier) extension_body_form (some_token (is T.Identifier) false T.Identifier refl) extension_body_some

pub extension_one : IsUnambiguous extension_form
extension_one = shown_is_one extension_shows (behind_token_one (on (is T.Extension)) extension_name_form (behind_token_one (on (is T.Identifier)) extension_body_form (behind_token_one (on (is T.LeftBrace)) extension_inside_form (joined_one extension_members_joins (token_is_one (on (is T.RightBrace)))))))

pub extension_begun : StartsWithin (on (is T.Extension)) extension_form
extension_begun = shown_begun (on (is T.Extension)) extension_shows (both_begun (on (is T.Extension)) (word T.Extension) extension_name_form (token_begun (on (is T.Extension))))

pub extension_ends : (x : Extension) (t : Leaf) → extension_form.continues x t ≡ false
extension_ends = shown_ends extension_shows (λ p t. refl)

-- ---- aliases

abbrev pub assign_type_form : Form Leaf (Leaf × TypeName)
assign_type_form = both (word T.Assign) type_form

pub assign_type_some : Begins assign_type_form []
assign_type_some = both_some (word T.Assign) type_form (some_token (is T.Assign) false T.Assign refl) type_some

abbrev pub alias_name_form : Form Leaf (Leaf × (Leaf × TypeName))
alias_name_form = both (word T.Identifier) assign_type_form

pub alias_name_some : Begins alias_name_form []
alias_name_some = both_some (word T.Identifier) assign_type_form (some_token (is T.Identifier) false T.Identifier refl) assign_type_some

pub alias_one : IsUnambiguous alias_form
alias_one = shown_is_one alias_shows (behind_token_one (on (is T.Typealias)) alias_name_form (behind_token_one (on (is T.Identifier)) assign_type_form (behind_token_one (on (is T.Assign)) type_form type_one)))

pub alias_begun : StartsWithin (on (is T.Typealias)) alias_form
alias_begun = shown_begun (on (is T.Typealias)) alias_shows (both_begun (on (is T.Typealias)) (word T.Typealias) alias_name_form (token_begun (on (is T.Typealias))))

pub alias_ends : (x : Alias) (t : Leaf) → alias_form.continues x t ≡ false
alias_ends = shown_ends alias_shows (λ p t. refl)

pub alias_some : Begins alias_form []
alias_some = shown_begins alias_shows (both_some (word T.Typealias) alias_name_form (some_token (is T.Typealias) false T.Typealias refl) alias_name_some)

-- ---- declarations

pub global_one : IsUnambiguous global_form
global_one = shown_is_one global_shows binding_one

pub global_begun : StartsWithin (on is_specifier) global_form
global_begun = shown_begun (on is_specifier) global_shows binding_begun

pub global_goes : ContinuesWith (on expr_on) global_form
global_goes = shown_goes (on expr_on) global_shows binding_goes

abbrev pub at_struct : Test
at_struct = or (is T.Struct) (is T.Typealias)

abbrev pub at_func : Test
at_func = or (is T.Func) at_struct

abbrev pub at_named : Test
at_named = or is_specifier at_func

pub struct_choices : Choices (on (is T.Struct)) (on (is T.Typealias)) struct_form alias_form
struct_choices = record { left = struct_begun; right = alias_begun; apart = apart (is T.Struct) (is T.Typealias) refl }

pub func_choices : Choices (on (is T.Func)) (on at_struct) func_form (either struct_form alias_form)
func_choices = record { left = func_begun; right = choice_begun struct_choices; apart = apart (is T.Func) at_struct refl }

pub global_choices : Choices (on is_specifier) (on at_func) global_form (either func_form (either struct_form alias_form))
global_choices = record { left = global_begun; right = choice_begun func_choices; apart = apart is_specifier at_func refl }

pub named_one : IsUnambiguous named_form
named_one = shown_is_one named_shows (choice_is_one global_choices global_one (choice_is_one func_choices func_one (choice_is_one struct_choices struct_one alias_one)))

pub named_begun : StartsWithin (on at_named) named_form
named_begun = shown_begun (on at_named) named_shows (choice_begun global_choices)

pub named_goes : ContinuesWith (on expr_on) named_form
named_goes = shown_goes (on expr_on) named_shows (either_goes (on expr_on) global_form (either func_form (either struct_form alias_form)) global_goes
    (either_goes (on expr_on) func_form (either struct_form alias_form) (ends_goes (on expr_on) func_form func_ends) (either_goes (on expr_on) struct_form alias_form (ends_goes (on expr_on) struct_form struct_ends) (ends_goes (on expr_on) alias_form alias_ends))))

named_stands : Stands (on begins_next_decl) named_form
named_stands = stands_shown (on begins_next_decl) named_shows (stands_right (on begins_next_decl) global_form (stands_left (on begins_next_decl) (either struct_form alias_form) (func_stands (on begins_next_decl) new_func_decl)))

abbrev pub access_named_form : Form Leaf (Option Access × NamedDecl)
access_named_form = with_access named_form

pub named_joins : Joins access_rule named_form
named_joins = record { follows = access_follows at_named named_form refl named_begun; one = optional_one access_optional; some = stands_begins named_stands }

abbrev pub at_access : Test
at_access = or is_access at_named

access_named_begun : StartsWithin (on at_access) access_named_form
access_named_begun = optional_begun (on is_access) (on is_access) (on at_named) access_form named_form access_begun named_begun

pub decl_choices : Choices (on at_access) (on (is T.Extension)) access_named_form extension_form
decl_choices = record { left = access_named_begun; right = extension_begun; apart = apart at_access (is T.Extension) refl }

pub decl_one : IsUnambiguous decl_form
decl_one = shown_is_one decl_shows (choice_is_one decl_choices (joined_one named_joins named_one) extension_one)

pub decl_begun : StartsWithin (on begins_decl) decl_form
decl_begun = shown_begun (on begins_decl) decl_shows (weaker_begun (on (or at_access (is T.Extension))) (on begins_decl) decl_rule (within (or at_access (is T.Extension)) begins_decl refl) (choice_begun decl_choices))

pub decl_goes : ContinuesWith (on expr_on) decl_form
decl_goes = shown_goes (on expr_on) decl_shows (either_goes (on expr_on) access_named_form extension_form (both_goes (on expr_on) access_rule named_form named_goes) (ends_goes (on expr_on) extension_form extension_ends))

-- some declaration on a line of its own
pub decl_stands : Stands (on begins_next_decl) decl_form
decl_stands = stands_shown (on begins_next_decl) decl_shows (stands_left (on begins_next_decl) extension_form (stands_without (on begins_next_decl) (on is_access) access_form named_stands))

abbrev pub next_decl_form : Form Leaf Decl
next_decl_form = beginning (on begins_next_decl) decl_form

-- ---- files

pub decls_rows : Rows (on begins_next_decl) next_decl_form
decls_rows = record {
  begun = beginning_begun (on begins_next_decl) decl_form;
  apart = goes_apart (on begins_next_decl) (on expr_on) decl_form decl_goes (apart begins_next_decl expr_on refl);
  one = one_of_any next_decl_form (λ n. beginning_one (on begins_next_decl) decl_form n (one_to decl_form decl_one n));
}

-- a list of tokens is one list of declarations
pub decls_one : IsUnambiguous decls_form
decls_one = rows_one decls_rows
