-- What each function of a parser of declarations owes at its exits: a tree that is taken, or the first fault.
use Rattle.std.proofs.Common.{◌≡◌, Bool, true, false, ◌||◌, List, [], ◌∷◌, ◌++◌, Option, Some, None, refl, sym, ap, subst, ◌⊎◌, inl, inr}
use Rattle.std.proofs.lemmas.Bool.{and_parts, and_from, false≢true}
use Rattle.grammar.specs.Forms.{Form, nothing, begins_by, token, both, either}
use Rattle.grammar.specs.Faults.{Stops, StartsAs, Parsed, Refuses, FailsAt, Begins}
use Rattle.grammar.proofs.Basics.{taken_ended, taken_nothing, begins_at, begins_left, begins_stops, both_false, apart_stops, not_true, stops_as, stops_behind, stops_or, stops_nothing, head_of, none_left}
use Rattle.grammar.proofs.Sequences.{took, token_taken, first, behind, behind_token, taken_both, taken_token, token_joins, token_peeled, both_on_first_refused, both_on_refused, both_on_taken}
use Rattle.grammar.proofs.Rows.{TrailTaken, chain_trails, trail_begun, trail_done, trail_first, chain_later, chain_pushed, RowTaken, row_none, row_pushed, row_done, row_later}
use Rattle.grammar.proofs.Options.{left_out, put_in, perhaps_refused, beginning_refused, beginning_taken}
use Rattle.grammar.proofs.Choices.{choice_left, choice_right, choice_took_left, choice_took_right}
use Rattle.grammar.proofs.Lines.{stands_later}
use Rattle.grammar.proofs.Shown.{shown_took, shown_refused, shown_refused_back, shows_first}
use Rattle.swift_ast.specs.declared.terminals.Terminal.TheVariants as T
use Rattle.swift_ast.specs.declared.expressions.Expr.{Expr}
use Rattle.swift_ast.specs.declared.statements.BindingSpecifier.{BindingSpecifier}
use Rattle.swift_ast.specs.declared.statements.BindingSpecifier.TheVariants as specifier
use Rattle.swift_ast.specs.declared.statements.TypeName.{TypeName}
use Rattle.swift_ast.specs.declared.statements.Block.{Block}
use Rattle.swift_ast.specs.declared.declarations.Decl.{Decl}
use Rattle.swift_ast.specs.declared.declarations.Decl.TheVariants as decl
use Rattle.swift_ast.specs.declared.declarations.NamedDecl.{NamedDecl}
use Rattle.swift_ast.specs.declared.declarations.NamedDecl.TheVariants as named
use Rattle.swift_ast.specs.declared.declarations.Access.{Access}
use Rattle.swift_ast.specs.declared.declarations.Global.{Global}
use Rattle.swift_ast.specs.declared.declarations.Func.{Func}
use Rattle.swift_ast.specs.declared.declarations.Param.{Param}
use Rattle.swift_ast.specs.declared.declarations.Struct.{Struct}
use Rattle.swift_ast.specs.declared.declarations.StructMember.{StructMember}
use Rattle.swift_ast.specs.declared.declarations.StructMember.TheVariants as member
use Rattle.swift_ast.specs.declared.declarations.Stored.{Stored}
use Rattle.swift_ast.specs.declared.declarations.StoredValue.{StoredValue}
use Rattle.swift_ast.specs.declared.declarations.StoredValue.TheVariants.{Typed, Inferred}
use Rattle.swift_ast.specs.declared.declarations.Computed.{Computed}
use Rattle.swift_ast.specs.declared.declarations.Extension.{Extension}
use Rattle.swift_ast.specs.declared.declarations.ExtensionMember.{ExtensionMember}
use Rattle.swift_ast.specs.declared.declarations.ExtensionMember.TheVariants as extended
use Rattle.swift_ast.specs.declared.declarations.Alias.{Alias}
use Rattle.swift_ast.specs.Leaves.{Leaf}
use Rattle.swift_ast.specs.Tests.{on, is, is_specifier, is_access, is_label, begins_decl, begins_next_decl}
use Rattle.swift_ast.specs.Expressions.{word, expr_form}
use Rattle.swift_ast.specs.Statements.{type_form, specifier_form, block_form}
use Rattle.swift_ast.specs.Declarations.{access_form, global_form, param_form, params_rule, result_rule, func_form, initial_rule, typed_rule, inferred_rule, stored_value_form, stored_form, computed_form, struct_member_form, struct_form, extension_member_form, extension_form, alias_form, named_form, decl_form, decls_form}
use Rattle.swift_ast.proofs.TestFacts.{apart, within, begins_apart, stops_within, stops_either}
use Rattle.swift_ast.proofs.ExpressionLaws.{expr_some}
use Rattle.swift_ast.proofs.StatementShows.{specifier_shows, valued_form}
use Rattle.swift_ast.proofs.StatementLaws.{type_some, valued_begun, valued_some, block_some, block_begun, block_ends}
use Rattle.swift_ast.proofs.DeclarationShows.{TypedParts, typed_form, name_typed_form, tail_right, tail_form, param_words, param_made, param_shows, ParamList, param_list_form, func_made, func_shows, stored_value_shows, computed_made, computed_shows, VarTail, begins_tail, value_or_body_form, var_tail_form, var_typed_form, var_rest_form, var_form, let_form, struct_member_made, struct_member_shows, stored_of, stored_shows, StructMembers, ExtensionMembers, struct_made, struct_shows, extension_made, extension_shows, alias_made, alias_shows, extension_member_shows, named_shows, decl_shows}
use Rattle.swift_ast.proofs.DeclarationLaws.{access_ends, access_rule, typed_some, name_typed_some, tail_choices, tail_follows, label_begins, param_chains, params_joins, closed_form, closed_some, params_closed_form, params_closed_some, opened_form, opened_some, func_name_form, func_name_some, result_joins, result_body_form, result_body_some, type_initial_joins, type_initial_form, type_initial_some, stored_choices, type_body_joins, typed_body_form, typed_body_some, colon_body_form, colon_body_some, computed_name_form, computed_name_some, body_choices, var_type_joins, type_tail_form, type_tail_some, var_choices, var_rest_some, var_name_form, var_name_some, let_name_form, let_name_some, var_func_choices, struct_member_choices, at_var, at_let, struct_line_form, struct_line_joins, struct_lines, struct_members_form, struct_members_joins, struct_inside_form, struct_inside_some, struct_body_form, struct_body_some, struct_name_form, struct_name_some, extension_member_choices, extension_line_form, extension_line_joins, extension_lines, extension_members_form, extension_members_joins, extension_inside_form, extension_inside_some, extension_body_form, extension_body_some, extension_name_form, extension_name_some, assign_type_form, assign_type_some, alias_name_form, alias_name_some, alias_some, global_choices, func_choices, struct_choices, at_struct, at_func, at_named, access_named_form, named_joins, at_access, decl_choices, decl_stands, decl_begun, next_decl_form, decls_rows}

-- ---- access

pub access_out : (old : List Leaf) → Stops (on is_access) old → Parsed access_rule None (access_rule.continues None) old old
access_out old s = left_out (on is_access) access_form old s

pub access_in : {a : Access} {old new : List Leaf} → Parsed access_form a nothing old new → Parsed access_rule (Some a) (access_rule.continues (Some a)) old new
access_in {a} {old} {new} t = put_in (on is_access) access_form a old new (taken_ended access_ends t)

-- ---- parameters

label_or_at : (a b : Bool) → (a || (b || false)) ≡ true → a ≡ false → b ≡ true
label_or_at true b m n = absurd (false≢true (sym n))
label_or_at false true m n = refl
label_or_at false false m n = m

label_or : (t : Leaf) → on is_label t ≡ true → on (is T.Identifier) t ≡ false → on (is T.Wildcard) t ≡ true
label_or t m n = label_or_at (on (is T.Identifier) t) (on (is T.Wildcard) t) m n

label_case : (before new : List Leaf) → Stops (on (is T.Wildcard)) (before ++ new) → Refuses (word T.Identifier) before new → (t : Leaf) (v w : List Leaf) (b : Bool) → on (is T.Identifier) t ≡ b → on is_label t ≡ true → StartsAs new v → t ∷ w ≡ before ++ v → ⊥
label_case before new s r t v w true i m sv e = r t v w i sv (stops_nothing w) e
label_case before new s r t v w false i m sv e = begins_stops (on (is T.Wildcard)) (before ++ v) (begins_at (on (is T.Wildcard)) (t ∷ w) (before ++ v) e (label_or t m i)) (stops_behind (on (is T.Wildcard)) before new v sv s)

-- a label or a name is wanted
label_refuses : (before new : List Leaf) → Stops (on (is T.Wildcard)) (before ++ new) → Refuses (word T.Identifier) before new → (t : Leaf) (v w : List Leaf) → on is_label t ≡ true → StartsAs new v → t ∷ w ≡ before ++ v → ⊥
label_refuses before new s r t v w m sv e = label_case before new s r t v w (on (is T.Identifier) t) refl m sv e

pub label_refused : {old new : List Leaf} → Stops (on (is T.Wildcard)) old → FailsAt (word T.Identifier) old new → FailsAt (token (on is_label)) old new
label_refused {old} {new} s r = record {
  before = r.before;
  spelled = r.spelled;
  refuses = λ t v w m sv sw e. label_refuses r.before new (subst (λ ts. Stops (on (is T.Wildcard)) ts) r.spelled s) r.refuses t v w m sv e;
  begins = record { tree = r.begins.tree; more = r.begins.more; right = within (is T.Identifier) is_label refl r.begins.tree r.begins.right; spelled = r.begins.spelled };
}

pub param_unnamed : {old new : List Leaf} → Stops (on (is T.Wildcard)) old → FailsAt (word T.Identifier) old new → FailsAt param_form old new
param_unnamed {old} {new} s r = shown_refused param_shows (both_on_first_refused (token (on is_label)) tail_form old new tail_follows label_begins (label_refused s r))

behind_label : (t : Leaf) {old new : List Leaf} → on is_label t ≡ true → FailsAt (tail_form t) old new → FailsAt param_form (t ∷ old) new
behind_label t {old} {new} m r = shown_refused param_shows (both_on_refused (token (on is_label)) tail_form t (t ∷ old) old new tail_follows (Rattle.grammar.proofs.Sequences.token_is_one (on is_label)) (took (on is_label) t old m) r)

-- what may stand behind a label or a name
named_refuses : (t : Leaf) (before new : List Leaf) → on (is T.Identifier) t ≡ false → Refuses name_typed_form before new → (y : (Leaf × TypedParts) ⊎ TypedParts) (v w : List Leaf) → tail_right t y ≡ true → StartsAs new v → Stops ((tail_form t).continues y) w → (tail_form t).tokens y ++ w ≡ before ++ v → ⊥
named_refuses t before new n r (inl y) v w ry sv sw e = r y v w ry sv sw e
named_refuses t before new n r (inr y) v w ry sv sw e = both_false (on (is T.Identifier) t) n ((and_parts (on (is T.Identifier) t) (typed_form.is_well_formed y) ry).0)

tail_of_named : (t : Leaf) {old new : List Leaf} → on (is T.Identifier) t ≡ false → FailsAt name_typed_form old new → FailsAt (tail_form t) old new
tail_of_named t {old} {new} n r = record { before = r.before; spelled = r.spelled; refuses = named_refuses t r.before new n r.refuses; begins = record { tree = inl r.begins.tree; more = r.begins.more; right = r.begins.right; spelled = r.begins.spelled } }

begun_refuses : (t : Leaf) (before new : List Leaf) → Stops (on (is T.Colon)) (before ++ new) → Refuses name_typed_form before new → (y : (Leaf × TypedParts) ⊎ TypedParts) (v w : List Leaf) → tail_right t y ≡ true → StartsAs new v → Stops ((tail_form t).continues y) w → (tail_form t).tokens y ++ w ≡ before ++ v → ⊥
begun_refuses t before new s r (inl y) v w ry sv sw e = r y v w ry sv sw e
begun_refuses t before new s r (inr y) v w ry sv sw e = begins_stops (on (is T.Colon)) (before ++ v) (begins_at (on (is T.Colon)) (typed_form.tokens y ++ w) (before ++ v) e ((and_parts (on (is T.Colon) y.0) (type_form.is_well_formed y.1) ((and_parts (on (is T.Identifier) t) (typed_form.is_well_formed y) ry).1)).0)) (stops_behind (on (is T.Colon)) before new v sv s)

tail_of_begun : (t : Leaf) {old new : List Leaf} → begins_by (on (is T.Identifier)) old ≡ true → FailsAt name_typed_form old new → FailsAt (tail_form t) old new
tail_of_begun t {old} {new} h r = record { before = r.before; spelled = r.spelled; refuses = begun_refuses t r.before new (subst (λ ts. Stops (on (is T.Colon)) ts) r.spelled (begins_apart (is T.Identifier) (is T.Colon) old refl h)) r.refuses; begins = record { tree = inl r.begins.tree; more = r.begins.more; right = r.begins.right; spelled = r.begins.spelled } }

typed_refuses : (t : Leaf) (before new : List Leaf) → Stops (on (is T.Identifier)) (before ++ new) → Refuses typed_form before new → (y : (Leaf × TypedParts) ⊎ TypedParts) (v w : List Leaf) → tail_right t y ≡ true → StartsAs new v → Stops ((tail_form t).continues y) w → (tail_form t).tokens y ++ w ≡ before ++ v → ⊥
typed_refuses t before new s r (inl y) v w ry sv sw e = begins_stops (on (is T.Identifier)) (before ++ v) (begins_at (on (is T.Identifier)) (name_typed_form.tokens y ++ w) (before ++ v) e ((and_parts (on (is T.Identifier) y.0) (typed_form.is_well_formed y.1) ry).0)) (stops_behind (on (is T.Identifier)) before new v sv s)
typed_refuses t before new s r (inr y) v w ry sv sw e = r y v w ((and_parts (on (is T.Identifier) t) (typed_form.is_well_formed y) ry).1) sv sw e

tail_of_typed : (t : Leaf) {old new : List Leaf} → on (is T.Identifier) t ≡ true → Stops (on (is T.Identifier)) old → FailsAt typed_form old new → FailsAt (tail_form t) old new
tail_of_typed t {old} {new} m s r = record { before = r.before; spelled = r.spelled; refuses = typed_refuses t r.before new (subst (λ ts. Stops (on (is T.Identifier)) ts) r.spelled s) r.refuses; begins = record { tree = inr r.begins.tree; more = r.begins.more; right = and_from (on (is T.Identifier) t) (typed_form.is_well_formed r.begins.tree) m r.begins.right; spelled = r.begins.spelled } }

label_then : (t : Leaf) {y : Leaf × TypedParts} {old new : List Leaf} → on is_label t ≡ true → Parsed name_typed_form y nothing old new → Parsed param_words (t, inl y) (param_words.continues (t, inl y)) (t ∷ old) new
label_then t {y} {old} {new} m u = record { spelled = ap (λ ts. t ∷ ts) u.spelled; right = and_from (on is_label t) (name_typed_form.is_well_formed y) m u.right; stops = stops_nothing new }

name_then : (t : Leaf) {y : TypedParts} {old new : List Leaf} → on (is T.Identifier) t ≡ true → Parsed typed_form y nothing old new → Parsed param_words (t, inr y) (param_words.continues (t, inr y)) (t ∷ old) new
name_then t {y} {old} {new} m u = record { spelled = ap (λ ts. t ∷ ts) u.spelled; right = and_from (on is_label t) _ (within (is T.Identifier) is_label refl t m) (and_from (on (is T.Identifier) t) (typed_form.is_well_formed y) m u.right); stops = stops_nothing new }

-- behind `_` stands no name
pub param_no_name : (t : Leaf) {old new : List Leaf} → on (is T.Wildcard) t ≡ true → FailsAt (word T.Identifier) old new → FailsAt param_form (t ∷ old) new
param_no_name t {old} {new} m r = behind_label t (within (is T.Wildcard) is_label refl t m) (tail_of_named t (apart (is T.Wildcard) (is T.Identifier) refl t m) (first (token_joins (on (is T.Identifier)) typed_form typed_some) r))

-- behind a label and a name
labelled_refused : (t n : Leaf) {old new : List Leaf} → on is_label t ≡ true → on (is T.Identifier) n ≡ true → FailsAt typed_form old new → FailsAt param_form (t ∷ (n ∷ old)) new
labelled_refused t n {old} {new} m k r = behind_label t m (tail_of_begun t k (behind_token (on (is T.Identifier)) n k r))

-- behind a name alone
plain_refused : (n : Leaf) {old new : List Leaf} → on (is T.Identifier) n ≡ true → Stops (on (is T.Identifier)) old → FailsAt typed_form old new → FailsAt param_form (n ∷ old) new
plain_refused n {old} {new} k s r = behind_label n (within (is T.Identifier) is_label refl n k) (tail_of_typed n k s r)

pub param_labelled_no_colon : (t n : Leaf) {old new : List Leaf} → on is_label t ≡ true → on (is T.Identifier) n ≡ true → FailsAt (word T.Colon) old new → FailsAt param_form (t ∷ (n ∷ old)) new
param_labelled_no_colon t n {old} {new} m k r = labelled_refused t n m k (first (token_joins (on (is T.Colon)) type_form type_some) r)

pub param_labelled_no_type : (t n : Leaf) {c : Leaf} {old mid new : List Leaf} → on is_label t ≡ true → on (is T.Identifier) n ≡ true → Parsed (word T.Colon) c nothing old mid → FailsAt type_form mid new → FailsAt param_form (t ∷ (n ∷ old)) new
param_labelled_no_type t n {c} {old} {mid} {new} m k u r = labelled_refused t n m k (behind (token_joins (on (is T.Colon)) type_form type_some) u r)

pub param_labelled_done : (t n : Leaf) {c : Leaf} {x : TypeName} {old mid new : List Leaf} → on is_label t ≡ true → on (is T.Identifier) n ≡ true → Parsed (word T.Colon) c nothing old mid → Parsed type_form x nothing mid new → Parsed param_form (param_made (t, inl (n, (c, x)))) (param_form.continues (param_made (t, inl (n, (c, x))))) (t ∷ (n ∷ old)) new
param_labelled_done t n {c} {x} {old} {mid} {new} m k u w = shown_took {y = (t, inl (n, (c, x)))} param_shows (label_then t m (taken_token (on (is T.Identifier)) n k (taken_both u w)))

pub param_plain_no_colon : (n : Leaf) {old new : List Leaf} → on (is T.Identifier) n ≡ true → Stops (on (is T.Identifier)) old → FailsAt (word T.Colon) old new → FailsAt param_form (n ∷ old) new
param_plain_no_colon n {old} {new} k s r = plain_refused n k s (first (token_joins (on (is T.Colon)) type_form type_some) r)

pub param_plain_no_type : (n : Leaf) {c : Leaf} {old mid new : List Leaf} → on (is T.Identifier) n ≡ true → Stops (on (is T.Identifier)) old → Parsed (word T.Colon) c nothing old mid → FailsAt type_form mid new → FailsAt param_form (n ∷ old) new
param_plain_no_type n {c} {old} {mid} {new} k s u r = plain_refused n k s (behind (token_joins (on (is T.Colon)) type_form type_some) u r)

pub param_plain_done : (n : Leaf) {c : Leaf} {x : TypeName} {old mid new : List Leaf} → on (is T.Identifier) n ≡ true → Parsed (word T.Colon) c nothing old mid → Parsed type_form x nothing mid new → Parsed param_form (param_made (n, inr (c, x))) (param_form.continues (param_made (n, inr (c, x)))) (n ∷ old) new
param_plain_done n {c} {x} {old} {mid} {new} k u w = shown_took {y = (n, inr (c, x))} param_shows (name_then n k (taken_both u w))

-- ---- lists of parameters

abbrev pub ParamsSo : Param × List (Leaf × Param) → List Leaf → List Leaf → Type 0
ParamsSo x old new = TrailTaken (on (is T.Comma)) param_form (both (word T.Comma) param_form) x old new

pub params_none : (old : List Leaf) → Stops (on is_label) old → Parsed params_rule None (params_rule.continues None) old old
params_none old s = left_out (on is_label) param_list_form old s

pub params_first : {old new : List Leaf} → begins_by (on is_label) old ≡ true → FailsAt param_form old new → FailsAt params_rule old new
params_first {old} {new} h r = perhaps_refused (on is_label) param_list_form old new h (trail_first (chain_trails param_chains) r)

pub params_begun_with : {x : Param} {old new : List Leaf} → Parsed param_form x (param_form.continues x) old new → ParamsSo (x, []) old new
params_begun_with {x} {old} {new} t = trail_begun (on (is T.Comma)) param_form (both (word T.Comma) param_form) t

pub params_later : (x : Param × List (Leaf × Param)) {o : Leaf} {old mid late new : List Leaf} → begins_by (on is_label) old ≡ true → ParamsSo x old mid → Parsed (word T.Comma) o nothing mid late → FailsAt param_form late new → FailsAt params_rule old new
params_later x {o} {old} {mid} {late} {new} h t u r = perhaps_refused (on is_label) param_list_form old new h (chain_later x param_chains t u r)

pub params_pushed : (x : Param × List (Leaf × Param)) {o : Leaf} {y : Param} {old mid late new : List Leaf} → ParamsSo x old mid → Parsed (word T.Comma) o nothing mid late → Parsed param_form y (param_form.continues y) late new → ParamsSo (x.0, x.1 ++ ((o, y) ∷ [])) old new
params_pushed x {o} {y} {old} {mid} {late} {new} t u w = chain_pushed x param_chains t u w

pub params_done : (x : Param × List (Leaf × Param)) {old new : List Leaf} → ParamsSo x old new → Stops (on (is T.Comma)) new → Parsed params_rule (Some x) (params_rule.continues (Some x)) old new
params_done x {old} {new} t s = put_in (on is_label) param_list_form x old new (trail_done (on (is T.Comma)) param_form (both (word T.Comma) param_form) x t s)

-- ---- results

pub result_none : (old : List Leaf) → Stops (on (is T.Arrow)) old → Parsed result_rule None (result_rule.continues None) old old
result_none old s = left_out (on (is T.Arrow)) (both (word T.Arrow) type_form) old s

pub result_refused : (t : Leaf) {old new : List Leaf} → on (is T.Arrow) t ≡ true → FailsAt type_form old new → FailsAt result_rule (t ∷ old) new
result_refused t {old} {new} m r = perhaps_refused (on (is T.Arrow)) (both (word T.Arrow) type_form) (t ∷ old) new m (behind_token (on (is T.Arrow)) t m r)

pub result_taken : (t : Leaf) {x : TypeName} {old new : List Leaf} → on (is T.Arrow) t ≡ true → Parsed type_form x nothing old new → Parsed result_rule (Some (t, x)) (result_rule.continues (Some (t, x))) (t ∷ old) new
result_taken t {x} {old} {new} m u = put_in (on (is T.Arrow)) (both (word T.Arrow) type_form) (t, x) (t ∷ old) new (taken_token (on (is T.Arrow)) t m u)

-- ---- functions, behind `func`

abbrev Params : Type 0
Params = Option ParamList

abbrev ResultType : Type 0
ResultType = Option TypedParts

func_refused : (k : Leaf) {old new : List Leaf} → on (is T.Func) k ≡ true → FailsAt func_name_form old new → FailsAt func_form (k ∷ old) new
func_refused k {old} {new} m r = shown_refused func_shows (behind_token (on (is T.Func)) k m r)

pub func_no_name : (k : Leaf) {old new : List Leaf} → on (is T.Func) k ≡ true → FailsAt (word T.Identifier) old new → FailsAt func_form (k ∷ old) new
func_no_name k {old} {new} m r = func_refused k m (first (token_joins (on (is T.Identifier)) opened_form opened_some) r)

pub func_unopened : (k : Leaf) {n : Leaf} {old o1 new : List Leaf} → on (is T.Func) k ≡ true → Parsed (word T.Identifier) n nothing old o1 → FailsAt (word T.LeftParenthesis) o1 new → FailsAt func_form (k ∷ old) new
func_unopened k {n} {old} {o1} {new} m t1 r = func_refused k m (behind (token_joins (on (is T.Identifier)) opened_form opened_some) t1 (first (token_joins (on (is T.LeftParenthesis)) params_closed_form params_closed_some) r))

pub func_no_params : (k : Leaf) {n a : Leaf} {old o1 o2 new : List Leaf} → on (is T.Func) k ≡ true → Parsed (word T.Identifier) n nothing old o1 → Parsed (word T.LeftParenthesis) a nothing o1 o2 → FailsAt params_rule o2 new → FailsAt func_form (k ∷ old) new
func_no_params k {n} {a} {old} {o1} {o2} {new} m t1 t2 r = func_refused k m (behind (token_joins (on (is T.Identifier)) opened_form opened_some) t1 (behind (token_joins (on (is T.LeftParenthesis)) params_closed_form params_closed_some) t2 (first params_joins r)))

pub func_unclosed : (k : Leaf) {n a : Leaf} {p : Params} {old o1 o2 o3 new : List Leaf} → on (is T.Func) k ≡ true → Parsed (word T.Identifier) n nothing old o1 → Parsed (word T.LeftParenthesis) a nothing o1 o2 → Parsed params_rule p (params_rule.continues p) o2 o3 → FailsAt (word T.RightParenthesis) o3 new → FailsAt func_form (k ∷ old) new
func_unclosed k {n} {a} {p} {old} {o1} {o2} {o3} {new} m t1 t2 t3 r = func_refused k m (behind (token_joins (on (is T.Identifier)) opened_form opened_some) t1 (behind (token_joins (on (is T.LeftParenthesis)) params_closed_form params_closed_some) t2 (behind params_joins t3 (first (token_joins (on (is T.RightParenthesis)) result_body_form result_body_some) r))))

pub func_no_result : (k : Leaf) {n a c : Leaf} {p : Params} {old o1 o2 o3 o4 new : List Leaf} → on (is T.Func) k ≡ true → Parsed (word T.Identifier) n nothing old o1 → Parsed (word T.LeftParenthesis) a nothing o1 o2 → Parsed params_rule p (params_rule.continues p) o2 o3 → Parsed (word T.RightParenthesis) c nothing o3 o4 → FailsAt result_rule o4 new → FailsAt func_form (k ∷ old) new
func_no_result k {n} {a} {c} {p} {old} {o1} {o2} {o3} {o4} {new} m t1 t2 t3 t4 r = func_refused k m (behind (token_joins (on (is T.Identifier)) opened_form opened_some) t1 (behind (token_joins (on (is T.LeftParenthesis)) params_closed_form params_closed_some) t2 (behind params_joins t3 (behind (token_joins (on (is T.RightParenthesis)) result_body_form result_body_some) t4 (first result_joins r)))))

pub func_no_body : (k : Leaf) {n a c : Leaf} {p : Params} {y : ResultType} {old o1 o2 o3 o4 o5 new : List Leaf} → on (is T.Func) k ≡ true → Parsed (word T.Identifier) n nothing old o1 → Parsed (word T.LeftParenthesis) a nothing o1 o2 → Parsed params_rule p (params_rule.continues p) o2 o3 → Parsed (word T.RightParenthesis) c nothing o3 o4 → Parsed result_rule y (result_rule.continues y) o4 o5 → FailsAt block_form o5 new → FailsAt func_form (k ∷ old) new
func_no_body k {n} {a} {c} {p} {y} {old} {o1} {o2} {o3} {o4} {o5} {new} m t1 t2 t3 t4 t5 r = func_refused k m (behind (token_joins (on (is T.Identifier)) opened_form opened_some) t1 (behind (token_joins (on (is T.LeftParenthesis)) params_closed_form params_closed_some) t2 (behind params_joins t3 (behind (token_joins (on (is T.RightParenthesis)) result_body_form result_body_some) t4 (behind result_joins t5 r)))))

pub func_done : (k : Leaf) {n a c : Leaf} {p : Params} {y : ResultType} {b : Block} {old o1 o2 o3 o4 o5 new : List Leaf} → on (is T.Func) k ≡ true → Parsed (word T.Identifier) n nothing old o1 → Parsed (word T.LeftParenthesis) a nothing o1 o2 → Parsed params_rule p (params_rule.continues p) o2 o3 → Parsed (word T.RightParenthesis) c nothing o3 o4 → Parsed result_rule y (result_rule.continues y) o4 o5 → Parsed block_form b (block_form.continues b) o5 new
    → Parsed func_form (func_made (k, (n, (a, (p, (c, (y, b))))))) (func_form.continues (func_made (k, (n, (a, (p, (c, (y, b)))))))) (k ∷ old) new
func_done k {n} {a} {c} {p} {y} {b} {old} {o1} {o2} {o3} {o4} {o5} {new} m t1 t2 t3 t4 t5 t6 = shown_took {y = (k, (n, (a, (p, (c, (y, b))))))} func_shows (taken_token (on (is T.Func)) k m (taken_both t1 (taken_both t2 (taken_both t3 (taken_both t4 (taken_both t5 t6))))))

-- ---- initial values

pub initial_none : (old : List Leaf) → Stops (on (is T.Assign)) old → Parsed initial_rule None (initial_rule.continues None) old old
initial_none old s = left_out (on (is T.Assign)) valued_form old s

pub initial_refused : (t : Leaf) {old new : List Leaf} → on (is T.Assign) t ≡ true → FailsAt expr_form old new → FailsAt initial_rule (t ∷ old) new
initial_refused t {old} {new} m r = perhaps_refused (on (is T.Assign)) valued_form (t ∷ old) new m (behind_token (on (is T.Assign)) t m r)

pub initial_taken : (t : Leaf) {x : Expr} {old new : List Leaf} → on (is T.Assign) t ≡ true → Parsed expr_form x (expr_form.continues x) old new → Parsed initial_rule (Some (t, x)) (initial_rule.continues (Some (t, x))) (t ∷ old) new
initial_taken t {x} {old} {new} m u = put_in (on (is T.Assign)) valued_form (t, x) (t ∷ old) new (taken_token (on (is T.Assign)) t m u)

-- ---- what stands behind a stored property's name

pub stored_no_type : (c : Leaf) {old new : List Leaf} → on (is T.Colon) c ≡ true → FailsAt type_form old new → FailsAt stored_value_form (c ∷ old) new
stored_no_type c {old} {new} m r = shown_refused stored_value_shows (choice_left stored_choices m (behind_token (on (is T.Colon)) c m (first type_initial_joins r)))

pub stored_no_initial : (c : Leaf) {x : TypeName} {old mid new : List Leaf} → on (is T.Colon) c ≡ true → Parsed type_form x nothing old mid → FailsAt initial_rule mid new → FailsAt stored_value_form (c ∷ old) new
stored_no_initial c {x} {old} {mid} {new} m u r = shown_refused stored_value_shows (choice_left stored_choices m (behind_token (on (is T.Colon)) c m (behind type_initial_joins u r)))

pub stored_typed : (c : Leaf) {x : TypeName} {y : Option (Leaf × Expr)} {old mid new : List Leaf} → on (is T.Colon) c ≡ true → Parsed type_form x nothing old mid → Parsed initial_rule y (initial_rule.continues y) mid new → Parsed stored_value_form (Typed c x y) (stored_value_form.continues (Typed c x y)) (c ∷ old) new
stored_typed c {x} {y} {old} {mid} {new} m u w = shown_took {y = inl (c, (x, y))} stored_value_shows (choice_took_left typed_rule inferred_rule (taken_token (on (is T.Colon)) c m (taken_both u w)))

pub stored_no_assign : {old new : List Leaf} → Stops (on (is T.Colon)) old → FailsAt (word T.Assign) old new → FailsAt stored_value_form old new
stored_no_assign {old} {new} s r = shown_refused stored_value_shows (choice_right stored_choices s (first (token_joins (on (is T.Assign)) expr_form expr_some) r))

pub stored_no_value : {e : Leaf} {old mid new : List Leaf} → Stops (on (is T.Colon)) old → Parsed (word T.Assign) e nothing old mid → FailsAt expr_form mid new → FailsAt stored_value_form old new
stored_no_value {e} {old} {mid} {new} s u r = shown_refused stored_value_shows (choice_right stored_choices s (behind (token_joins (on (is T.Assign)) expr_form expr_some) u r))

pub stored_inferred : {e : Leaf} {x : Expr} {old mid new : List Leaf} → Parsed (word T.Assign) e nothing old mid → Parsed expr_form x (expr_form.continues x) mid new → Parsed stored_value_form (Inferred e x) (stored_value_form.continues (Inferred e x)) old new
stored_inferred {e} {x} {old} {mid} {new} u w = shown_took {y = inr (e, x)} stored_value_shows (choice_took_right typed_rule inferred_rule (taken_both u w))

-- ---- a stored property behind `let`

abbrev named_value_form : Form Leaf (Leaf × StoredValue)
named_value_form = both (word T.Identifier) stored_value_form

constant_front : (k : Leaf) (old : List Leaf) → on (is T.Let) k ≡ true → Parsed specifier_form (specifier.Let k) (specifier_form.continues (specifier.Let k)) (k ∷ old) old
constant_front k old m = record { spelled = refl; right = m; stops = stops_nothing old }

constant_refused : (k : Leaf) {old new : List Leaf} → on (is T.Let) k ≡ true → FailsAt let_name_form old new → FailsAt stored_form (k ∷ old) new
constant_refused k {old} {new} m r = shown_refused stored_shows (behind {x = specifier.Let k} (record { follows = Rattle.grammar.proofs.Sequences.ended_follows specifier_form let_name_form Rattle.swift_ast.proofs.StatementLaws.specifier_ends; one = Rattle.swift_ast.proofs.StatementLaws.specifier_one; some = let_name_some }) (constant_front k old m) r)

pub constant_no_name : (k : Leaf) {old new : List Leaf} → on (is T.Let) k ≡ true → FailsAt (word T.Identifier) old new → FailsAt stored_form (k ∷ old) new
constant_no_name k {old} {new} m r = constant_refused k m (first (token_joins (on (is T.Identifier)) stored_value_form Rattle.swift_ast.proofs.DeclarationLaws.stored_value_some) r)

pub constant_no_value : (k : Leaf) {n : Leaf} {old mid new : List Leaf} → on (is T.Let) k ≡ true → Parsed (word T.Identifier) n nothing old mid → FailsAt stored_value_form mid new → FailsAt stored_form (k ∷ old) new
constant_no_value k {n} {old} {mid} {new} m t r = constant_refused k m (behind (token_joins (on (is T.Identifier)) stored_value_form Rattle.swift_ast.proofs.DeclarationLaws.stored_value_some) t r)

pub constant_done : (k : Leaf) {n : Leaf} {v : StoredValue} {old mid new : List Leaf} → on (is T.Let) k ≡ true → Parsed (word T.Identifier) n nothing old mid → Parsed stored_value_form v (stored_value_form.continues v) mid new → Parsed stored_form (record { specifier = specifier.Let k; name = n; value = v }) (stored_form.continues (record { specifier = specifier.Let k; name = n; value = v })) (k ∷ old) new
constant_done k {n} {v} {old} {mid} {new} m t u = shown_took {y = (specifier.Let k, (n, v))} stored_shows (taken_both (constant_front k old m) (taken_both t u))

-- ---- members of a struct by their kind

let_refused : {old new : List Leaf} → begins_by (on (is T.Let)) old ≡ true → FailsAt let_form old new → FailsAt struct_member_form old new
let_refused {old} {new} h r = shown_refused struct_member_shows (choice_left struct_member_choices h r)

var_refused : {old new : List Leaf} → begins_by (on (is T.Var)) old ≡ true → FailsAt var_form old new → FailsAt struct_member_form old new
var_refused {old} {new} h r = shown_refused struct_member_shows (choice_right struct_member_choices (begins_apart (is T.Var) (is T.Let) old refl h) (choice_left var_func_choices h r))

pub struct_func_refused : {old new : List Leaf} → begins_by (on (is T.Func)) old ≡ true → FailsAt func_form old new → FailsAt struct_member_form old new
struct_func_refused {old} {new} h r = shown_refused struct_member_shows (choice_right struct_member_choices (begins_apart (is T.Func) (is T.Let) old refl h) (choice_right var_func_choices (begins_apart (is T.Func) (is T.Var) old refl h) r))

pub struct_func_taken : (x : Func) {old new : List Leaf} → Parsed func_form x (func_form.continues x) old new → Parsed struct_member_form (member.Func x) (struct_member_form.continues (member.Func x)) old new
struct_func_taken x {old} {new} t = shown_took {y = inr (inr x)} struct_member_shows (choice_took_right let_form (either var_form func_form) (choice_took_right var_form func_form t))

-- a stored property behind `let`, as a member
pub struct_let_refused : (k : Leaf) {old new : List Leaf} → on (is T.Let) k ≡ true → FailsAt stored_form (k ∷ old) new → FailsAt struct_member_form (k ∷ old) new
struct_let_refused k {old} {new} m r = let_refused m (behind_token (on (is T.Let)) k m
    (token_peeled (on is_specifier) k let_name_some (within (is T.Let) is_specifier refl k m) (shown_refused_back (shows_first named_value_form specifier_shows) (shown_refused_back stored_shows r))))

let_case : (k : Leaf) (s : BindingSpecifier) (n : Leaf) (v : StoredValue) {old new : List Leaf} → on (is T.Let) k ≡ true → Parsed stored_form (record { specifier = s; name = n; value = v }) (stored_form.continues (record { specifier = s; name = n; value = v })) (k ∷ old) new → Parsed struct_member_form (stored_of s n v) (struct_member_form.continues (stored_of s n v)) (k ∷ old) new
let_case k (specifier.Let t) n v {old} {new} m u = record { spelled = u.spelled; right = u.right; stops = u.stops }
let_case k (specifier.Var t) n v {old} {new} m u =
    let is_var : on (is T.Var) k ≡ true = subst (λ z. on (is T.Var) z ≡ true) (sym (head_of k t _ _ u.spelled)) ((and_parts (on (is T.Var) t) (named_value_form.is_well_formed (n, v)) u.right).0) in
    absurd (both_false (on (is T.Var) k) (apart (is T.Let) (is T.Var) refl k m) is_var)

pub struct_let_taken : (k : Leaf) (x : Stored) {old new : List Leaf} → on (is T.Let) k ≡ true → Parsed stored_form x (stored_form.continues x) (k ∷ old) new → Parsed struct_member_form (member.Stored x) (struct_member_form.continues (member.Stored x)) (k ∷ old) new
struct_let_taken k x {old} {new} m t = let_case k x.specifier x.name x.value m t

-- ---- a property behind `var`

pub property_no_name : (k : Leaf) {old new : List Leaf} → on (is T.Var) k ≡ true → FailsAt (word T.Identifier) old new → FailsAt struct_member_form (k ∷ old) new
property_no_name k {old} {new} m r = var_refused m (behind_token (on (is T.Var)) k m (first (token_joins (on (is T.Identifier)) var_rest_form var_rest_some) r))

rest_refused : (k : Leaf) {n : Leaf} {old mid new : List Leaf} → on (is T.Var) k ≡ true → Parsed (word T.Identifier) n nothing old mid → FailsAt var_rest_form mid new → FailsAt struct_member_form (k ∷ old) new
rest_refused k {n} {old} {mid} {new} m t r = var_refused m (behind_token (on (is T.Var)) k m (behind (token_joins (on (is T.Identifier)) var_rest_form var_rest_some) t r))

pub property_no_assign : (k : Leaf) {n : Leaf} {old mid new : List Leaf} → on (is T.Var) k ≡ true → Parsed (word T.Identifier) n nothing old mid → Stops (on (is T.Colon)) mid → FailsAt (word T.Assign) mid new → FailsAt struct_member_form (k ∷ old) new
property_no_assign k {n} {old} {mid} {new} m t s r = rest_refused k m t (choice_right var_choices s (first (token_joins (on (is T.Assign)) expr_form expr_some) r))

pub property_no_value : (k : Leaf) {n e : Leaf} {old mid late new : List Leaf} → on (is T.Var) k ≡ true → Parsed (word T.Identifier) n nothing old mid → Stops (on (is T.Colon)) mid → Parsed (word T.Assign) e nothing mid late → FailsAt expr_form late new → FailsAt struct_member_form (k ∷ old) new
property_no_value k {n} {e} {old} {mid} {late} {new} m t s u r = rest_refused k m t (choice_right var_choices s (behind (token_joins (on (is T.Assign)) expr_form expr_some) u r))

pub property_inferred : (k : Leaf) {n e : Leaf} {x : Expr} {old mid late new : List Leaf} → on (is T.Var) k ≡ true → Parsed (word T.Identifier) n nothing old mid → Parsed (word T.Assign) e nothing mid late → Parsed expr_form x (expr_form.continues x) late new
    → Parsed struct_member_form (stored_of (specifier.Var k) n (Inferred e x)) (struct_member_form.continues (stored_of (specifier.Var k) n (Inferred e x))) (k ∷ old) new
property_inferred k {n} {e} {x} {old} {mid} {late} {new} m t u w = shown_took {y = inr (inl (k, (n, inr (e, x))))} struct_member_shows (choice_took_right let_form (either var_form func_form) (choice_took_left var_form func_form
    (taken_token (on (is T.Var)) k m (taken_both t (choice_took_right var_typed_form valued_form (taken_both u w))))))

-- behind `var`, a name and a colon
typed_refused : (k n c : Leaf) {old new : List Leaf} → on (is T.Var) k ≡ true → on (is T.Identifier) n ≡ true → on (is T.Colon) c ≡ true → FailsAt type_tail_form old new → FailsAt struct_member_form (k ∷ (n ∷ (c ∷ old))) new
typed_refused k n c {old} {new} m i h r = rest_refused k m (took (on (is T.Identifier)) n (c ∷ old) i) (choice_left var_choices h (behind_token (on (is T.Colon)) c h r))

typed_taken : (k n c : Leaf) {x : TypeName} {y : VarTail} {old mid new : List Leaf} → on (is T.Var) k ≡ true → on (is T.Identifier) n ≡ true → on (is T.Colon) c ≡ true → Parsed type_form x nothing old mid → Parsed var_tail_form y (var_tail_form.continues y) mid new
    → Parsed struct_member_form (struct_member_made (inr (inl (k, (n, inl (c, (x, y))))))) (struct_member_form.continues (struct_member_made (inr (inl (k, (n, inl (c, (x, y)))))))) (k ∷ (n ∷ (c ∷ old))) new
typed_taken k n c {x} {y} {old} {mid} {new} m i h t u = shown_took {y = inr (inl (k, (n, inl (c, (x, y)))))} struct_member_shows (choice_took_right let_form (either var_form func_form) (choice_took_left var_form func_form
    (taken_token (on (is T.Var)) k m (taken_token (on (is T.Identifier)) n i (choice_took_left var_typed_form valued_form (taken_token (on (is T.Colon)) c h (taken_both t u)))))))

pub property_no_type : (k n c : Leaf) {old new : List Leaf} → on (is T.Var) k ≡ true → on (is T.Identifier) n ≡ true → on (is T.Colon) c ≡ true → FailsAt type_form old new → FailsAt struct_member_form (k ∷ (n ∷ (c ∷ old))) new
property_no_type k n c {old} {new} m i h r = typed_refused k n c m i h (first var_type_joins r)

tail_front : (v : List Leaf) → begins_by (on (is T.LeftBrace)) v ≡ true → begins_by (on begins_tail) v ≡ true
tail_front v h = Rattle.grammar.proofs.Basics.begins_more (on (is T.LeftBrace)) (on begins_tail) v (within (is T.LeftBrace) begins_tail refl) h

tail_refuses : (before new : List Leaf) → Stops (on (is T.LeftBrace)) (before ++ new) → Refuses initial_rule before new → (y : VarTail) (v w : List Leaf) → var_tail_form.is_well_formed y ≡ true → StartsAs new v → Stops (var_tail_form.continues y) w → var_tail_form.tokens y ++ w ≡ before ++ v → ⊥
tail_refuses before new s r None v w ry sv sw e = r None v w refl sv (stops_within (is T.Assign) begins_tail w refl sw) e
tail_refuses before new s r (Some (inl y)) v w ry sv sw e = r (Some y) v w ry sv sw e
tail_refuses before new s r (Some (inr b)) v w ry sv sw e = begins_stops (on (is T.LeftBrace)) (before ++ v) (begins_at (on (is T.LeftBrace)) (block_form.tokens b ++ w) (before ++ v) e (begins_left (on (is T.LeftBrace)) (block_form.tokens b) w (block_begun b ry))) (stops_behind (on (is T.LeftBrace)) before new v sv s)

tail_begins : (before : List Leaf) (o : Option (Leaf × Expr)) (more : List Leaf) → initial_rule.is_well_formed o ≡ true → initial_rule.tokens o ≡ before ++ more → Begins var_tail_form before
tail_begins before None more r e = record { tree = None; more = more; right = refl; spelled = e }
tail_begins before (Some y) more r e = record { tree = Some (inl y); more = more; right = r; spelled = e }

tail_refused : {old new : List Leaf} → Stops (on (is T.LeftBrace)) old → FailsAt initial_rule old new → FailsAt var_tail_form old new
tail_refused {old} {new} s r = record { before = r.before; spelled = r.spelled; refuses = tail_refuses r.before new (subst (λ ts. Stops (on (is T.LeftBrace)) ts) r.spelled s) r.refuses; begins = tail_begins r.before r.begins.tree r.begins.more r.begins.right r.begins.spelled }

stored_case : (k n c : Leaf) {x : TypeName} (y : Option (Leaf × Expr)) {old mid new : List Leaf} → on (is T.Var) k ≡ true → on (is T.Identifier) n ≡ true → on (is T.Colon) c ≡ true → Parsed type_form x nothing old mid → Stops (on (is T.LeftBrace)) mid → Parsed initial_rule y (initial_rule.continues y) mid new
    → Parsed struct_member_form (stored_of (specifier.Var k) n (Typed c x y)) (struct_member_form.continues (stored_of (specifier.Var k) n (Typed c x y))) (k ∷ (n ∷ (c ∷ old))) new
stored_case k n c {x} None {old} {mid} {new} m i h t s u = typed_taken k n c {y = None} m i h t (record { spelled = u.spelled; right = refl; stops = stops_either (is T.Assign) (is T.LeftBrace) new u.stops (subst (λ ts. Stops (on (is T.LeftBrace)) ts) u.spelled s) })
stored_case k n c {x} (Some v) {old} {mid} {new} m i h t s u = typed_taken k n c {y = Some (inl v)} m i h t (record { spelled = u.spelled; right = u.right; stops = u.stops })

pub property_no_body : (k n c : Leaf) {x : TypeName} {old mid new : List Leaf} → on (is T.Var) k ≡ true → on (is T.Identifier) n ≡ true → on (is T.Colon) c ≡ true → Parsed type_form x nothing old mid → begins_by (on (is T.LeftBrace)) mid ≡ true → FailsAt block_form mid new → FailsAt struct_member_form (k ∷ (n ∷ (c ∷ old))) new
property_no_body k n c {x} {old} {mid} {new} m i h t s r = typed_refused k n c m i h (behind var_type_joins t (perhaps_refused (on begins_tail) value_or_body_form mid new (tail_front mid s) (choice_right body_choices (begins_apart (is T.LeftBrace) (is T.Assign) mid refl s) r)))

pub property_computed : (k n c : Leaf) {x : TypeName} {b : Block} {old mid new : List Leaf} → on (is T.Var) k ≡ true → on (is T.Identifier) n ≡ true → on (is T.Colon) c ≡ true → Parsed type_form x nothing old mid → Parsed block_form b (block_form.continues b) mid new
    → Parsed struct_member_form (member.Computed (record { keyword = k; name = n; colon = c; type_name = x; body = b })) (struct_member_form.continues (member.Computed (record { keyword = k; name = n; colon = c; type_name = x; body = b }))) (k ∷ (n ∷ (c ∷ old))) new
property_computed k n c {x} {b} {old} {mid} {new} m i h t u = typed_taken k n c m i h t (put_in (on begins_tail) value_or_body_form (inr b) mid new (choice_took_right valued_form block_form u))

pub property_no_initial : (k n c : Leaf) {x : TypeName} {old mid new : List Leaf} → on (is T.Var) k ≡ true → on (is T.Identifier) n ≡ true → on (is T.Colon) c ≡ true → Parsed type_form x nothing old mid → Stops (on (is T.LeftBrace)) mid → FailsAt initial_rule mid new → FailsAt struct_member_form (k ∷ (n ∷ (c ∷ old))) new
property_no_initial k n c {x} {old} {mid} {new} m i h t s r = typed_refused k n c m i h (behind var_type_joins t (tail_refused s r))

pub property_stored : (k n c : Leaf) {x : TypeName} {y : Option (Leaf × Expr)} {old mid new : List Leaf} → on (is T.Var) k ≡ true → on (is T.Identifier) n ≡ true → on (is T.Colon) c ≡ true → Parsed type_form x nothing old mid → Stops (on (is T.LeftBrace)) mid → Parsed initial_rule y (initial_rule.continues y) mid new
    → Parsed struct_member_form (stored_of (specifier.Var k) n (Typed c x y)) (struct_member_form.continues (stored_of (specifier.Var k) n (Typed c x y))) (k ∷ (n ∷ (c ∷ old))) new
property_stored k n c {x} {y} {old} {mid} {new} m i h t s u = stored_case k n c y m i h t s u

-- no member stands there
pub struct_member_none : {old new : List Leaf} → Stops (on (is T.Func)) old → Stops (on (is T.Let)) old → FailsAt (word T.Var) old new → FailsAt struct_member_form old new
struct_member_none {old} {new} f l r = shown_refused struct_member_shows (choice_right struct_member_choices l (Rattle.grammar.proofs.Choices.left_refused (on (is T.Func)) var_form func_form old new Rattle.swift_ast.proofs.DeclarationLaws.func_begun f (first (token_joins (on (is T.Var)) var_name_form var_name_some) r)))

-- ---- a member behind its access

pub struct_line_refused : {a : Option Access} {old mid new : List Leaf} → Parsed access_rule a (access_rule.continues a) old mid → FailsAt struct_member_form mid new → FailsAt struct_line_form old new
struct_line_refused {a} {old} {mid} {new} t r = behind struct_line_joins t r

pub struct_line_taken : {a : Option Access} {x : StructMember} {old mid new : List Leaf} → Parsed access_rule a (access_rule.continues a) old mid → Parsed struct_member_form x (struct_member_form.continues x) mid new → Parsed struct_line_form (a, x) (struct_line_form.continues (a, x)) old new
struct_line_taken {a} {x} {old} {mid} {new} t u = taken_both t u

pub extension_line_refused : {a : Option Access} {old mid new : List Leaf} → Parsed access_rule a (access_rule.continues a) old mid → FailsAt extension_member_form mid new → FailsAt extension_line_form old new
extension_line_refused {a} {old} {mid} {new} t r = behind extension_line_joins t r

pub extension_line_taken : {a : Option Access} {x : ExtensionMember} {old mid new : List Leaf} → Parsed access_rule a (access_rule.continues a) old mid → Parsed extension_member_form x (extension_member_form.continues x) mid new → Parsed extension_line_form (a, x) (extension_line_form.continues (a, x)) old new
extension_line_taken {a} {x} {old} {mid} {new} t u = taken_both t u

-- ---- behind `struct`

struct_refused : (k : Leaf) {old new : List Leaf} → on (is T.Struct) k ≡ true → FailsAt struct_name_form old new → FailsAt struct_form (k ∷ old) new
struct_refused k {old} {new} m r = shown_refused struct_shows (behind_token (on (is T.Struct)) k m r)

pub struct_no_name : (k : Leaf) {old new : List Leaf} → on (is T.Struct) k ≡ true → FailsAt (word T.Identifier) old new → FailsAt struct_form (k ∷ old) new
struct_no_name k {old} {new} m r = struct_refused k m (first (token_joins (on (is T.Identifier)) struct_body_form struct_body_some) r)

pub struct_unopened : (k : Leaf) {n : Leaf} {old o1 new : List Leaf} → on (is T.Struct) k ≡ true → Parsed (word T.Identifier) n nothing old o1 → FailsAt (word T.LeftBrace) o1 new → FailsAt struct_form (k ∷ old) new
struct_unopened k {n} {old} {o1} {new} m t1 r = struct_refused k m (behind (token_joins (on (is T.Identifier)) struct_body_form struct_body_some) t1 (first (token_joins (on (is T.LeftBrace)) struct_inside_form struct_inside_some) r))

pub struct_inside : (k : Leaf) {n a : Leaf} {old o1 o2 new : List Leaf} → on (is T.Struct) k ≡ true → Parsed (word T.Identifier) n nothing old o1 → Parsed (word T.LeftBrace) a nothing o1 o2 → FailsAt struct_members_form o2 new → FailsAt struct_form (k ∷ old) new
struct_inside k {n} {a} {old} {o1} {o2} {new} m t1 t2 r = struct_refused k m (behind (token_joins (on (is T.Identifier)) struct_body_form struct_body_some) t1 (behind (token_joins (on (is T.LeftBrace)) struct_inside_form struct_inside_some) t2 (first struct_members_joins r)))

pub struct_unclosed : (k : Leaf) {n a : Leaf} {xs : StructMembers} {old o1 o2 o3 new : List Leaf} → on (is T.Struct) k ≡ true → Parsed (word T.Identifier) n nothing old o1 → Parsed (word T.LeftBrace) a nothing o1 o2 → Parsed struct_members_form xs (struct_members_form.continues xs) o2 o3 → FailsAt (word T.RightBrace) o3 new → FailsAt struct_form (k ∷ old) new
struct_unclosed k {n} {a} {xs} {old} {o1} {o2} {o3} {new} m t1 t2 t3 r = struct_refused k m (behind (token_joins (on (is T.Identifier)) struct_body_form struct_body_some) t1 (behind (token_joins (on (is T.LeftBrace)) struct_inside_form struct_inside_some) t2 (behind struct_members_joins t3 r)))

pub struct_done : (k : Leaf) {n a c : Leaf} {xs : StructMembers} {old o1 o2 o3 new : List Leaf} → on (is T.Struct) k ≡ true → Parsed (word T.Identifier) n nothing old o1 → Parsed (word T.LeftBrace) a nothing o1 o2 → Parsed struct_members_form xs (struct_members_form.continues xs) o2 o3 → Parsed (word T.RightBrace) c nothing o3 new
    → Parsed struct_form (struct_made (k, (n, (a, (xs, c))))) (struct_form.continues (struct_made (k, (n, (a, (xs, c)))))) (k ∷ old) new
struct_done k {n} {a} {c} {xs} {old} {o1} {o2} {o3} {new} m t1 t2 t3 t4 = shown_took {y = (k, (n, (a, (xs, c))))} struct_shows (taken_token (on (is T.Struct)) k m (taken_both t1 (taken_both t2 (taken_both t3 t4))))

-- ---- behind `extension`

extension_refused : (k : Leaf) {old new : List Leaf} → on (is T.Extension) k ≡ true → FailsAt extension_name_form old new → FailsAt extension_form (k ∷ old) new
extension_refused k {old} {new} m r = shown_refused extension_shows (behind_token (on (is T.Extension)) k m r)

pub extension_no_name : (k : Leaf) {old new : List Leaf} → on (is T.Extension) k ≡ true → FailsAt (word T.Identifier) old new → FailsAt extension_form (k ∷ old) new
extension_no_name k {old} {new} m r = extension_refused k m (first (token_joins (on (is T.Identifier)) extension_body_form extension_body_some) r)

pub extension_unopened : (k : Leaf) {n : Leaf} {old o1 new : List Leaf} → on (is T.Extension) k ≡ true → Parsed (word T.Identifier) n nothing old o1 → FailsAt (word T.LeftBrace) o1 new → FailsAt extension_form (k ∷ old) new
extension_unopened k {n} {old} {o1} {new} m t1 r = extension_refused k m (behind (token_joins (on (is T.Identifier)) extension_body_form extension_body_some) t1 (first (token_joins (on (is T.LeftBrace)) extension_inside_form extension_inside_some) r))

pub extension_inside : (k : Leaf) {n a : Leaf} {old o1 o2 new : List Leaf} → on (is T.Extension) k ≡ true → Parsed (word T.Identifier) n nothing old o1 → Parsed (word T.LeftBrace) a nothing o1 o2 → FailsAt extension_members_form o2 new → FailsAt extension_form (k ∷ old) new
extension_inside k {n} {a} {old} {o1} {o2} {new} m t1 t2 r = extension_refused k m (behind (token_joins (on (is T.Identifier)) extension_body_form extension_body_some) t1 (behind (token_joins (on (is T.LeftBrace)) extension_inside_form extension_inside_some) t2 (first extension_members_joins r)))

pub extension_unclosed : (k : Leaf) {n a : Leaf} {xs : ExtensionMembers} {old o1 o2 o3 new : List Leaf} → on (is T.Extension) k ≡ true → Parsed (word T.Identifier) n nothing old o1 → Parsed (word T.LeftBrace) a nothing o1 o2 → Parsed extension_members_form xs (extension_members_form.continues xs) o2 o3 → FailsAt (word T.RightBrace) o3 new → FailsAt extension_form (k ∷ old) new
extension_unclosed k {n} {a} {xs} {old} {o1} {o2} {o3} {new} m t1 t2 t3 r = extension_refused k m (behind (token_joins (on (is T.Identifier)) extension_body_form extension_body_some) t1 (behind (token_joins (on (is T.LeftBrace)) extension_inside_form extension_inside_some) t2 (behind extension_members_joins t3 r)))

pub extension_done : (k : Leaf) {n a c : Leaf} {xs : ExtensionMembers} {old o1 o2 o3 new : List Leaf} → on (is T.Extension) k ≡ true → Parsed (word T.Identifier) n nothing old o1 → Parsed (word T.LeftBrace) a nothing o1 o2 → Parsed extension_members_form xs (extension_members_form.continues xs) o2 o3 → Parsed (word T.RightBrace) c nothing o3 new
    → Parsed extension_form (extension_made (k, (n, (a, (xs, c))))) (extension_form.continues (extension_made (k, (n, (a, (xs, c)))))) (k ∷ old) new
extension_done k {n} {a} {c} {xs} {old} {o1} {o2} {o3} {new} m t1 t2 t3 t4 = shown_took {y = (k, (n, (a, (xs, c))))} extension_shows (taken_token (on (is T.Extension)) k m (taken_both t1 (taken_both t2 (taken_both t3 t4))))

-- ---- computed properties, behind `var`

computed_refused : (k : Leaf) {old new : List Leaf} → on (is T.Var) k ≡ true → FailsAt computed_name_form old new → FailsAt computed_form (k ∷ old) new
computed_refused k {old} {new} m r = shown_refused computed_shows (behind_token (on (is T.Var)) k m r)

pub computed_no_name : (k : Leaf) {old new : List Leaf} → on (is T.Var) k ≡ true → FailsAt (word T.Identifier) old new → FailsAt computed_form (k ∷ old) new
computed_no_name k {old} {new} m r = computed_refused k m (first (token_joins (on (is T.Identifier)) colon_body_form colon_body_some) r)

pub computed_no_colon : (k : Leaf) {n : Leaf} {old o1 new : List Leaf} → on (is T.Var) k ≡ true → Parsed (word T.Identifier) n nothing old o1 → FailsAt (word T.Colon) o1 new → FailsAt computed_form (k ∷ old) new
computed_no_colon k {n} {old} {o1} {new} m t1 r = computed_refused k m (behind (token_joins (on (is T.Identifier)) colon_body_form colon_body_some) t1 (first (token_joins (on (is T.Colon)) typed_body_form typed_body_some) r))

pub computed_no_type : (k : Leaf) {n c : Leaf} {old o1 o2 new : List Leaf} → on (is T.Var) k ≡ true → Parsed (word T.Identifier) n nothing old o1 → Parsed (word T.Colon) c nothing o1 o2 → FailsAt type_form o2 new → FailsAt computed_form (k ∷ old) new
computed_no_type k {n} {c} {old} {o1} {o2} {new} m t1 t2 r = computed_refused k m (behind (token_joins (on (is T.Identifier)) colon_body_form colon_body_some) t1 (behind (token_joins (on (is T.Colon)) typed_body_form typed_body_some) t2 (first type_body_joins r)))

pub computed_no_body : (k : Leaf) {n c : Leaf} {x : TypeName} {old o1 o2 o3 new : List Leaf} → on (is T.Var) k ≡ true → Parsed (word T.Identifier) n nothing old o1 → Parsed (word T.Colon) c nothing o1 o2 → Parsed type_form x nothing o2 o3 → FailsAt block_form o3 new → FailsAt computed_form (k ∷ old) new
computed_no_body k {n} {c} {x} {old} {o1} {o2} {o3} {new} m t1 t2 t3 r = computed_refused k m (behind (token_joins (on (is T.Identifier)) colon_body_form colon_body_some) t1 (behind (token_joins (on (is T.Colon)) typed_body_form typed_body_some) t2 (behind type_body_joins t3 r)))

pub computed_done : (k : Leaf) {n c : Leaf} {x : TypeName} {b : Block} {old o1 o2 o3 new : List Leaf} → on (is T.Var) k ≡ true → Parsed (word T.Identifier) n nothing old o1 → Parsed (word T.Colon) c nothing o1 o2 → Parsed type_form x nothing o2 o3 → Parsed block_form b (block_form.continues b) o3 new
    → Parsed computed_form (computed_made (k, (n, (c, (x, b))))) (computed_form.continues (computed_made (k, (n, (c, (x, b)))))) (k ∷ old) new
computed_done k {n} {c} {x} {b} {old} {o1} {o2} {o3} {new} m t1 t2 t3 t4 = shown_took {y = (k, (n, (c, (x, b))))} computed_shows (taken_token (on (is T.Var)) k m (taken_both t1 (taken_both t2 (taken_both t3 t4))))

-- ---- members of an extension

pub extension_func_refused : {old new : List Leaf} → begins_by (on (is T.Func)) old ≡ true → FailsAt func_form old new → FailsAt extension_member_form old new
extension_func_refused {old} {new} h r = shown_refused extension_member_shows (choice_right extension_member_choices (begins_apart (is T.Func) (is T.Var) old refl h) r)

pub extension_func_taken : (x : Func) {old new : List Leaf} → Parsed func_form x (func_form.continues x) old new → Parsed extension_member_form (extended.Func x) (extension_member_form.continues (extended.Func x)) old new
extension_func_taken x {old} {new} t = shown_took {y = inr x} extension_member_shows (choice_took_right computed_form func_form t)

pub extension_computed_refused : {old new : List Leaf} → begins_by (on (is T.Var)) old ≡ true → FailsAt computed_form old new → FailsAt extension_member_form old new
extension_computed_refused {old} {new} h r = shown_refused extension_member_shows (choice_left extension_member_choices h r)

pub extension_computed_taken : (x : Computed) {old new : List Leaf} → Parsed computed_form x (computed_form.continues x) old new → Parsed extension_member_form (extended.Computed x) (extension_member_form.continues (extended.Computed x)) old new
extension_computed_taken x {old} {new} t = shown_took {y = inl x} extension_member_shows (choice_took_left computed_form func_form t)

-- a missing `var` in front of a computed property
computed_none : {old new : List Leaf} → FailsAt (word T.Var) old new → FailsAt computed_form old new
computed_none {old} {new} r = shown_refused computed_shows (first (token_joins (on (is T.Var)) computed_name_form computed_name_some) r)

pub extension_member_none : {old new : List Leaf} → Stops (on (is T.Func)) old → FailsAt (word T.Var) old new → FailsAt extension_member_form old new
extension_member_none {old} {new} f r = shown_refused extension_member_shows (Rattle.grammar.proofs.Choices.left_refused (on (is T.Func)) computed_form func_form old new Rattle.swift_ast.proofs.DeclarationLaws.func_begun f (computed_none r))

-- ---- aliases, behind `typealias`

alias_refused : (k : Leaf) {old new : List Leaf} → on (is T.Typealias) k ≡ true → FailsAt alias_name_form old new → FailsAt alias_form (k ∷ old) new
alias_refused k {old} {new} m r = shown_refused alias_shows (behind_token (on (is T.Typealias)) k m r)

pub alias_no_name : (k : Leaf) {old new : List Leaf} → on (is T.Typealias) k ≡ true → FailsAt (word T.Identifier) old new → FailsAt alias_form (k ∷ old) new
alias_no_name k {old} {new} m r = alias_refused k m (first (token_joins (on (is T.Identifier)) assign_type_form assign_type_some) r)

pub alias_no_assign : (k : Leaf) {n : Leaf} {old o1 new : List Leaf} → on (is T.Typealias) k ≡ true → Parsed (word T.Identifier) n nothing old o1 → FailsAt (word T.Assign) o1 new → FailsAt alias_form (k ∷ old) new
alias_no_assign k {n} {old} {o1} {new} m t1 r = alias_refused k m (behind (token_joins (on (is T.Identifier)) assign_type_form assign_type_some) t1 (first (token_joins (on (is T.Assign)) type_form type_some) r))

pub alias_no_type : (k : Leaf) {n e : Leaf} {old o1 o2 new : List Leaf} → on (is T.Typealias) k ≡ true → Parsed (word T.Identifier) n nothing old o1 → Parsed (word T.Assign) e nothing o1 o2 → FailsAt type_form o2 new → FailsAt alias_form (k ∷ old) new
alias_no_type k {n} {e} {old} {o1} {o2} {new} m t1 t2 r = alias_refused k m (behind (token_joins (on (is T.Identifier)) assign_type_form assign_type_some) t1 (behind (token_joins (on (is T.Assign)) type_form type_some) t2 r))

pub alias_done : (k : Leaf) {n e : Leaf} {x : TypeName} {old o1 o2 new : List Leaf} → on (is T.Typealias) k ≡ true → Parsed (word T.Identifier) n nothing old o1 → Parsed (word T.Assign) e nothing o1 o2 → Parsed type_form x nothing o2 new
    → Parsed alias_form (alias_made (k, (n, (e, x)))) (alias_form.continues (alias_made (k, (n, (e, x))))) (k ∷ old) new
alias_done k {n} {e} {x} {old} {o1} {o2} {new} m t1 t2 t3 = shown_took {y = (k, (n, (e, x)))} alias_shows (taken_token (on (is T.Typealias)) k m (taken_both t1 (taken_both t2 t3)))

-- ---- named declarations

pub named_global_refused : {old new : List Leaf} → begins_by (on is_specifier) old ≡ true → FailsAt global_form old new → FailsAt named_form old new
named_global_refused {old} {new} h r = shown_refused named_shows (choice_left global_choices h r)

pub named_global_taken : (x : Global) {old new : List Leaf} → Parsed global_form x (global_form.continues x) old new → Parsed named_form (named.Global x) (named_form.continues (named.Global x)) old new
named_global_taken x {old} {new} t = shown_took {y = inl x} named_shows (choice_took_left global_form (either func_form (either struct_form alias_form)) t)

pub named_func_refused : {old new : List Leaf} → begins_by (on (is T.Func)) old ≡ true → FailsAt func_form old new → FailsAt named_form old new
named_func_refused {old} {new} h r = shown_refused named_shows (choice_right global_choices (begins_apart (is T.Func) is_specifier old refl h) (choice_left func_choices h r))

pub named_func_taken : (x : Func) {old new : List Leaf} → Parsed func_form x (func_form.continues x) old new → Parsed named_form (named.Func x) (named_form.continues (named.Func x)) old new
named_func_taken x {old} {new} t = shown_took {y = inr (inl x)} named_shows (choice_took_right global_form (either func_form (either struct_form alias_form)) (choice_took_left func_form (either struct_form alias_form) t))

pub named_struct_refused : {old new : List Leaf} → begins_by (on (is T.Struct)) old ≡ true → FailsAt struct_form old new → FailsAt named_form old new
named_struct_refused {old} {new} h r = shown_refused named_shows (choice_right global_choices (begins_apart (is T.Struct) is_specifier old refl h) (choice_right func_choices (begins_apart (is T.Struct) (is T.Func) old refl h) (choice_left struct_choices h r)))

pub named_struct_taken : (x : Struct) {old new : List Leaf} → Parsed struct_form x (struct_form.continues x) old new → Parsed named_form (named.Struct x) (named_form.continues (named.Struct x)) old new
named_struct_taken x {old} {new} t = shown_took {y = inr (inr (inl x))} named_shows (choice_took_right global_form (either func_form (either struct_form alias_form)) (choice_took_right func_form (either struct_form alias_form) (choice_took_left struct_form alias_form t)))

pub named_alias_refused : {old new : List Leaf} → Stops (on is_specifier) old → Stops (on (is T.Func)) old → Stops (on (is T.Struct)) old → FailsAt alias_form old new → FailsAt named_form old new
named_alias_refused {old} {new} s f t r = shown_refused named_shows (choice_right global_choices s (choice_right func_choices f (choice_right struct_choices t r)))

-- the keyword `typealias` is not there
pub named_none : {old new : List Leaf} → Stops (on is_specifier) old → Stops (on (is T.Func)) old → Stops (on (is T.Struct)) old → FailsAt (word T.Typealias) old new → FailsAt named_form old new
named_none {old} {new} s f t r = named_alias_refused s f t (shown_refused alias_shows (first (token_joins (on (is T.Typealias)) alias_name_form alias_name_some) r))

pub named_alias_taken : (x : Alias) {old new : List Leaf} → Parsed alias_form x (alias_form.continues x) old new → Parsed named_form (named.Alias x) (named_form.continues (named.Alias x)) old new
named_alias_taken x {old} {new} t = shown_took {y = inr (inr (inr x))} named_shows (choice_took_right global_form (either func_form (either struct_form alias_form)) (choice_took_right func_form (either struct_form alias_form) (choice_took_right struct_form alias_form t)))

-- ---- declarations

pub decl_extension_refused : {old new : List Leaf} → begins_by (on (is T.Extension)) old ≡ true → FailsAt extension_form old new → FailsAt decl_form old new
decl_extension_refused {old} {new} h r = shown_refused decl_shows (choice_right decl_choices (begins_apart (is T.Extension) at_access old refl h) r)

pub decl_extension_taken : (x : Extension) {old new : List Leaf} → Parsed extension_form x (extension_form.continues x) old new → Parsed decl_form (decl.Extension x) (decl_form.continues (decl.Extension x)) old new
decl_extension_taken x {old} {new} t = shown_took {y = inr x} decl_shows (choice_took_right access_named_form extension_form t)

pub decl_named_refused : {a : Option Access} {old mid new : List Leaf} → Stops (on (is T.Extension)) old → Parsed access_rule a (access_rule.continues a) old mid → FailsAt named_form mid new → FailsAt decl_form old new
decl_named_refused {a} {old} {mid} {new} s t r = shown_refused decl_shows (Rattle.grammar.proofs.Choices.left_refused (on (is T.Extension)) access_named_form extension_form old new Rattle.swift_ast.proofs.DeclarationLaws.extension_begun s (behind named_joins t r))

pub decl_named_taken : {a : Option Access} {x : NamedDecl} {old mid new : List Leaf} → Parsed access_rule a (access_rule.continues a) old mid → Parsed named_form x (named_form.continues x) mid new → Parsed decl_form (decl.Named a x) (decl_form.continues (decl.Named a x)) old new
decl_named_taken {a} {x} {old} {mid} {new} t u = shown_took {y = inl (a, x)} decl_shows (choice_took_left access_named_form extension_form (taken_both t u))

-- ---- files

abbrev pub DeclsSo : List Decl → List Leaf → List Leaf → Type 0
DeclsSo xs old new = RowTaken (on begins_next_decl) next_decl_form xs old new

pub decls_none : (old : List Leaf) → DeclsSo [] old old
decls_none old = row_none (on begins_next_decl) next_decl_form old

pub decls_pushed : (xs : List Decl) {x : Decl} {old mid new : List Leaf} → DeclsSo xs old mid → begins_by (on begins_next_decl) mid ≡ true → Parsed decl_form x (decl_form.continues x) mid new → DeclsSo (xs ++ (x ∷ [])) old new
decls_pushed xs {x} {old} {mid} {new} t h u = row_pushed (on begins_next_decl) next_decl_form xs t (beginning_taken (on begins_next_decl) decl_form x (on begins_decl) decl_begun h u)

pub decls_later : (xs : List Decl) {old mid new : List Leaf} → DeclsSo xs old mid → begins_by (on begins_next_decl) mid ≡ true → FailsAt decl_form mid new → FailsAt decls_form old new
decls_later xs {old} {mid} {new} t h r = row_later xs decls_rows t h (beginning_refused (on begins_next_decl) decl_form decl_stands.tree mid new (stands_later (on begins_next_decl) decl_stands) h r)

pub decls_done : (xs : List Decl) {old new : List Leaf} → DeclsSo xs old new → Stops (on begins_next_decl) new → Parsed decls_form xs (decls_form.continues xs) old new
decls_done xs {old} {new} t s = row_done (on begins_next_decl) next_decl_form xs t s
