-- What each function of a parser of expressions owes at its exits: a tree that is taken, or the first fault.
use Rattle.std.proofs.Common.{◌≡◌, Bool, true, false, List, [], ◌∷◌, ◌++◌, Option, Some, None, refl, sym, subst, inl, inr}
use Rattle.grammar.specs.Forms.{Form, nothing, begins_by, token, both, perhaps, begins_label}
use Rattle.grammar.specs.Faults.{Stops, Parsed, FailsAt, Begins, StartsWithin}
use Rattle.grammar.proofs.Basics.{begins_at, begins_left, taken_ended}
use Rattle.grammar.proofs.Sequences.{token_joins, both_some, took, first, behind, behind_token, taken_both, taken_token, both_taken}
use Rattle.grammar.proofs.Rows.{TrailTaken, chain_trails, trail_begun, trail_pushed, trail_done, trail_first, trail_later, chain_later, chain_pushed}
use Rattle.grammar.proofs.Options.{left_out, put_in, wanted_refused, once_first, once_later, once_alone, once_taken}
use Rattle.grammar.proofs.Choices.{choice_left, choice_right, choice_took_left, choice_took_right}
use Rattle.grammar.proofs.Labels.{label_refused, unlabelled_refused, label_taken, unlabelled_taken}
use Rattle.grammar.proofs.Shown.{shown_took, shown_taken, shown_refused}
use Rattle.swift_ast.specs.declared.terminals.Terminal.TheVariants as T
use Rattle.swift_ast.specs.declared.expressions.CmpOperator.{CmpOperator}
use Rattle.swift_ast.specs.declared.expressions.SumOperator.{SumOperator}
use Rattle.swift_ast.specs.declared.expressions.ProductOperator.{ProductOperator}
use Rattle.swift_ast.specs.declared.expressions.Expr.{Expr}
use Rattle.swift_ast.specs.declared.expressions.And.{And}
use Rattle.swift_ast.specs.declared.expressions.Cmp.{Cmp}
use Rattle.swift_ast.specs.declared.expressions.Sum.{Sum}
use Rattle.swift_ast.specs.declared.expressions.Product.{Product}
use Rattle.swift_ast.specs.declared.expressions.Prefix.{Prefix}
use Rattle.swift_ast.specs.declared.expressions.Postfix.{Postfix}
use Rattle.swift_ast.specs.declared.expressions.PostfixPart.{PostfixPart}
use Rattle.swift_ast.specs.declared.expressions.PostfixPart.TheVariants as part
use Rattle.swift_ast.specs.declared.expressions.Args.{Args}
use Rattle.swift_ast.specs.declared.expressions.Arg.{Arg}
use Rattle.swift_ast.specs.declared.expressions.Atom.{Atom}
use Rattle.swift_ast.specs.declared.expressions.Atom.TheVariants as atom
use Rattle.swift_ast.specs.Leaves.{Leaf}
use Rattle.grammar.specs.Tests.{is_within}
use Rattle.swift_ast.specs.Terminals.{terminals}
use Rattle.swift_ast.specs.Tests.{Test, on, is, is_prefix_operator, is_product_operator, is_sum_operator, is_cmp_operator, is_infix_operator, is_simple_atom, opens_args, begins_part, begins_expr}
use Rattle.swift_ast.specs.Expressions.{word, cmp_operator_form, sum_operator_form, product_operator_form, member_rule, parentheses_rule, expr_form, and_form, cmp_form, sum_form, product_form, prefix_form, postfix_form, part_form, args_form, arg_form, atom_form}
use Rattle.swift_ast.proofs.TestFacts.{apart, within, stops_within, sample, sample_on, some_token}
use Rattle.swift_ast.proofs.ExpressionShows.{ArgList, arg_list_form, expr_made, expr_shows, and_made, and_shows, cmp_made, cmp_shows, sum_made, sum_shows, product_made, product_shows, prefix_made, prefix_shows, postfix_made, postfix_shows, args_made, args_shows, arg_made, arg_shows, part_shows, atom_made, atom_shows, integer_is, string_is, true_is, false_is, name_is, self_is, parentheses_is, member_is, call_is}
use Rattle.swift_ast.proofs.ExpressionLaws.{cmp_operator_begun, expr_some, arg_list_apart, expr_chains, and_chains, cmp_onces, cmp_joins, sum_chains, product_chains, prefix_joins, postfix_trails, arg_list_chains, arg_labels, arg_list_joins, parentheses_joins, atom_choices, part_choices, cmp_operator_ends, sum_operator_ends, product_operator_ends, atom_ends}

-- ---- expr

abbrev pub ExprSo : And × List (Leaf × And) → List Leaf → List Leaf → Type 0
ExprSo x old new = TrailTaken (on (is T.Or)) and_form (both (word T.Or) and_form) x old new

pub expr_first : {old new : List Leaf} → FailsAt and_form old new → FailsAt expr_form old new
expr_first {old} {new} r = shown_refused expr_shows (trail_first (chain_trails expr_chains) r)

pub expr_begun_with : {x : And} {old new : List Leaf} → Parsed and_form x (and_form.continues x) old new → ExprSo (x, []) old new
expr_begun_with {x} {old} {new} t = trail_begun (on (is T.Or)) and_form (both (word T.Or) and_form) t

pub expr_later : (x : And × List (Leaf × And)) {o : Leaf} {old mid late new : List Leaf} → ExprSo x old mid → Parsed (word T.Or) o nothing mid late → FailsAt and_form late new → FailsAt expr_form old new
expr_later x {o} {old} {mid} {late} {new} t u r = shown_refused expr_shows (chain_later x expr_chains t u r)

pub expr_pushed : (x : And × List (Leaf × And)) {o : Leaf} {y : And} {old mid late new : List Leaf} → ExprSo x old mid → Parsed (word T.Or) o nothing mid late → Parsed and_form y (and_form.continues y) late new → ExprSo (x.0, x.1 ++ ((o, y) ∷ [])) old new
expr_pushed x {o} {y} {old} {mid} {late} {new} t u w = chain_pushed x expr_chains t u w

pub expr_done : (x : And × List (Leaf × And)) {old new : List Leaf} → ExprSo x old new → Stops (on (is T.Or)) new → Parsed expr_form (expr_made x) (expr_form.continues (expr_made x)) old new
expr_done x {old} {new} t s = shown_took expr_shows (trail_done (on (is T.Or)) and_form (both (word T.Or) and_form) x t s)

-- ---- and

abbrev pub AndSo : Cmp × List (Leaf × Cmp) → List Leaf → List Leaf → Type 0
AndSo x old new = TrailTaken (on (is T.And)) cmp_form (both (word T.And) cmp_form) x old new

pub and_first : {old new : List Leaf} → FailsAt cmp_form old new → FailsAt and_form old new
and_first {old} {new} r = shown_refused and_shows (trail_first (chain_trails and_chains) r)

pub and_begun_with : {x : Cmp} {old new : List Leaf} → Parsed cmp_form x (cmp_form.continues x) old new → AndSo (x, []) old new
and_begun_with {x} {old} {new} t = trail_begun (on (is T.And)) cmp_form (both (word T.And) cmp_form) t

pub and_later : (x : Cmp × List (Leaf × Cmp)) {o : Leaf} {old mid late new : List Leaf} → AndSo x old mid → Parsed (word T.And) o nothing mid late → FailsAt cmp_form late new → FailsAt and_form old new
and_later x {o} {old} {mid} {late} {new} t u r = shown_refused and_shows (chain_later x and_chains t u r)

pub and_pushed : (x : Cmp × List (Leaf × Cmp)) {o : Leaf} {y : Cmp} {old mid late new : List Leaf} → AndSo x old mid → Parsed (word T.And) o nothing mid late → Parsed cmp_form y (cmp_form.continues y) late new → AndSo (x.0, x.1 ++ ((o, y) ∷ [])) old new
and_pushed x {o} {y} {old} {mid} {late} {new} t u w = chain_pushed x and_chains t u w

pub and_done : (x : Cmp × List (Leaf × Cmp)) {old new : List Leaf} → AndSo x old new → Stops (on (is T.And)) new → Parsed and_form (and_made x) (and_form.continues (and_made x)) old new
and_done x {old} {new} t s = shown_took and_shows (trail_done (on (is T.And)) cmp_form (both (word T.And) cmp_form) x t s)

-- ---- sum

abbrev pub SumSo : Product × List (SumOperator × Product) → List Leaf → List Leaf → Type 0
SumSo x old new = TrailTaken (on is_sum_operator) product_form (both sum_operator_form product_form) x old new

pub sum_first : {old new : List Leaf} → FailsAt product_form old new → FailsAt sum_form old new
sum_first {old} {new} r = shown_refused sum_shows (trail_first (chain_trails sum_chains) r)

pub sum_begun_with : {x : Product} {old new : List Leaf} → Parsed product_form x (product_form.continues x) old new → SumSo (x, []) old new
sum_begun_with {x} {old} {new} t = trail_begun (on is_sum_operator) product_form (both sum_operator_form product_form) t

pub sum_later : (x : Product × List (SumOperator × Product)) {o : SumOperator} {old mid late new : List Leaf} → SumSo x old mid → Parsed sum_operator_form o nothing mid late → FailsAt product_form late new → FailsAt sum_form old new
sum_later x {o} {old} {mid} {late} {new} t u r = shown_refused sum_shows (chain_later x sum_chains t (taken_ended sum_operator_ends u) r)

pub sum_pushed : (x : Product × List (SumOperator × Product)) {o : SumOperator} {y : Product} {old mid late new : List Leaf} → SumSo x old mid → Parsed sum_operator_form o nothing mid late → Parsed product_form y (product_form.continues y) late new → SumSo (x.0, x.1 ++ ((o, y) ∷ [])) old new
sum_pushed x {o} {y} {old} {mid} {late} {new} t u w = chain_pushed x sum_chains t (taken_ended sum_operator_ends u) w

pub sum_done : (x : Product × List (SumOperator × Product)) {old new : List Leaf} → SumSo x old new → Stops (on is_sum_operator) new → Parsed sum_form (sum_made x) (sum_form.continues (sum_made x)) old new
sum_done x {old} {new} t s = shown_took sum_shows (trail_done (on is_sum_operator) product_form (both sum_operator_form product_form) x t s)

-- ---- product

abbrev pub ProductSo : Prefix × List (ProductOperator × Prefix) → List Leaf → List Leaf → Type 0
ProductSo x old new = TrailTaken (on is_product_operator) prefix_form (both product_operator_form prefix_form) x old new

pub product_first : {old new : List Leaf} → FailsAt prefix_form old new → FailsAt product_form old new
product_first {old} {new} r = shown_refused product_shows (trail_first (chain_trails product_chains) r)

pub product_begun_with : {x : Prefix} {old new : List Leaf} → Parsed prefix_form x (prefix_form.continues x) old new → ProductSo (x, []) old new
product_begun_with {x} {old} {new} t = trail_begun (on is_product_operator) prefix_form (both product_operator_form prefix_form) t

pub product_later : (x : Prefix × List (ProductOperator × Prefix)) {o : ProductOperator} {old mid late new : List Leaf} → ProductSo x old mid → Parsed product_operator_form o nothing mid late → FailsAt prefix_form late new → FailsAt product_form old new
product_later x {o} {old} {mid} {late} {new} t u r = shown_refused product_shows (chain_later x product_chains t (taken_ended product_operator_ends u) r)

pub product_pushed : (x : Prefix × List (ProductOperator × Prefix)) {o : ProductOperator} {y : Prefix} {old mid late new : List Leaf} → ProductSo x old mid → Parsed product_operator_form o nothing mid late → Parsed prefix_form y (prefix_form.continues y) late new → ProductSo (x.0, x.1 ++ ((o, y) ∷ [])) old new
product_pushed x {o} {y} {old} {mid} {late} {new} t u w = chain_pushed x product_chains t (taken_ended product_operator_ends u) w

pub product_done : (x : Prefix × List (ProductOperator × Prefix)) {old new : List Leaf} → ProductSo x old new → Stops (on is_product_operator) new → Parsed product_form (product_made x) (product_form.continues (product_made x)) old new
product_done x {old} {new} t s = shown_took product_shows (trail_done (on is_product_operator) prefix_form (both product_operator_form prefix_form) x t s)

-- ---- arg_list

abbrev pub ArgListSo : Arg × List (Leaf × Arg) → List Leaf → List Leaf → Type 0
ArgListSo x old new = TrailTaken (on (is T.Comma)) arg_form (both (word T.Comma) arg_form) x old new

pub arg_list_first : {old new : List Leaf} → FailsAt arg_form old new → FailsAt arg_list_form old new
arg_list_first {old} {new} r = (trail_first (chain_trails arg_list_chains) r)

pub arg_list_begun_with : {x : Arg} {old new : List Leaf} → Parsed arg_form x (arg_form.continues x) old new → ArgListSo (x, []) old new
arg_list_begun_with {x} {old} {new} t = trail_begun (on (is T.Comma)) arg_form (both (word T.Comma) arg_form) t

pub arg_list_later : (x : Arg × List (Leaf × Arg)) {o : Leaf} {old mid late new : List Leaf} → ArgListSo x old mid → Parsed (word T.Comma) o nothing mid late → FailsAt arg_form late new → FailsAt arg_list_form old new
arg_list_later x {o} {old} {mid} {late} {new} t u r = (chain_later x arg_list_chains t u r)

pub arg_list_pushed : (x : Arg × List (Leaf × Arg)) {o : Leaf} {y : Arg} {old mid late new : List Leaf} → ArgListSo x old mid → Parsed (word T.Comma) o nothing mid late → Parsed arg_form y (arg_form.continues y) late new → ArgListSo (x.0, x.1 ++ ((o, y) ∷ [])) old new
arg_list_pushed x {o} {y} {old} {mid} {late} {new} t u w = chain_pushed x arg_list_chains t u w

pub arg_list_done : (x : Arg × List (Leaf × Arg)) {old new : List Leaf} → ArgListSo x old new → Stops (on (is T.Comma)) new → Parsed arg_list_form x (arg_list_form.continues x) old new
arg_list_done x {old} {new} t s = trail_done (on (is T.Comma)) arg_form (both (word T.Comma) arg_form) x t s

-- ---- cmp

-- a tree that was taken stands in front
pub begun_front : {X : Type 0} (test : Leaf → Bool) (f : Form Leaf X) {x : X} {ends : Leaf → Bool} {old new : List Leaf} → StartsWithin test f → Parsed f x ends old new → begins_by test old ≡ true
begun_front test f {x} {ends} {old} {new} begun t = begins_at test (f.tokens x ++ new) old (sym t.spelled) (begins_left test (f.tokens x) new (begun x t.right))

pub cmp_first : {old new : List Leaf} → FailsAt sum_form old new → FailsAt cmp_form old new
cmp_first {old} {new} r = shown_refused cmp_shows (once_first cmp_onces r)

pub cmp_alone : {x : Sum} {old new : List Leaf} → Parsed sum_form x (sum_form.continues x) old new → Stops (on is_cmp_operator) new → Parsed cmp_form (cmp_made (x, None)) (cmp_form.continues (cmp_made (x, None))) old new
cmp_alone {x} {old} {new} t s = shown_took cmp_shows (once_alone (on is_cmp_operator) sum_form (both cmp_operator_form sum_form) x t s)

pub cmp_later : {x : Sum} {o : CmpOperator} {old mid late new : List Leaf} → Parsed sum_form x (sum_form.continues x) old mid → Parsed cmp_operator_form o nothing mid late → FailsAt sum_form late new → FailsAt cmp_form old new
cmp_later {x} {o} {old} {mid} {late} {new} t u r = shown_refused cmp_shows (once_later cmp_onces t (begun_front (on is_cmp_operator) cmp_operator_form cmp_operator_begun u) (behind cmp_joins (taken_ended cmp_operator_ends u) r))

pub cmp_done : {x y : Sum} {o : CmpOperator} {old mid late new : List Leaf} → Parsed sum_form x (sum_form.continues x) old mid → Parsed cmp_operator_form o nothing mid late → Parsed sum_form y (sum_form.continues y) late new → Parsed cmp_form (cmp_made (x, Some (o, y))) (cmp_form.continues (cmp_made (x, Some (o, y)))) old new
cmp_done {x} {y} {o} {old} {mid} {late} {new} t u w = shown_took cmp_shows (once_taken (on is_cmp_operator) sum_form (both cmp_operator_form sum_form) x (o, y) t (taken_both (taken_ended cmp_operator_ends u) w))

-- ---- a prefix that no operator stands behind

pub no_infix : (test : Test) → is_within test is_infix_operator terminals ≡ true → (new : List Leaf) → Stops (on is_infix_operator) new → Stops (on test) new
no_infix test e new s = stops_within test is_infix_operator new e s

pub product_alone : {x : Prefix} {old new : List Leaf} → Parsed prefix_form x (prefix_form.continues x) old new → Stops (on is_infix_operator) new → Parsed product_form (product_made (x, [])) (product_form.continues (product_made (x, []))) old new
product_alone {x} {old} {new} t s = product_done (x, []) (product_begun_with t) (no_infix is_product_operator refl new s)

pub sum_alone : {x : Product} {old new : List Leaf} → Parsed product_form x (product_form.continues x) old new → Stops (on is_infix_operator) new → Parsed sum_form (sum_made (x, [])) (sum_form.continues (sum_made (x, []))) old new
sum_alone {x} {old} {new} t s = sum_done (x, []) (sum_begun_with t) (no_infix is_sum_operator refl new s)

pub and_alone : {x : Cmp} {old new : List Leaf} → Parsed cmp_form x (cmp_form.continues x) old new → Stops (on is_infix_operator) new → Parsed and_form (and_made (x, [])) (and_form.continues (and_made (x, []))) old new
and_alone {x} {old} {new} t s = and_done (x, []) (and_begun_with t) (no_infix (is T.And) refl new s)

pub expr_alone : {x : And} {old new : List Leaf} → Parsed and_form x (and_form.continues x) old new → Stops (on is_infix_operator) new → Parsed expr_form (expr_made (x, [])) (expr_form.continues (expr_made (x, []))) old new
expr_alone {x} {old} {new} t s = expr_done (x, []) (expr_begun_with t) (no_infix (is T.Or) refl new s)

-- the expression that a prefix is by itself
abbrev pub lone_sum : Prefix → Sum
lone_sum x = sum_made (product_made (x, []), [])

abbrev pub lone_expr : Prefix → Expr
lone_expr x = expr_made (and_made (cmp_made (lone_sum x, None), []), [])

pub lone_taken : (x : Prefix) {old new : List Leaf} → Parsed prefix_form x (prefix_form.continues x) old new → Stops (on is_infix_operator) new → Parsed expr_form (lone_expr x) (expr_form.continues (lone_expr x)) old new
lone_taken x {old} {new} t s = expr_alone (and_alone (cmp_alone (sum_alone (product_alone t s) s) (no_infix is_cmp_operator refl new s)) s) s

pub lone_refused : {old new : List Leaf} → FailsAt prefix_form old new → FailsAt expr_form old new
lone_refused {old} {new} r = expr_first (and_first (cmp_first (sum_first (product_first r))))

-- ---- prefix

abbrev pub operator_rule : Form Leaf (Option Leaf)
operator_rule = perhaps (on is_prefix_operator) (token (on is_prefix_operator))

pub prefix_refused : {o : Option Leaf} {old mid new : List Leaf} → Parsed operator_rule o (operator_rule.continues o) old mid → FailsAt postfix_form mid new → FailsAt prefix_form old new
prefix_refused {o} {old} {mid} {new} t r = shown_refused prefix_shows (behind prefix_joins t r)

pub prefix_done : {o : Option Leaf} {x : Postfix} {old mid new : List Leaf} → Parsed operator_rule o (operator_rule.continues o) old mid → Parsed postfix_form x (postfix_form.continues x) mid new → Parsed prefix_form (prefix_made (o, x)) (prefix_form.continues (prefix_made (o, x))) old new
prefix_done {o} {x} {old} {mid} {new} t u = shown_took prefix_shows (taken_both t u)

pub operator_out : (old : List Leaf) → Stops (on is_prefix_operator) old → Parsed operator_rule None (operator_rule.continues None) old old
operator_out old s = left_out (on is_prefix_operator) (token (on is_prefix_operator)) old s

pub operator_in : (t : Leaf) (new : List Leaf) → on is_prefix_operator t ≡ true → Parsed operator_rule (Some t) (operator_rule.continues (Some t)) (t ∷ new) new
operator_in t new m = put_in (on is_prefix_operator) (token (on is_prefix_operator)) t (t ∷ new) new (took (on is_prefix_operator) t new m)

-- ---- postfix

abbrev pub PostfixSo : Atom × List PostfixPart → List Leaf → List Leaf → Type 0
PostfixSo x old new = TrailTaken (on begins_part) atom_form part_form x old new

pub postfix_first : {old new : List Leaf} → FailsAt atom_form old new → FailsAt postfix_form old new
postfix_first {old} {new} r = shown_refused postfix_shows (trail_first postfix_trails r)

pub postfix_begun_with : {x : Atom} {old new : List Leaf} → Parsed atom_form x (atom_form.continues x) old new → PostfixSo (x, []) old new
postfix_begun_with {x} {old} {new} t = trail_begun (on begins_part) atom_form part_form t

pub postfix_later : (x : Atom × List PostfixPart) {old mid new : List Leaf} → PostfixSo x old mid → begins_by (on begins_part) mid ≡ true → FailsAt part_form mid new → FailsAt postfix_form old new
postfix_later x {old} {mid} {new} t h r = shown_refused postfix_shows (trail_later x postfix_trails t h r)

pub postfix_pushed : (x : Atom × List PostfixPart) {p : PostfixPart} {old mid new : List Leaf} → PostfixSo x old mid → Parsed part_form p (part_form.continues p) mid new → PostfixSo (x.0, x.1 ++ (p ∷ [])) old new
postfix_pushed x {p} {old} {mid} {new} t u = trail_pushed (on begins_part) atom_form part_form x t u

pub postfix_done : (x : Atom × List PostfixPart) {old new : List Leaf} → PostfixSo x old new → Stops (on begins_part) new → Parsed postfix_form (postfix_made x) (postfix_form.continues (postfix_made x)) old new
postfix_done x {old} {new} t s = shown_took postfix_shows (trail_done (on begins_part) atom_form part_form x t s)

-- ---- part

some_name : Begins (word T.Identifier) []
some_name = some_token (is T.Identifier) false T.Identifier refl

pub part_member_refused : (t : Leaf) {old new : List Leaf} → on (is T.Dot) t ≡ true → FailsAt (word T.Identifier) old new → FailsAt part_form (t ∷ old) new
part_member_refused t {old} {new} m r = shown_refused part_shows (choice_left part_choices m (behind_token (on (is T.Dot)) t m r))

pub part_member : (t s : Leaf) {old new : List Leaf} → on (is T.Dot) t ≡ true → Parsed (word T.Identifier) s nothing old new → Parsed part_form (part.Member t s) (part_form.continues (part.Member t s)) (t ∷ old) new
part_member t s {old} {new} m u = subst (λ x. Parsed part_form x (part_form.continues x) (t ∷ old) new) (member_is t s) (shown_took {y = inl (t, s)} part_shows (choice_took_left member_rule args_form (taken_token (on (is T.Dot)) t m u)))

pub part_args_refused : (t : Leaf) {old new : List Leaf} → on opens_args t ≡ true → FailsAt args_form (t ∷ old) new → FailsAt part_form (t ∷ old) new
part_args_refused t {old} {new} m r = shown_refused part_shows (choice_right part_choices (apart opens_args (is T.Dot) refl t m) r)

pub part_call : (x : Args) {old new : List Leaf} → Parsed args_form x (args_form.continues x) old new → Parsed part_form (part.Call x) (part_form.continues (part.Call x)) old new
part_call x {old} {new} u = subst (λ z. Parsed part_form z (part_form.continues z) old new) (call_is x) (shown_took {y = inr x} part_shows (choice_took_right member_rule args_form u))

-- ---- args

close_some : on (is T.RightParenthesis) (sample false T.RightParenthesis) ≡ true
close_some = sample_on (is T.RightParenthesis) false T.RightParenthesis refl

pub args_inside : (t : Leaf) {old new : List Leaf} → on opens_args t ≡ true → Stops (on (is T.RightParenthesis)) old → FailsAt arg_list_form old new → FailsAt args_form (t ∷ old) new
args_inside t {old} {new} m s r = shown_refused args_shows (behind_token (on opens_args) t m
    (wanted_refused (on begins_expr) (on (is T.RightParenthesis)) arg_list_form (sample false T.RightParenthesis) old new (λ x u e. arg_list_apart x u e) close_some s r))

pub args_unclosed : (t : Leaf) {x : ArgList} {old mid new : List Leaf} → on opens_args t ≡ true → Parsed arg_list_form x (arg_list_form.continues x) old mid → FailsAt (word T.RightParenthesis) mid new → FailsAt args_form (t ∷ old) new
args_unclosed t {x} {old} {mid} {new} m u r = shown_refused args_shows (behind_token (on opens_args) t m (behind arg_list_joins (put_in (on begins_expr) arg_list_form x old mid u) r))

pub args_done : (t s : Leaf) {x : ArgList} {old mid new : List Leaf} → on opens_args t ≡ true → Parsed arg_list_form x (arg_list_form.continues x) old mid → Parsed (word T.RightParenthesis) s nothing mid new → Parsed args_form (args_made (t, (Some x, s))) (args_form.continues (args_made (t, (Some x, s)))) (t ∷ old) new
args_done t s {x} {old} {mid} {new} m u w = shown_took {y = (t, (Some x, s))} args_shows (taken_token (on opens_args) t m (both_taken (perhaps (on begins_expr) arg_list_form) (word T.RightParenthesis) (Some x) s nothing old mid new (put_in (on begins_expr) arg_list_form x old mid u) w))

pub args_empty : (t s : Leaf) {new : List Leaf} → on opens_args t ≡ true → on (is T.RightParenthesis) s ≡ true → Parsed args_form (args_made (t, (None, s))) (args_form.continues (args_made (t, (None, s)))) (t ∷ (s ∷ new)) new
args_empty t s {new} m e = shown_took {y = (t, (None, s))} args_shows (taken_token (on opens_args) t m (both_taken (perhaps (on begins_expr) arg_list_form) (word T.RightParenthesis) None s nothing (s ∷ new) (s ∷ new) new
    (left_out (on begins_expr) arg_list_form (s ∷ new) (apart (is T.RightParenthesis) begins_expr refl s e)) (took (on (is T.RightParenthesis)) s new e)))

-- ---- arg

pub arg_behind_label : (n c : Leaf) {old new : List Leaf} → on (is T.Identifier) n ≡ true → on (is T.Colon) c ≡ true → FailsAt expr_form old new → FailsAt arg_form (n ∷ (c ∷ old)) new
arg_behind_label n c {old} {new} mn mc r = shown_refused arg_shows (label_refused n c arg_labels mn mc r)

pub arg_no_label : {old new : List Leaf} → begins_label (on (is T.Identifier)) (on (is T.Colon)) old ≡ false → FailsAt expr_form old new → FailsAt arg_form old new
arg_no_label {old} {new} h r = shown_refused arg_shows (unlabelled_refused arg_labels h r)

pub arg_labelled : (n c : Leaf) {x : Expr} {old new : List Leaf} → on (is T.Identifier) n ≡ true → on (is T.Colon) c ≡ true → Parsed expr_form x (expr_form.continues x) old new → Parsed arg_form (arg_made (Some (n, c), x)) (arg_form.continues (arg_made (Some (n, c), x))) (n ∷ (c ∷ old)) new
arg_labelled n c {x} {old} {new} mn mc t = shown_took {y = (Some (n, c), x)} arg_shows (label_taken (on (is T.Identifier)) (on (is T.Colon)) expr_form n c mn mc t)

pub arg_plain : {x : Expr} {old new : List Leaf} → begins_label (on (is T.Identifier)) (on (is T.Colon)) old ≡ false → Parsed expr_form x (expr_form.continues x) old new → Parsed arg_form (arg_made (None, x)) (arg_form.continues (arg_made (None, x))) old new
arg_plain {x} {old} {new} h t = shown_took {y = (None, x)} arg_shows (unlabelled_taken (on (is T.Identifier)) (on (is T.Colon)) expr_form h t)

-- ---- atom

simple_taken : (t : Leaf) (new : List Leaf) → on is_simple_atom t ≡ true → Parsed atom_form (atom_made (inl t)) nothing (t ∷ new) new
simple_taken t new m = shown_taken {y = inl t} atom_shows (choice_took_left (token (on is_simple_atom)) (parentheses_rule expr_form) (took (on is_simple_atom) t new m))

pub atom_integer : (t : Leaf) (new : List Leaf) → on (is T.Integer) t ≡ true → Parsed atom_form (atom.Integer t) nothing (t ∷ new) new
atom_integer t new m = subst (λ x. Parsed atom_form x nothing (t ∷ new) new) (integer_is t m) (simple_taken t new (within (is T.Integer) is_simple_atom refl t m))

pub atom_string : (t : Leaf) (new : List Leaf) → on (is T.StringText) t ≡ true → Parsed atom_form (atom.StringText t) nothing (t ∷ new) new
atom_string t new m = subst (λ x. Parsed atom_form x nothing (t ∷ new) new) (string_is t m) (simple_taken t new (within (is T.StringText) is_simple_atom refl t m))

pub atom_true : (t : Leaf) (new : List Leaf) → on (is T.True) t ≡ true → Parsed atom_form (atom.True t) nothing (t ∷ new) new
atom_true t new m = subst (λ x. Parsed atom_form x nothing (t ∷ new) new) (true_is t m) (simple_taken t new (within (is T.True) is_simple_atom refl t m))

pub atom_false : (t : Leaf) (new : List Leaf) → on (is T.False) t ≡ true → Parsed atom_form (atom.False t) nothing (t ∷ new) new
atom_false t new m = subst (λ x. Parsed atom_form x nothing (t ∷ new) new) (false_is t m) (simple_taken t new (within (is T.False) is_simple_atom refl t m))

pub atom_name : (t : Leaf) (new : List Leaf) → on (is T.Identifier) t ≡ true → Parsed atom_form (atom.Name t) nothing (t ∷ new) new
atom_name t new m = subst (λ x. Parsed atom_form x nothing (t ∷ new) new) (name_is t m) (simple_taken t new (within (is T.Identifier) is_simple_atom refl t m))

pub atom_self : (t : Leaf) (new : List Leaf) → on (is T.SelfValue) t ≡ true → Parsed atom_form (atom.SelfValue t) nothing (t ∷ new) new
atom_self t new m = subst (λ x. Parsed atom_form x nothing (t ∷ new) new) (self_is t m) (simple_taken t new (within (is T.SelfValue) is_simple_atom refl t m))

-- the simple atoms continue with nothing
pub atom_took : {x : Atom} {old new : List Leaf} → Parsed atom_form x nothing old new → Parsed atom_form x (atom_form.continues x) old new
atom_took {x} {old} {new} t = taken_ended atom_ends t

inner_some : Begins (both expr_form (word T.RightParenthesis)) []
inner_some = both_some expr_form (word T.RightParenthesis) expr_some (some_token (is T.RightParenthesis) false T.RightParenthesis refl)

-- no atom stands there
pub atom_unopened : {old new : List Leaf} → Stops (on is_simple_atom) old → FailsAt (word T.LeftParenthesis) old new → FailsAt atom_form old new
atom_unopened {old} {new} s r = shown_refused atom_shows (choice_right atom_choices s (first (token_joins (on (is T.LeftParenthesis)) (both expr_form (word T.RightParenthesis)) inner_some) r))

parentheses_refused : (t : Leaf) {old new : List Leaf} → on (is T.LeftParenthesis) t ≡ true → FailsAt (parentheses_rule expr_form) (t ∷ old) new → FailsAt atom_form (t ∷ old) new
parentheses_refused t {old} {new} m r = shown_refused atom_shows (choice_right atom_choices (apart (is T.LeftParenthesis) is_simple_atom refl t m) r)

-- the fault stands in the expression
pub parentheses_inside : (t : Leaf) {old new : List Leaf} → on (is T.LeftParenthesis) t ≡ true → FailsAt expr_form old new → FailsAt atom_form (t ∷ old) new
parentheses_inside t {old} {new} m r = parentheses_refused t m (behind_token (on (is T.LeftParenthesis)) t m (first parentheses_joins r))

-- it stands where the bracket should close
pub parentheses_unclosed : (t : Leaf) {x : Expr} {old mid new : List Leaf} → on (is T.LeftParenthesis) t ≡ true → Parsed expr_form x (expr_form.continues x) old mid → FailsAt (word T.RightParenthesis) mid new → FailsAt atom_form (t ∷ old) new
parentheses_unclosed t {x} {old} {mid} {new} m u r = parentheses_refused t m (behind_token (on (is T.LeftParenthesis)) t m (behind parentheses_joins u r))

pub parentheses_done : (t s : Leaf) {x : Expr} {old mid new : List Leaf} → on (is T.LeftParenthesis) t ≡ true → Parsed expr_form x (expr_form.continues x) old mid → Parsed (word T.RightParenthesis) s nothing mid new → Parsed atom_form (atom.Parentheses (t, x, s)) (atom_form.continues (atom.Parentheses (t, x, s))) (t ∷ old) new
parentheses_done t s {x} {old} {mid} {new} m u w = subst (λ z. Parsed atom_form z (atom_form.continues z) (t ∷ old) new) (parentheses_is t x s)
    (shown_took {y = inr (t, (x, s))} atom_shows (choice_took_right (token (on is_simple_atom)) (parentheses_rule expr_form) (taken_token (on (is T.LeftParenthesis)) t m (taken_both u w))))
