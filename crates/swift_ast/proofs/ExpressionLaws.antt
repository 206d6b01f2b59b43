-- What the trees of expressions begin with and continue with, and that no two of them have the same tokens.
use Rattle.std.proofs.Common.{◌≡◌, ℕ, zero, suc, true, false, [], refl}
use Rattle.grammar.specs.Forms.{token, both, perhaps}
use Rattle.grammar.specs.Faults.{IsUnambiguousBelow, IsUnambiguous, StartsWithin, Begins, NeverContinuesWith, ContinuesWith, Follows, IsBare, Bare}
use Rattle.grammar.proofs.Basics.{one_of_any, none_smaller, goes_apart, goes_more, weaker_begun, ends_goes, ends_apart, bare_begins}
use Rattle.grammar.proofs.Sequences.{token_one, token_is_one, token_begun, both_one, both_begun, both_goes, after_token, headed_one, ended_follows, Joins}
use Rattle.grammar.proofs.Rows.{trail_one, trail_begun_by, trail_goes, trail_bare, Trails, Chains, chain_one, chain_goes}
use Rattle.grammar.proofs.Options.{perhaps_one, perhaps_follows, optional_one, optional_begun, without_bare, once_one, once_bare, once_begun, once_goes, Onces}
use Rattle.grammar.proofs.Choices.{either_ends, Choices, choice_one, choice_begun, left_bare}
use Rattle.grammar.proofs.Labels.{labelled_one, labelled_begun, labelled_goes, labelled_some, Labels}
use Rattle.grammar.proofs.Shown.{shown_one, shown_is_one, shown_begun, shown_goes, shown_ends, shown_begins, shown_bare}
use Rattle.swift_ast.specs.declared.terminals.Terminal.TheVariants as T
use Rattle.swift_ast.specs.declared.expressions.CmpOperator.{CmpOperator}
use Rattle.swift_ast.specs.declared.expressions.SumOperator.{SumOperator}
use Rattle.swift_ast.specs.declared.expressions.ProductOperator.{ProductOperator}
use Rattle.swift_ast.specs.declared.expressions.PostfixPart.{PostfixPart}
use Rattle.swift_ast.specs.declared.expressions.Args.{Args}
use Rattle.swift_ast.specs.declared.expressions.Atom.{Atom}
use Rattle.swift_ast.specs.Leaves.{Leaf}
use Rattle.swift_ast.specs.Terminals.{terminals}
use Rattle.swift_ast.specs.Tests.{Test, on, is, or, is_prefix_operator, is_product_operator, is_sum_operator, is_cmp_operator, is_simple_atom, opens_args, begins_part, begins_atom, begins_expr}
use Rattle.swift_ast.specs.Expressions.{word, cmp_operator_form, sum_operator_form, product_operator_form, prefix_rule, member_rule, parentheses_rule, expr_form, and_form, cmp_form, sum_form, product_form, prefix_form, postfix_form, part_form, args_form, arg_form, atom_form}
use Rattle.swift_ast.proofs.TestFacts.{apart, within, sample, sample_on, some_token}
use Rattle.swift_ast.proofs.ExpressionShows.{arg_list_form, cmp_operator_shows, sum_operator_shows, product_operator_shows, expr_shows, and_shows, cmp_shows, sum_shows, product_shows, prefix_shows, postfix_shows, args_shows, arg_shows, part_shows, atom_shows}

-- ---- operators

pub cmp_operator_begun : StartsWithin (on is_cmp_operator) cmp_operator_form
cmp_operator_begun = shown_begun (on is_cmp_operator) cmp_operator_shows (token_begun (on is_cmp_operator))

pub sum_operator_begun : StartsWithin (on is_sum_operator) sum_operator_form
sum_operator_begun = shown_begun (on is_sum_operator) sum_operator_shows (token_begun (on is_sum_operator))

pub product_operator_begun : StartsWithin (on is_product_operator) product_operator_form
product_operator_begun = shown_begun (on is_product_operator) product_operator_shows (token_begun (on is_product_operator))

pub cmp_operator_ends : (x : CmpOperator) (t : Leaf) → cmp_operator_form.continues x t ≡ false
cmp_operator_ends = shown_ends cmp_operator_shows (λ x t. refl)

pub sum_operator_ends : (x : SumOperator) (t : Leaf) → sum_operator_form.continues x t ≡ false
sum_operator_ends = shown_ends sum_operator_shows (λ x t. refl)

pub product_operator_ends : (x : ProductOperator) (t : Leaf) → product_operator_form.continues x t ≡ false
product_operator_ends = shown_ends product_operator_shows (λ x t. refl)

pub cmp_operator_one : IsUnambiguous cmp_operator_form
cmp_operator_one = shown_is_one cmp_operator_shows (token_is_one (on is_cmp_operator))

pub sum_operator_one : IsUnambiguous sum_operator_form
sum_operator_one = shown_is_one sum_operator_shows (token_is_one (on is_sum_operator))

pub product_operator_one : IsUnambiguous product_operator_form
product_operator_one = shown_is_one product_operator_shows (token_is_one (on is_product_operator))

-- ---- what each continues with

abbrev pub product_on : Test
product_on = or is_product_operator begins_part

abbrev pub sum_on : Test
sum_on = or is_sum_operator product_on

abbrev pub cmp_on : Test
cmp_on = or is_cmp_operator sum_on

abbrev pub and_on : Test
and_on = or (is T.And) cmp_on

abbrev pub expr_on : Test
expr_on = or (is T.Or) and_on

abbrev pub arg_on : Test
arg_on = or (is T.Colon) expr_on

abbrev pub arg_list_on : Test
arg_list_on = or (is T.Comma) arg_on

pub atom_ends : (x : Atom) (t : Leaf) → atom_form.continues x t ≡ false
atom_ends = shown_ends atom_shows (either_ends (token (on is_simple_atom)) (parentheses_rule expr_form) (λ x t. refl) (λ x t. refl))

pub args_ends : (x : Args) (t : Leaf) → args_form.continues x t ≡ false
args_ends = shown_ends args_shows (λ x t. refl)

pub part_ends : (x : PostfixPart) (t : Leaf) → part_form.continues x t ≡ false
part_ends = shown_ends part_shows (either_ends member_rule args_form (λ x t. refl) args_ends)

pub postfix_goes : ContinuesWith (on begins_part) postfix_form
postfix_goes = shown_goes (on begins_part) postfix_shows (trail_goes (on begins_part) (on begins_part) atom_form part_form (λ t m. m) (ends_goes (on begins_part) atom_form atom_ends) (ends_goes (on begins_part) part_form part_ends))

pub prefix_goes : ContinuesWith (on begins_part) prefix_form
prefix_goes = shown_goes (on begins_part) prefix_shows (both_goes (on begins_part) (perhaps (on is_prefix_operator) (token (on is_prefix_operator))) postfix_form postfix_goes)

pub product_goes : ContinuesWith (on product_on) product_form
product_goes = shown_goes (on product_on) product_shows (chain_goes (on product_on) (on is_product_operator) product_operator_form prefix_form (within is_product_operator product_on refl) (goes_more (on begins_part) (on product_on) prefix_form prefix_goes (within begins_part product_on refl)))

pub sum_goes : ContinuesWith (on sum_on) sum_form
sum_goes = shown_goes (on sum_on) sum_shows (chain_goes (on sum_on) (on is_sum_operator) sum_operator_form product_form (within is_sum_operator sum_on refl) (goes_more (on product_on) (on sum_on) product_form product_goes (within product_on sum_on refl)))

sum_goes_cmp : ContinuesWith (on cmp_on) sum_form
sum_goes_cmp = goes_more (on sum_on) (on cmp_on) sum_form sum_goes (within sum_on cmp_on refl)

pub cmp_goes : ContinuesWith (on cmp_on) cmp_form
cmp_goes = shown_goes (on cmp_on) cmp_shows (once_goes (on cmp_on) (on is_cmp_operator) sum_form (both cmp_operator_form sum_form) (within is_cmp_operator cmp_on refl) sum_goes_cmp (both_goes (on cmp_on) cmp_operator_form sum_form sum_goes_cmp))

pub and_goes : ContinuesWith (on and_on) and_form
and_goes = shown_goes (on and_on) and_shows (chain_goes (on and_on) (on (is T.And)) (word T.And) cmp_form (within (is T.And) and_on refl) (goes_more (on cmp_on) (on and_on) cmp_form cmp_goes (within cmp_on and_on refl)))

pub expr_goes : ContinuesWith (on expr_on) expr_form
expr_goes = shown_goes (on expr_on) expr_shows (chain_goes (on expr_on) (on (is T.Or)) (word T.Or) and_form (within (is T.Or) expr_on refl) (goes_more (on and_on) (on expr_on) and_form and_goes (within and_on expr_on refl)))

pub arg_goes : ContinuesWith (on arg_on) arg_form
arg_goes = shown_goes (on arg_on) arg_shows (labelled_goes (on arg_on) (on (is T.Identifier)) (on (is T.Colon)) expr_form (within (is T.Colon) arg_on refl) (goes_more (on expr_on) (on arg_on) expr_form expr_goes (within expr_on arg_on refl)))

pub arg_list_goes : ContinuesWith (on arg_list_on) arg_list_form
arg_list_goes = chain_goes (on arg_list_on) (on (is T.Comma)) (word T.Comma) arg_form (within (is T.Comma) arg_list_on refl) (goes_more (on arg_on) (on arg_list_on) arg_form arg_goes (within arg_on arg_list_on refl))

-- an expression does not continue with a token of a test that is apart
pub expr_apart : (test : Test) → Rattle.grammar.specs.Tests.are_apart test expr_on terminals ≡ true → NeverContinuesWith (on test) expr_form
expr_apart test e = goes_apart (on test) (on expr_on) expr_form expr_goes (apart test expr_on e)

-- ---- what each begins with

parentheses_begun : StartsWithin (on (is T.LeftParenthesis)) (parentheses_rule expr_form)
parentheses_begun = both_begun (on (is T.LeftParenthesis)) (word T.LeftParenthesis) (both expr_form (word T.RightParenthesis)) (token_begun (on (is T.LeftParenthesis)))

pub atom_choices : Choices (on is_simple_atom) (on (is T.LeftParenthesis)) (token (on is_simple_atom)) (parentheses_rule expr_form)
atom_choices = record { left = token_begun (on is_simple_atom); right = parentheses_begun; apart = apart is_simple_atom (is T.LeftParenthesis) refl }

pub atom_begun : StartsWithin (on begins_atom) atom_form
atom_begun = shown_begun (on begins_atom) atom_shows (choice_begun atom_choices)

pub args_begun : StartsWithin (on opens_args) args_form
args_begun = shown_begun (on opens_args) args_shows (both_begun (on opens_args) (token (on opens_args)) (both (perhaps (on begins_expr) arg_list_form) (word T.RightParenthesis)) (token_begun (on opens_args)))

member_begun : StartsWithin (on (is T.Dot)) member_rule
member_begun = both_begun (on (is T.Dot)) (word T.Dot) (word T.Identifier) (token_begun (on (is T.Dot)))

pub part_choices : Choices (on (is T.Dot)) (on opens_args) member_rule args_form
part_choices = record { left = member_begun; right = args_begun; apart = apart (is T.Dot) opens_args refl }

pub part_begun : StartsWithin (on begins_part) part_form
part_begun = shown_begun (on begins_part) part_shows (choice_begun part_choices)

pub postfix_begun : StartsWithin (on begins_atom) postfix_form
postfix_begun = shown_begun (on begins_atom) postfix_shows (trail_begun_by (on begins_atom) (on begins_part) atom_form part_form atom_begun)

pub prefix_begun : StartsWithin (on begins_expr) prefix_form
prefix_begun = shown_begun (on begins_expr) prefix_shows (weaker_begun (on (or is_prefix_operator begins_atom)) (on begins_expr) (prefix_rule postfix_form) (within (or is_prefix_operator begins_atom) begins_expr refl)
    (optional_begun (on is_prefix_operator) (on is_prefix_operator) (on begins_atom) (token (on is_prefix_operator)) postfix_form (token_begun (on is_prefix_operator)) postfix_begun))

pub product_begun : StartsWithin (on begins_expr) product_form
product_begun = shown_begun (on begins_expr) product_shows (trail_begun_by (on begins_expr) (on is_product_operator) prefix_form (both product_operator_form prefix_form) prefix_begun)

pub sum_begun : StartsWithin (on begins_expr) sum_form
sum_begun = shown_begun (on begins_expr) sum_shows (trail_begun_by (on begins_expr) (on is_sum_operator) product_form (both sum_operator_form product_form) product_begun)

pub cmp_begun : StartsWithin (on begins_expr) cmp_form
cmp_begun = shown_begun (on begins_expr) cmp_shows (once_begun (on begins_expr) (on is_cmp_operator) sum_form (both cmp_operator_form sum_form) sum_begun)

pub and_begun : StartsWithin (on begins_expr) and_form
and_begun = shown_begun (on begins_expr) and_shows (trail_begun_by (on begins_expr) (on (is T.And)) cmp_form (both (word T.And) cmp_form) cmp_begun)

pub expr_begun : StartsWithin (on begins_expr) expr_form
expr_begun = shown_begun (on begins_expr) expr_shows (trail_begun_by (on begins_expr) (on (is T.Or)) and_form (both (word T.Or) and_form) and_begun)

-- ---- trees of one token

atom_bare : (t : Leaf) → on is_simple_atom t ≡ true → IsBare atom_form t
atom_bare t m = shown_bare atom_shows (left_bare (parentheses_rule expr_form) (record { tree = t; right = m; spelled = refl }))

pub postfix_bare : (t : Leaf) → on is_simple_atom t ≡ true → IsBare postfix_form t
postfix_bare t m = shown_bare postfix_shows (trail_bare (on begins_part) part_form (atom_bare t m))

pub prefix_bare : (t : Leaf) → on is_simple_atom t ≡ true → IsBare prefix_form t
prefix_bare t m = shown_bare prefix_shows (without_bare (on is_prefix_operator) (token (on is_prefix_operator)) (postfix_bare t m))

pub product_bare : (t : Leaf) → on is_simple_atom t ≡ true → IsBare product_form t
product_bare t m = shown_bare product_shows (trail_bare (on is_product_operator) (both product_operator_form prefix_form) (prefix_bare t m))

pub sum_bare : (t : Leaf) → on is_simple_atom t ≡ true → IsBare sum_form t
sum_bare t m = shown_bare sum_shows (trail_bare (on is_sum_operator) (both sum_operator_form product_form) (product_bare t m))

pub cmp_bare : (t : Leaf) → on is_simple_atom t ≡ true → IsBare cmp_form t
cmp_bare t m = shown_bare cmp_shows (once_bare (on is_cmp_operator) (both cmp_operator_form sum_form) (sum_bare t m))

pub and_bare : (t : Leaf) → on is_simple_atom t ≡ true → IsBare and_form t
and_bare t m = shown_bare and_shows (trail_bare (on (is T.And)) (both (word T.And) cmp_form) (cmp_bare t m))

pub expr_bare : (t : Leaf) → on is_simple_atom t ≡ true → IsBare expr_form t
expr_bare t m = shown_bare expr_shows (trail_bare (on (is T.Or)) (both (word T.Or) and_form) (and_bare t m))

pub expr_names : Bare (on (is T.Identifier)) expr_form
expr_names t m = expr_bare t (within (is T.Identifier) is_simple_atom refl t m)

some_name : Leaf
some_name = sample false T.Identifier

some_name_is : on is_simple_atom some_name ≡ true
unfolding some_name
some_name_is = sample_on is_simple_atom false T.Identifier refl

pub postfix_some : Begins postfix_form []
postfix_some = bare_begins (postfix_bare some_name some_name_is)

pub prefix_some : Begins prefix_form []
prefix_some = bare_begins (prefix_bare some_name some_name_is)

pub product_some : Begins product_form []
product_some = bare_begins (product_bare some_name some_name_is)

pub sum_some : Begins sum_form []
sum_some = bare_begins (sum_bare some_name some_name_is)

pub cmp_some : Begins cmp_form []
cmp_some = bare_begins (cmp_bare some_name some_name_is)

pub and_some : Begins and_form []
and_some = bare_begins (and_bare some_name some_name_is)

pub expr_some : Begins expr_form []
expr_some = bare_begins (expr_bare some_name some_name_is)

pub arg_some : Begins arg_form []
arg_some = shown_begins arg_shows (labelled_some (on (is T.Identifier)) (on (is T.Colon)) expr_form expr_some)

-- ---- no two trees

arg_begun : StartsWithin (on begins_expr) arg_form
arg_begun = shown_begun (on begins_expr) arg_shows (labelled_begun (on begins_expr) (on (is T.Identifier)) (on (is T.Colon)) expr_form expr_names expr_begun)

pub arg_list_begun : StartsWithin (on begins_expr) arg_list_form
arg_list_begun = trail_begun_by (on begins_expr) (on (is T.Comma)) arg_form (both (word T.Comma) arg_form) arg_begun

pub expr_closed : Follows expr_form (word T.RightParenthesis)
expr_closed x y w r s = expr_apart (is T.RightParenthesis) refl x y r

pub arg_list_closed : Follows (perhaps (on begins_expr) arg_list_form) (word T.RightParenthesis)
arg_list_closed = perhaps_follows (on begins_expr) arg_list_form (word T.RightParenthesis) (on (is T.RightParenthesis)) (token_begun (on (is T.RightParenthesis))) (apart (is T.RightParenthesis) begins_expr refl) (goes_apart (on (is T.RightParenthesis)) (on arg_list_on) arg_list_form arg_list_goes (apart (is T.RightParenthesis) arg_list_on refl))

pub arg_list_apart : NeverContinuesWith (on (is T.RightParenthesis)) arg_list_form
arg_list_apart = goes_apart (on (is T.RightParenthesis)) (on arg_list_on) arg_list_form arg_list_goes (apart (is T.RightParenthesis) arg_list_on refl)

operator_follows : Follows (perhaps (on is_prefix_operator) (token (on is_prefix_operator))) postfix_form
operator_follows = perhaps_follows (on is_prefix_operator) (token (on is_prefix_operator)) postfix_form (on begins_atom) postfix_begun (apart begins_atom is_prefix_operator refl) (λ x t m. refl)

comma_apart : NeverContinuesWith (on (is T.Comma)) arg_form
comma_apart = goes_apart (on (is T.Comma)) (on arg_on) arg_form arg_goes (apart (is T.Comma) arg_on refl)

product_apart : NeverContinuesWith (on is_product_operator) prefix_form
product_apart = goes_apart (on is_product_operator) (on begins_part) prefix_form prefix_goes (apart is_product_operator begins_part refl)

sum_apart : NeverContinuesWith (on is_sum_operator) product_form
sum_apart = goes_apart (on is_sum_operator) (on product_on) product_form product_goes (apart is_sum_operator product_on refl)

cmp_apart : NeverContinuesWith (on is_cmp_operator) sum_form
cmp_apart = goes_apart (on is_cmp_operator) (on sum_on) sum_form sum_goes (apart is_cmp_operator sum_on refl)

and_apart : NeverContinuesWith (on (is T.And)) cmp_form
and_apart = goes_apart (on (is T.And)) (on cmp_on) cmp_form cmp_goes (apart (is T.And) cmp_on refl)

or_apart : NeverContinuesWith (on (is T.Or)) and_form
or_apart = goes_apart (on (is T.Or)) (on and_on) and_form and_goes (apart (is T.Or) and_on refl)

pair_begun : StartsWithin (on is_cmp_operator) (both cmp_operator_form sum_form)
pair_begun = both_begun (on is_cmp_operator) cmp_operator_form sum_form cmp_operator_begun

atom_next : (n : ℕ) → IsUnambiguousBelow n expr_form → IsUnambiguousBelow (suc n) atom_form
atom_next n one = shown_one (suc n) atom_shows (choice_one (suc n) atom_choices (token_one (on is_simple_atom) (suc n))
    (headed_one (on (is T.LeftParenthesis)) (both expr_form (word T.RightParenthesis)) n (both_one expr_form (word T.RightParenthesis) n expr_closed one (token_one (on (is T.RightParenthesis)) n))))

arg_next : (n : ℕ) → IsUnambiguousBelow n expr_form → IsUnambiguousBelow n arg_form
arg_next n one = shown_one n arg_shows (labelled_one (on (is T.Identifier)) (on (is T.Colon)) expr_form n expr_names (expr_apart (is T.Colon) refl) one)

arg_list_next : (n : ℕ) → IsUnambiguousBelow n arg_form → IsUnambiguousBelow n arg_list_form
arg_list_next n one = chain_one (on (is T.Comma)) (word T.Comma) arg_form n (token_begun (on (is T.Comma))) (λ m t. refl) comma_apart (token_one (on (is T.Comma)) n) one

args_next : (n : ℕ) → IsUnambiguousBelow n arg_list_form → IsUnambiguousBelow (suc n) args_form
args_next n one = shown_one (suc n) args_shows (headed_one (on opens_args) (both (perhaps (on begins_expr) arg_list_form) (word T.RightParenthesis)) n
    (both_one (perhaps (on begins_expr) arg_list_form) (word T.RightParenthesis) n arg_list_closed (perhaps_one (on begins_expr) arg_list_form n arg_list_begun one) (token_one (on (is T.RightParenthesis)) n)))

part_next : (n : ℕ) → IsUnambiguousBelow n args_form → IsUnambiguousBelow n part_form
part_next n one = shown_one n part_shows (choice_one n part_choices (both_one (word T.Dot) (word T.Identifier) n (after_token (on (is T.Dot)) (word T.Identifier)) (token_one (on (is T.Dot)) n) (token_one (on (is T.Identifier)) n)) one)

postfix_next : (n : ℕ) → IsUnambiguousBelow n atom_form → IsUnambiguousBelow n part_form → IsUnambiguousBelow n postfix_form
postfix_next n one two = shown_one n postfix_shows (trail_one (on begins_part) atom_form part_form n part_begun (ends_apart (on begins_part) atom_form atom_ends) (ends_apart (on begins_part) part_form part_ends) one two)

prefix_next : (n : ℕ) → IsUnambiguousBelow n postfix_form → IsUnambiguousBelow n prefix_form
prefix_next n one = shown_one n prefix_shows (both_one (perhaps (on is_prefix_operator) (token (on is_prefix_operator))) postfix_form n operator_follows (perhaps_one (on is_prefix_operator) (token (on is_prefix_operator)) n (token_begun (on is_prefix_operator)) (token_one (on is_prefix_operator) n)) one)

product_next : (n : ℕ) → IsUnambiguousBelow n prefix_form → IsUnambiguousBelow n product_form
product_next n one = shown_one n product_shows (chain_one (on is_product_operator) product_operator_form prefix_form n product_operator_begun product_operator_ends product_apart (shown_one n product_operator_shows (token_one (on is_product_operator) n)) one)

sum_next : (n : ℕ) → IsUnambiguousBelow n product_form → IsUnambiguousBelow n sum_form
sum_next n one = shown_one n sum_shows (chain_one (on is_sum_operator) sum_operator_form product_form n sum_operator_begun sum_operator_ends sum_apart (shown_one n sum_operator_shows (token_one (on is_sum_operator) n)) one)

cmp_next : (n : ℕ) → IsUnambiguousBelow n sum_form → IsUnambiguousBelow n cmp_form
cmp_next n one = shown_one n cmp_shows (once_one (on is_cmp_operator) sum_form (both cmp_operator_form sum_form) n pair_begun cmp_apart one
    (both_one cmp_operator_form sum_form n (ended_follows cmp_operator_form sum_form cmp_operator_ends) (shown_one n cmp_operator_shows (token_one (on is_cmp_operator) n)) one))

and_next : (n : ℕ) → IsUnambiguousBelow n cmp_form → IsUnambiguousBelow n and_form
and_next n one = shown_one n and_shows (chain_one (on (is T.And)) (word T.And) cmp_form n (token_begun (on (is T.And))) (λ m t. refl) and_apart (token_one (on (is T.And)) n) one)

expr_next : (n : ℕ) → IsUnambiguousBelow n and_form → IsUnambiguousBelow n expr_form
expr_next n one = shown_one n expr_shows (chain_one (on (is T.Or)) (word T.Or) and_form n (token_begun (on (is T.Or))) (λ m t. refl) or_apart (token_one (on (is T.Or)) n) one)

pub expr_one_to : (n : ℕ) → IsUnambiguousBelow n expr_form
expr_one_to zero = none_smaller expr_form
expr_one_to (suc n) =
    let below : IsUnambiguousBelow n expr_form = expr_one_to n in
    expr_next (suc n) (and_next (suc n) (cmp_next (suc n) (sum_next (suc n) (product_next (suc n) (prefix_next (suc n) (postfix_next (suc n) (atom_next n below) (part_next (suc n) (args_next n (arg_list_next n (arg_next n below))))))))))

args_to : (n : ℕ) → IsUnambiguousBelow n args_form
args_to zero = none_smaller args_form
args_to (suc n) = args_next n (arg_list_next n (arg_next n (expr_one_to n)))

atom_to : (n : ℕ) → IsUnambiguousBelow n atom_form
atom_to zero = none_smaller atom_form
atom_to (suc n) = atom_next n (expr_one_to n)

part_to : (n : ℕ) → IsUnambiguousBelow n part_form
part_to n = part_next n (args_to n)

pub postfix_one_to : (n : ℕ) → IsUnambiguousBelow n postfix_form
postfix_one_to n = postfix_next n (atom_to n) (part_to n)

prefix_to : (n : ℕ) → IsUnambiguousBelow n prefix_form
prefix_to n = prefix_next n (postfix_one_to n)

product_to : (n : ℕ) → IsUnambiguousBelow n product_form
product_to n = product_next n (prefix_to n)

sum_to : (n : ℕ) → IsUnambiguousBelow n sum_form
sum_to n = sum_next n (product_to n)

cmp_to : (n : ℕ) → IsUnambiguousBelow n cmp_form
cmp_to n = cmp_next n (sum_to n)

and_to : (n : ℕ) → IsUnambiguousBelow n and_form
and_to n = and_next n (cmp_to n)

pub expr_one : IsUnambiguous expr_form
expr_one = one_of_any expr_form expr_one_to

pub and_one : IsUnambiguous and_form
and_one = one_of_any and_form and_to

pub cmp_one : IsUnambiguous cmp_form
cmp_one = one_of_any cmp_form cmp_to

pub sum_one : IsUnambiguous sum_form
sum_one = one_of_any sum_form sum_to

pub product_one : IsUnambiguous product_form
product_one = one_of_any product_form product_to

pub prefix_one : IsUnambiguous prefix_form
prefix_one = one_of_any prefix_form prefix_to

pub postfix_one : IsUnambiguous postfix_form
postfix_one = one_of_any postfix_form postfix_one_to

pub part_one : IsUnambiguous part_form
part_one = one_of_any part_form part_to

pub args_one : IsUnambiguous args_form
args_one = one_of_any args_form args_to

pub arg_one : IsUnambiguous arg_form
arg_one = one_of_any arg_form (λ n. arg_next n (expr_one_to n))

pub arg_list_one : IsUnambiguous arg_list_form
arg_list_one = one_of_any arg_list_form (λ n. arg_list_next n (arg_next n (expr_one_to n)))

pub atom_one : IsUnambiguous atom_form
atom_one = one_of_any atom_form atom_to

-- ---- what the rules owe for their laws

pub expr_chains : Chains (on (is T.Or)) (word T.Or) and_form
expr_chains = record { begun = token_begun (on (is T.Or)); ends = λ m t. refl; apart = or_apart; marks = token_is_one (on (is T.Or)); one = and_one; some = and_some }

pub and_chains : Chains (on (is T.And)) (word T.And) cmp_form
and_chains = record { begun = token_begun (on (is T.And)); ends = λ m t. refl; apart = and_apart; marks = token_is_one (on (is T.And)); one = cmp_one; some = cmp_some }

pub cmp_joins : Joins cmp_operator_form sum_form
cmp_joins = record { follows = ended_follows cmp_operator_form sum_form cmp_operator_ends; one = cmp_operator_one; some = sum_some }

pub cmp_onces : Onces (on is_cmp_operator) sum_form (both cmp_operator_form sum_form)
cmp_onces = record { begun = pair_begun; apart = cmp_apart; one = sum_one; later = one_of_any (both cmp_operator_form sum_form) (λ n. both_one cmp_operator_form sum_form n (ended_follows cmp_operator_form sum_form cmp_operator_ends) (shown_one n cmp_operator_shows (token_one (on is_cmp_operator) n)) (sum_to n)) }

pub sum_chains : Chains (on is_sum_operator) sum_operator_form product_form
sum_chains = record { begun = sum_operator_begun; ends = sum_operator_ends; apart = sum_apart; marks = sum_operator_one; one = product_one; some = product_some }

pub product_chains : Chains (on is_product_operator) product_operator_form prefix_form
product_chains = record { begun = product_operator_begun; ends = product_operator_ends; apart = product_apart; marks = product_operator_one; one = prefix_one; some = prefix_some }

pub prefix_joins : Joins (perhaps (on is_prefix_operator) (token (on is_prefix_operator))) postfix_form
prefix_joins = record { follows = operator_follows; one = optional_one (record { begun = token_begun (on is_prefix_operator); one = token_is_one (on is_prefix_operator) }); some = postfix_some }

pub postfix_trails : Trails (on begins_part) atom_form part_form
postfix_trails = record { begun = part_begun; front = ends_apart (on begins_part) atom_form atom_ends; apart = ends_apart (on begins_part) part_form part_ends; one = atom_one; each = part_one }

pub arg_list_chains : Chains (on (is T.Comma)) (word T.Comma) arg_form
arg_list_chains = record { begun = token_begun (on (is T.Comma)); ends = λ m t. refl; apart = comma_apart; marks = token_is_one (on (is T.Comma)); one = arg_one; some = arg_some }

pub arg_labels : Labels (on (is T.Identifier)) (on (is T.Colon)) expr_form
arg_labels = record { bare = expr_names; apart = expr_apart (is T.Colon) refl; one = expr_one }

pub arg_list_joins : Joins (perhaps (on begins_expr) arg_list_form) (word T.RightParenthesis)
arg_list_joins = record { follows = arg_list_closed; one = optional_one (record { begun = arg_list_begun; one = arg_list_one }); some = some_token (is T.RightParenthesis) false T.RightParenthesis refl }

pub parentheses_joins : Joins expr_form (word T.RightParenthesis)
parentheses_joins = record { follows = expr_closed; one = expr_one; some = some_token (is T.RightParenthesis) false T.RightParenthesis refl }
