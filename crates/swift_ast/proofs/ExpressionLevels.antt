-- Expressions close the brackets that they open.
use Rattle.std.proofs.Common.{◌≡◌, ℕ, zero, suc, true, refl}
use Rattle.grammar.specs.Forms.{Form, token, both, perhaps}
use Rattle.grammar.specs.Levels.{BalancedTo, Balanced}
use Rattle.grammar.proofs.Balance.{token_balanced, none_balanced, balanced_of_any, both_balanced, trail_balanced, chain_balanced, perhaps_balanced, once_balanced, either_balanced, labelled_balanced, enclosed_balanced, shown_balanced}
use Rattle.swift_ast.specs.declared.terminals.Terminal.TheVariants as T
use Rattle.swift_ast.specs.Leaves.{Leaf}
use Rattle.swift_ast.specs.Tests.{Test, on, is, is_prefix_operator, is_product_operator, is_sum_operator, is_cmp_operator, is_simple_atom, opens_args, begins_part, begins_expr, opens_level, closes_level}
use Rattle.swift_ast.specs.Terminals.{terminals}
use Rattle.swift_ast.specs.Expressions.{word, cmp_operator_form, sum_operator_form, product_operator_form, parentheses_rule, member_rule, expr_form, and_form, cmp_form, sum_form, product_form, prefix_form, postfix_form, part_form, args_form, arg_form, atom_form}
use Rattle.swift_ast.proofs.TestFacts.{apart, within, plain}
use Rattle.swift_ast.proofs.ExpressionShows.{arg_list_form, cmp_operator_shows, sum_operator_shows, product_operator_shows, expr_shows, and_shows, cmp_shows, sum_shows, product_shows, prefix_shows, postfix_shows, args_shows, arg_shows, part_shows, atom_shows}

abbrev pub BalancedBelow : {X : Type 0} → ℕ → Form Leaf X → Type 0
BalancedBelow n f = BalancedTo (on opens_level) (on closes_level) n f

abbrev pub IsBalanced : {X : Type 0} → Form Leaf X → Type 0
IsBalanced f = Balanced (on opens_level) (on closes_level) f

-- a token that is no bracket
pub token_level : (test : Test) (n : ℕ) → Rattle.grammar.specs.Tests.are_apart test opens_level terminals ≡ true → Rattle.grammar.specs.Tests.are_apart test closes_level terminals ≡ true → BalancedBelow n (token (on test))
token_level test n e h = token_balanced (on opens_level) (on closes_level) (on test) n (plain test e h)

-- a smaller tree in brackets
pub brackets_level : {X : Type 0} (one two : Test) (f : Form Leaf X) (n : ℕ) → Rattle.grammar.specs.Tests.is_within one opens_level terminals ≡ true → Rattle.grammar.specs.Tests.are_apart two opens_level terminals ≡ true → Rattle.grammar.specs.Tests.is_within two closes_level terminals ≡ true → BalancedBelow n f → BalancedBelow (suc n) (both (token (on one)) (both f (token (on two))))
brackets_level one two f n opening other closing b = enclosed_balanced (on opens_level) (on closes_level) (on one) (on two) f n (within one opens_level opening) (apart two opens_level other) (within two closes_level closing) b

atom_level : (n : ℕ) → BalancedBelow n expr_form → BalancedBelow (suc n) atom_form
atom_level n b = shown_balanced (on opens_level) (on closes_level) (suc n) atom_shows
    (either_balanced (on opens_level) (on closes_level) (token (on is_simple_atom)) (parentheses_rule expr_form) (suc n) (token_level is_simple_atom (suc n) refl refl) (brackets_level (is T.LeftParenthesis) (is T.RightParenthesis) expr_form n refl refl refl b))

arg_level : (n : ℕ) → BalancedBelow n expr_form → BalancedBelow n arg_form
arg_level n b = shown_balanced (on opens_level) (on closes_level) n arg_shows (labelled_balanced (on opens_level) (on closes_level) (on (is T.Identifier)) (on (is T.Colon)) expr_form n (plain (is T.Identifier) refl refl) (plain (is T.Colon) refl refl) b)

args_level : (n : ℕ) → BalancedBelow n expr_form → BalancedBelow (suc n) args_form
args_level n b = shown_balanced (on opens_level) (on closes_level) (suc n) args_shows
    (brackets_level opens_args (is T.RightParenthesis) (perhaps (on begins_expr) arg_list_form) n refl refl refl
    (perhaps_balanced (on opens_level) (on closes_level) (on begins_expr) arg_list_form n (chain_balanced (on opens_level) (on closes_level) (on (is T.Comma)) (word T.Comma) arg_form n (token_level (is T.Comma) n refl refl) (arg_level n b))))

part_level : (n : ℕ) → BalancedBelow n args_form → BalancedBelow n part_form
part_level n b = shown_balanced (on opens_level) (on closes_level) n part_shows
    (either_balanced (on opens_level) (on closes_level) member_rule args_form n (both_balanced (on opens_level) (on closes_level) (word T.Dot) (word T.Identifier) n (token_level (is T.Dot) n refl refl) (token_level (is T.Identifier) n refl refl)) b)

postfix_level : (n : ℕ) → BalancedBelow n atom_form → BalancedBelow n args_form → BalancedBelow n postfix_form
postfix_level n a b = shown_balanced (on opens_level) (on closes_level) n postfix_shows (trail_balanced (on opens_level) (on closes_level) (on begins_part) atom_form part_form n a (part_level n b))

prefix_level : (n : ℕ) → BalancedBelow n postfix_form → BalancedBelow n prefix_form
prefix_level n b = shown_balanced (on opens_level) (on closes_level) n prefix_shows
    (both_balanced (on opens_level) (on closes_level) (perhaps (on is_prefix_operator) (token (on is_prefix_operator))) postfix_form n (perhaps_balanced (on opens_level) (on closes_level) (on is_prefix_operator) (token (on is_prefix_operator)) n (token_level is_prefix_operator n refl refl)) b)

product_level : (n : ℕ) → BalancedBelow n prefix_form → BalancedBelow n product_form
product_level n b = shown_balanced (on opens_level) (on closes_level) n product_shows (chain_balanced (on opens_level) (on closes_level) (on is_product_operator) product_operator_form prefix_form n (shown_balanced (on opens_level) (on closes_level) n product_operator_shows (token_level is_product_operator n refl refl)) b)

sum_level : (n : ℕ) → BalancedBelow n product_form → BalancedBelow n sum_form
sum_level n b = shown_balanced (on opens_level) (on closes_level) n sum_shows (chain_balanced (on opens_level) (on closes_level) (on is_sum_operator) sum_operator_form product_form n (shown_balanced (on opens_level) (on closes_level) n sum_operator_shows (token_level is_sum_operator n refl refl)) b)

cmp_level : (n : ℕ) → BalancedBelow n sum_form → BalancedBelow n cmp_form
cmp_level n b = shown_balanced (on opens_level) (on closes_level) n cmp_shows (once_balanced (on opens_level) (on closes_level) (on is_cmp_operator) sum_form (both cmp_operator_form sum_form) n b
    (both_balanced (on opens_level) (on closes_level) cmp_operator_form sum_form n (shown_balanced (on opens_level) (on closes_level) n cmp_operator_shows (token_level is_cmp_operator n refl refl)) b))

and_level : (n : ℕ) → BalancedBelow n cmp_form → BalancedBelow n and_form
and_level n b = shown_balanced (on opens_level) (on closes_level) n and_shows (chain_balanced (on opens_level) (on closes_level) (on (is T.And)) (word T.And) cmp_form n (token_level (is T.And) n refl refl) b)

or_level : (n : ℕ) → BalancedBelow n and_form → BalancedBelow n expr_form
or_level n b = shown_balanced (on opens_level) (on closes_level) n expr_shows (chain_balanced (on opens_level) (on closes_level) (on (is T.Or)) (word T.Or) and_form n (token_level (is T.Or) n refl refl) b)

pub expr_balanced_to : (n : ℕ) → BalancedBelow n expr_form
expr_balanced_to zero = none_balanced (on opens_level) (on closes_level) expr_form
expr_balanced_to (suc n) =
    let b : BalancedBelow n expr_form = expr_balanced_to n in
    or_level (suc n) (and_level (suc n) (cmp_level (suc n) (sum_level (suc n) (product_level (suc n) (prefix_level (suc n) (postfix_level (suc n) (atom_level n b) (args_level n b)))))))

pub postfix_balanced_to : (n : ℕ) → BalancedBelow n postfix_form
postfix_balanced_to zero = none_balanced (on opens_level) (on closes_level) postfix_form
postfix_balanced_to (suc n) = postfix_level (suc n) (atom_level n (expr_balanced_to n)) (args_level n (expr_balanced_to n))

-- an expression closes what it opens
pub expr_balanced : IsBalanced expr_form
expr_balanced = balanced_of_any (on opens_level) (on closes_level) expr_form expr_balanced_to

pub postfix_balanced : IsBalanced postfix_form
postfix_balanced = balanced_of_any (on opens_level) (on closes_level) postfix_form postfix_balanced_to
