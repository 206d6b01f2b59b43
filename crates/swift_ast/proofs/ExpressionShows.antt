-- The trees of expressions as trees of their rules.
use Rattle.std.proofs.Common.{◌≡◌, ◌==◌, Bool, true, ◌&&◌, List, [], ◌∷◌, ◌++◌, Option, Some, None, refl, sym, ◌∙◌, ap, subst, ◌⊎◌, inl, inr}
use Rattle.std.proofs.lemmas.Bool.{false≢true}
use Rattle.grammar.specs.Forms.{Form, token, either, nothing}
use Rattle.grammar.specs.Shows.{Shows, reading, given}
use Rattle.grammar.proofs.Shown.{shows_read, chain_map, trail_map, made_reading}
use Rattle.swift_ast.specs.declared.terminals.Terminal.{Terminal}
use Rattle.swift_ast.specs.declared.terminals.Terminal.TheVariants as T
use Rattle.swift_ast.specs.declared.expressions.CmpOperator.{CmpOperator}
use Rattle.swift_ast.specs.declared.expressions.CmpOperator.TheVariants as cmp_operator
use Rattle.swift_ast.specs.declared.expressions.SumOperator.{SumOperator}
use Rattle.swift_ast.specs.declared.expressions.SumOperator.TheVariants as sum_operator
use Rattle.swift_ast.specs.declared.expressions.ProductOperator.{ProductOperator}
use Rattle.swift_ast.specs.declared.expressions.ProductOperator.TheVariants as product_operator
use Rattle.swift_ast.specs.declared.expressions.Atom.{Atom, Atom-F, out-Atom, roll-Atom, fold_out-Atom, map-Atom, out-roll-Atom, roll-out-Atom}
use Rattle.swift_ast.specs.declared.expressions.PostfixPart.{PostfixPart, PostfixPart-F, out-PostfixPart, roll-PostfixPart, fold_out-PostfixPart, map-PostfixPart, out-roll-PostfixPart, roll-out-PostfixPart}
use Rattle.swift_ast.specs.declared.expressions.And.{And, out-And, roll-And, fold_out-And, out-roll-And, roll-out-And}
use Rattle.swift_ast.specs.declared.expressions.Arg.{Arg, out-Arg, roll-Arg, fold_out-Arg, map-Arg, out-roll-Arg, roll-out-Arg}
use Rattle.swift_ast.specs.declared.expressions.Args.{Args, out-Args, roll-Args, fold_out-Args, map-Args, out-roll-Args, roll-out-Args}
use Rattle.swift_ast.specs.declared.expressions.Cmp.{Cmp, out-Cmp, roll-Cmp, fold_out-Cmp, map-Cmp, out-roll-Cmp, roll-out-Cmp}
use Rattle.swift_ast.specs.declared.expressions.Expr.{Expr, out-Expr, roll-Expr, fold_out-Expr, out-roll-Expr, roll-out-Expr}
use Rattle.swift_ast.specs.declared.expressions.Postfix.{Postfix, out-Postfix, roll-Postfix, fold_out-Postfix, out-roll-Postfix, roll-out-Postfix}
use Rattle.swift_ast.specs.declared.expressions.Prefix.{Prefix, out-Prefix, roll-Prefix, fold_out-Prefix, map-Prefix, out-roll-Prefix, roll-out-Prefix}
use Rattle.swift_ast.specs.declared.expressions.Product.{Product, out-Product, roll-Product, fold_out-Product, out-roll-Product, roll-out-Product}
use Rattle.swift_ast.specs.declared.expressions.Sum.{Sum, out-Sum, roll-Sum, fold_out-Sum, out-roll-Sum, roll-out-Sum}
use Rattle.swift_ast.specs.declared.expressions.Atom.TheVariants as atom
use Rattle.swift_ast.specs.declared.expressions.PostfixPart.TheVariants as part
use Rattle.swift_ast.specs.Leaves.{Leaf}
use Rattle.swift_ast.specs.Terminals.{terminal, number}
use Rattle.swift_ast.specs.Tests.{Test, on, is, is_product_operator, is_sum_operator, is_cmp_operator, is_simple_atom, opens_args, begins_part}
use Rattle.swift_ast.specs.Expressions.{word, R, cmp_operator_form, sum_operator_form, product_operator_form, expr_rule, and_rule, cmp_rule, sum_rule, product_rule, prefix_rule, postfix_rule, member_rule, arg_list_rule, args_rule, arg_rule, parentheses_rule, one_atom, atom_reading, atom_form, one_part, part_reading, part_form, one_and, and_reading, and_form, one_arg, arg_reading, arg_form, one_args, args_reading, args_form, one_cmp, cmp_reading, cmp_form, one_expr, expr_reading, expr_form, one_postfix, postfix_reading, postfix_form, one_prefix, prefix_reading, prefix_form, one_product, product_reading, product_form, one_sum, sum_reading, sum_form}
use Rattle.swift_ast.proofs.TestFacts.{is_terminal, within}

pub number_same : (a : Terminal) → (number a == number a) ≡ true
number_same T.Identifier = refl
number_same T.Integer = refl
number_same T.StringText = refl
number_same T.Let = refl
number_same T.Var = refl
number_same T.Func = refl
number_same T.Struct = refl
number_same T.Extension = refl
number_same T.Typealias = refl
number_same T.Return = refl
number_same T.If = refl
number_same T.Else = refl
number_same T.While = refl
number_same T.True = refl
number_same T.False = refl
number_same T.SelfValue = refl
number_same T.Private = refl
number_same T.Fileprivate = refl
number_same T.Internal = refl
number_same T.Public = refl
number_same T.Wildcard = refl
number_same T.LeftParenthesis = refl
number_same T.RightParenthesis = refl
number_same T.LeftBrace = refl
number_same T.RightBrace = refl
number_same T.Comma = refl
number_same T.Colon = refl
number_same T.Dot = refl
number_same T.Arrow = refl
number_same T.Assign = refl
number_same T.Equal = refl
number_same T.NotEqual = refl
number_same T.Less = refl
number_same T.LessOrEqual = refl
number_same T.Greater = refl
number_same T.GreaterOrEqual = refl
number_same T.Plus = refl
number_same T.Minus = refl
number_same T.Times = refl
number_same T.Divide = refl
number_same T.Remainder = refl
number_same T.And = refl
number_same T.Or = refl
number_same T.Not = refl
number_same T.Unused = refl

-- ---- enums over one token

-- A token of a test, told apart by its terminal.
pub record Sorts {X : Type 0} (test : Test) (F : Form Leaf X) (out : X → Leaf) (sort : X → Terminal) (made : Terminal → Leaf → X) : Type 0 where
  pub tokens : (x : X) → F.tokens x ≡ out x ∷ []
  pub continues : (x : X) → F.continues x ≡ nothing
  pub right : (x : X) → F.is_well_formed x ≡ on (is (sort x)) (out x)
  pub inside : (x : X) (first : Bool) → test (sort x) first ≡ true
  pub there : (k : Terminal) (t : Leaf) → out (made k t) ≡ t
  pub back : (x : X) → made (sort x) (out x) ≡ x
  pub kept : (k : Terminal) (first : Bool) (t : Leaf) → test k first ≡ true → sort (made k t) ≡ k

pub same_number : (a b : Terminal) → a ≡ b → (number a == number b) ≡ true
same_number a b e = subst (λ z. (number a == number z) ≡ true) e (number_same a)

pub sorts_show : {X : Type 0} (test : Test) (F : Form Leaf X) (out : X → Leaf) (sort : X → Terminal) (made : Terminal → Leaf → X) → Sorts test F out sort made → Shows F (token (on test)) out (λ t. made (terminal t) t)
sorts_show test F out sort made s = record {
  tokens = λ x. s.tokens x;
  continues = λ x. s.continues x;
  right = λ x r. subst (λ k. test k (out x).first_on_line ≡ true) (sym (is_terminal (sort x) (out x) (sym (s.right x) ∙ r))) (s.inside x (out x).first_on_line);
  made_right = λ t r. s.right (made (terminal t) t) ∙ subst (λ z. on (is (sort (made (terminal t) t))) z ≡ true) (sym (s.there (terminal t) t)) (same_number (terminal t) (sort (made (terminal t) t)) (sym (s.kept (terminal t) t.first_on_line t r)));
  there = λ t r. s.there (terminal t) t;
  back = λ x r. ap (λ k. made k (out x)) (is_terminal (sort x) (out x) (sym (s.right x) ∙ r)) ∙ s.back x;
}

abbrev pub cmp_operator_out : CmpOperator → Leaf
cmp_operator_out (cmp_operator.Equal t) = t
cmp_operator_out (cmp_operator.NotEqual t) = t
cmp_operator_out (cmp_operator.Less t) = t
cmp_operator_out (cmp_operator.LessOrEqual t) = t
cmp_operator_out (cmp_operator.Greater t) = t
cmp_operator_out (cmp_operator.GreaterOrEqual t) = t

abbrev pub cmp_operator_sort : CmpOperator → Terminal
cmp_operator_sort (cmp_operator.Equal t) = T.Equal
cmp_operator_sort (cmp_operator.NotEqual t) = T.NotEqual
cmp_operator_sort (cmp_operator.Less t) = T.Less
cmp_operator_sort (cmp_operator.LessOrEqual t) = T.LessOrEqual
cmp_operator_sort (cmp_operator.Greater t) = T.Greater
cmp_operator_sort (cmp_operator.GreaterOrEqual t) = T.GreaterOrEqual

abbrev pub cmp_operator_at : Terminal → Leaf → CmpOperator
cmp_operator_at T.Equal t = cmp_operator.Equal t
cmp_operator_at T.NotEqual t = cmp_operator.NotEqual t
cmp_operator_at T.Less t = cmp_operator.Less t
cmp_operator_at T.LessOrEqual t = cmp_operator.LessOrEqual t
cmp_operator_at T.Greater t = cmp_operator.Greater t
cmp_operator_at T.GreaterOrEqual t = cmp_operator.GreaterOrEqual t
cmp_operator_at _ t = cmp_operator.Equal t

abbrev pub cmp_operator_made : Leaf → CmpOperator
cmp_operator_made t = cmp_operator_at (terminal t) t

cmp_operator_tokens : (x : CmpOperator) → cmp_operator_form.tokens x ≡ cmp_operator_out x ∷ []
cmp_operator_tokens (cmp_operator.Equal t) = refl
cmp_operator_tokens (cmp_operator.NotEqual t) = refl
cmp_operator_tokens (cmp_operator.Less t) = refl
cmp_operator_tokens (cmp_operator.LessOrEqual t) = refl
cmp_operator_tokens (cmp_operator.Greater t) = refl
cmp_operator_tokens (cmp_operator.GreaterOrEqual t) = refl

cmp_operator_continues : (x : CmpOperator) → cmp_operator_form.continues x ≡ nothing
cmp_operator_continues (cmp_operator.Equal t) = refl
cmp_operator_continues (cmp_operator.NotEqual t) = refl
cmp_operator_continues (cmp_operator.Less t) = refl
cmp_operator_continues (cmp_operator.LessOrEqual t) = refl
cmp_operator_continues (cmp_operator.Greater t) = refl
cmp_operator_continues (cmp_operator.GreaterOrEqual t) = refl

cmp_operator_right : (x : CmpOperator) → cmp_operator_form.is_well_formed x ≡ on (is (cmp_operator_sort x)) (cmp_operator_out x)
cmp_operator_right (cmp_operator.Equal t) = refl
cmp_operator_right (cmp_operator.NotEqual t) = refl
cmp_operator_right (cmp_operator.Less t) = refl
cmp_operator_right (cmp_operator.LessOrEqual t) = refl
cmp_operator_right (cmp_operator.Greater t) = refl
cmp_operator_right (cmp_operator.GreaterOrEqual t) = refl

cmp_operator_back : (x : CmpOperator) → cmp_operator_at (cmp_operator_sort x) (cmp_operator_out x) ≡ x
cmp_operator_back (cmp_operator.Equal t) = refl
cmp_operator_back (cmp_operator.NotEqual t) = refl
cmp_operator_back (cmp_operator.Less t) = refl
cmp_operator_back (cmp_operator.LessOrEqual t) = refl
cmp_operator_back (cmp_operator.Greater t) = refl
cmp_operator_back (cmp_operator.GreaterOrEqual t) = refl

cmp_operator_inside : (x : CmpOperator) (first : Bool) → is_cmp_operator (cmp_operator_sort x) first ≡ true
cmp_operator_inside (cmp_operator.Equal t) first = refl
cmp_operator_inside (cmp_operator.NotEqual t) first = refl
cmp_operator_inside (cmp_operator.Less t) first = refl
cmp_operator_inside (cmp_operator.LessOrEqual t) first = refl
cmp_operator_inside (cmp_operator.Greater t) first = refl
cmp_operator_inside (cmp_operator.GreaterOrEqual t) first = refl

cmp_operator_there : (k : Terminal) (t : Leaf) → cmp_operator_out (cmp_operator_at k t) ≡ t
cmp_operator_there T.Equal t = refl
cmp_operator_there T.NotEqual t = refl
cmp_operator_there T.Less t = refl
cmp_operator_there T.LessOrEqual t = refl
cmp_operator_there T.Greater t = refl
cmp_operator_there T.GreaterOrEqual t = refl
cmp_operator_there _ t = refl

cmp_operator_kept : (k : Terminal) (first : Bool) (t : Leaf) → is_cmp_operator k first ≡ true → cmp_operator_sort (cmp_operator_at k t) ≡ k
cmp_operator_kept T.Equal first t m = refl
cmp_operator_kept T.NotEqual first t m = refl
cmp_operator_kept T.Less first t m = refl
cmp_operator_kept T.LessOrEqual first t m = refl
cmp_operator_kept T.Greater first t m = refl
cmp_operator_kept T.GreaterOrEqual first t m = refl
cmp_operator_kept _ first t m = absurd (false≢true m)

pub cmp_operator_shows : Shows cmp_operator_form (token (on is_cmp_operator)) cmp_operator_out cmp_operator_made
cmp_operator_shows = sorts_show is_cmp_operator cmp_operator_form cmp_operator_out cmp_operator_sort cmp_operator_at (record { tokens = cmp_operator_tokens; continues = cmp_operator_continues; right = cmp_operator_right; inside = cmp_operator_inside; there = cmp_operator_there; back = cmp_operator_back; kept = cmp_operator_kept })

abbrev pub sum_operator_out : SumOperator → Leaf
sum_operator_out (sum_operator.Plus t) = t
sum_operator_out (sum_operator.Minus t) = t

abbrev pub sum_operator_sort : SumOperator → Terminal
sum_operator_sort (sum_operator.Plus t) = T.Plus
sum_operator_sort (sum_operator.Minus t) = T.Minus

abbrev pub sum_operator_at : Terminal → Leaf → SumOperator
sum_operator_at T.Plus t = sum_operator.Plus t
sum_operator_at T.Minus t = sum_operator.Minus t
sum_operator_at _ t = sum_operator.Plus t

abbrev pub sum_operator_made : Leaf → SumOperator
sum_operator_made t = sum_operator_at (terminal t) t

sum_operator_tokens : (x : SumOperator) → sum_operator_form.tokens x ≡ sum_operator_out x ∷ []
sum_operator_tokens (sum_operator.Plus t) = refl
sum_operator_tokens (sum_operator.Minus t) = refl

sum_operator_continues : (x : SumOperator) → sum_operator_form.continues x ≡ nothing
sum_operator_continues (sum_operator.Plus t) = refl
sum_operator_continues (sum_operator.Minus t) = refl

sum_operator_right : (x : SumOperator) → sum_operator_form.is_well_formed x ≡ on (is (sum_operator_sort x)) (sum_operator_out x)
sum_operator_right (sum_operator.Plus t) = refl
sum_operator_right (sum_operator.Minus t) = refl

sum_operator_back : (x : SumOperator) → sum_operator_at (sum_operator_sort x) (sum_operator_out x) ≡ x
sum_operator_back (sum_operator.Plus t) = refl
sum_operator_back (sum_operator.Minus t) = refl

sum_operator_inside : (x : SumOperator) (first : Bool) → is_sum_operator (sum_operator_sort x) first ≡ true
sum_operator_inside (sum_operator.Plus t) first = refl
sum_operator_inside (sum_operator.Minus t) first = refl

sum_operator_there : (k : Terminal) (t : Leaf) → sum_operator_out (sum_operator_at k t) ≡ t
sum_operator_there T.Plus t = refl
sum_operator_there T.Minus t = refl
sum_operator_there _ t = refl

sum_operator_kept : (k : Terminal) (first : Bool) (t : Leaf) → is_sum_operator k first ≡ true → sum_operator_sort (sum_operator_at k t) ≡ k
sum_operator_kept T.Plus first t m = refl
sum_operator_kept T.Minus first t m = refl
sum_operator_kept _ first t m = absurd (false≢true m)

pub sum_operator_shows : Shows sum_operator_form (token (on is_sum_operator)) sum_operator_out sum_operator_made
sum_operator_shows = sorts_show is_sum_operator sum_operator_form sum_operator_out sum_operator_sort sum_operator_at (record { tokens = sum_operator_tokens; continues = sum_operator_continues; right = sum_operator_right; inside = sum_operator_inside; there = sum_operator_there; back = sum_operator_back; kept = sum_operator_kept })

abbrev pub product_operator_out : ProductOperator → Leaf
product_operator_out (product_operator.Times t) = t
product_operator_out (product_operator.Divide t) = t
product_operator_out (product_operator.Remainder t) = t

abbrev pub product_operator_sort : ProductOperator → Terminal
product_operator_sort (product_operator.Times t) = T.Times
product_operator_sort (product_operator.Divide t) = T.Divide
product_operator_sort (product_operator.Remainder t) = T.Remainder

abbrev pub product_operator_at : Terminal → Leaf → ProductOperator
product_operator_at T.Times t = product_operator.Times t
product_operator_at T.Divide t = product_operator.Divide t
product_operator_at T.Remainder t = product_operator.Remainder t
product_operator_at _ t = product_operator.Times t

abbrev pub product_operator_made : Leaf → ProductOperator
product_operator_made t = product_operator_at (terminal t) t

product_operator_tokens : (x : ProductOperator) → product_operator_form.tokens x ≡ product_operator_out x ∷ []
product_operator_tokens (product_operator.Times t) = refl
product_operator_tokens (product_operator.Divide t) = refl
product_operator_tokens (product_operator.Remainder t) = refl

product_operator_continues : (x : ProductOperator) → product_operator_form.continues x ≡ nothing
product_operator_continues (product_operator.Times t) = refl
product_operator_continues (product_operator.Divide t) = refl
product_operator_continues (product_operator.Remainder t) = refl

product_operator_right : (x : ProductOperator) → product_operator_form.is_well_formed x ≡ on (is (product_operator_sort x)) (product_operator_out x)
product_operator_right (product_operator.Times t) = refl
product_operator_right (product_operator.Divide t) = refl
product_operator_right (product_operator.Remainder t) = refl

product_operator_back : (x : ProductOperator) → product_operator_at (product_operator_sort x) (product_operator_out x) ≡ x
product_operator_back (product_operator.Times t) = refl
product_operator_back (product_operator.Divide t) = refl
product_operator_back (product_operator.Remainder t) = refl

product_operator_inside : (x : ProductOperator) (first : Bool) → is_product_operator (product_operator_sort x) first ≡ true
product_operator_inside (product_operator.Times t) first = refl
product_operator_inside (product_operator.Divide t) first = refl
product_operator_inside (product_operator.Remainder t) first = refl

product_operator_there : (k : Terminal) (t : Leaf) → product_operator_out (product_operator_at k t) ≡ t
product_operator_there T.Times t = refl
product_operator_there T.Divide t = refl
product_operator_there T.Remainder t = refl
product_operator_there _ t = refl

product_operator_kept : (k : Terminal) (first : Bool) (t : Leaf) → is_product_operator k first ≡ true → product_operator_sort (product_operator_at k t) ≡ k
product_operator_kept T.Times first t m = refl
product_operator_kept T.Divide first t m = refl
product_operator_kept T.Remainder first t m = refl
product_operator_kept _ first t m = absurd (false≢true m)

pub product_operator_shows : Shows product_operator_form (token (on is_product_operator)) product_operator_out product_operator_made
product_operator_shows = sorts_show is_product_operator product_operator_form product_operator_out product_operator_sort product_operator_at (record { tokens = product_operator_tokens; continues = product_operator_continues; right = product_operator_right; inside = product_operator_inside; there = product_operator_there; back = product_operator_back; kept = product_operator_kept })

-- ---- trees with operators between

abbrev pub expr_out : Expr → And × List (Leaf × And)
expr_out x = ((out-Expr x).first, (out-Expr x).more)

abbrev pub expr_made : And × List (Leaf × And) → Expr
expr_made p = roll-Expr (record { first = p.0; more = p.1 })

expr_open : (x : Expr) → expr_reading x ≡ reading (expr_rule and_form) (expr_out x)
expr_open x = fold_out-Expr R R R R R R R R R R R one_atom one_part one_and one_arg one_args one_cmp one_expr one_postfix one_prefix one_product one_sum x ∙ chain_map (on (is T.Or)) (word T.Or) and_reading (out-Expr x).first (out-Expr x).more

pub expr_shows : Shows expr_form (expr_rule and_form) expr_out expr_made
expr_shows = shows_read expr_reading (expr_rule and_form) expr_out expr_made expr_open (λ p. ap (λ z. (z.first, z.more)) (out-roll-Expr (record { first = p.0; more = p.1 }))) (λ x. roll-out-Expr x)

abbrev pub and_out : And → Cmp × List (Leaf × Cmp)
and_out x = ((out-And x).first, (out-And x).more)

abbrev pub and_made : Cmp × List (Leaf × Cmp) → And
and_made p = roll-And (record { first = p.0; more = p.1 })

and_open : (x : And) → and_reading x ≡ reading (and_rule cmp_form) (and_out x)
and_open x = fold_out-And R R R R R R R R R R R one_atom one_part one_and one_arg one_args one_cmp one_expr one_postfix one_prefix one_product one_sum x ∙ chain_map (on (is T.And)) (word T.And) cmp_reading (out-And x).first (out-And x).more

pub and_shows : Shows and_form (and_rule cmp_form) and_out and_made
and_shows = shows_read and_reading (and_rule cmp_form) and_out and_made and_open (λ p. ap (λ z. (z.first, z.more)) (out-roll-And (record { first = p.0; more = p.1 }))) (λ x. roll-out-And x)

abbrev pub sum_out : Sum → Product × List (SumOperator × Product)
sum_out x = ((out-Sum x).first, (out-Sum x).more)

abbrev pub sum_made : Product × List (SumOperator × Product) → Sum
sum_made p = roll-Sum (record { first = p.0; more = p.1 })

sum_open : (x : Sum) → sum_reading x ≡ reading (sum_rule product_form) (sum_out x)
sum_open x = fold_out-Sum R R R R R R R R R R R one_atom one_part one_and one_arg one_args one_cmp one_expr one_postfix one_prefix one_product one_sum x ∙ chain_map (on is_sum_operator) sum_operator_form product_reading (out-Sum x).first (out-Sum x).more

pub sum_shows : Shows sum_form (sum_rule product_form) sum_out sum_made
sum_shows = shows_read sum_reading (sum_rule product_form) sum_out sum_made sum_open (λ p. ap (λ z. (z.first, z.more)) (out-roll-Sum (record { first = p.0; more = p.1 }))) (λ x. roll-out-Sum x)

abbrev pub product_out : Product → Prefix × List (ProductOperator × Prefix)
product_out x = ((out-Product x).first, (out-Product x).more)

abbrev pub product_made : Prefix × List (ProductOperator × Prefix) → Product
product_made p = roll-Product (record { first = p.0; more = p.1 })

product_open : (x : Product) → product_reading x ≡ reading (product_rule prefix_form) (product_out x)
product_open x = fold_out-Product R R R R R R R R R R R one_atom one_part one_and one_arg one_args one_cmp one_expr one_postfix one_prefix one_product one_sum x ∙ chain_map (on is_product_operator) product_operator_form prefix_reading (out-Product x).first (out-Product x).more

pub product_shows : Shows product_form (product_rule prefix_form) product_out product_made
product_shows = shows_read product_reading (product_rule prefix_form) product_out product_made product_open (λ p. ap (λ z. (z.first, z.more)) (out-roll-Product (record { first = p.0; more = p.1 }))) (λ x. roll-out-Product x)

abbrev pub cmp_out : Cmp → Sum × Option (CmpOperator × Sum)
cmp_out x = ((out-Cmp x).left, (out-Cmp x).right)

abbrev pub cmp_made : Sum × Option (CmpOperator × Sum) → Cmp
cmp_made p = roll-Cmp (record { left = p.0; right = p.1 })

cmp_given : (l : Sum) (o : Option (CmpOperator × Sum)) → one_cmp (map-Cmp Atom PostfixPart And Arg Args Cmp Expr Postfix Prefix Product Sum R R R R R R R R R R R atom_reading part_reading and_reading arg_reading args_reading cmp_reading expr_reading postfix_reading prefix_reading product_reading sum_reading (record { left = l; right = o })) ≡ reading (cmp_rule sum_form) (l, o)
cmp_given l None = refl
cmp_given l (Some p) = refl

cmp_open : (x : Cmp) → cmp_reading x ≡ reading (cmp_rule sum_form) (cmp_out x)
cmp_open x = fold_out-Cmp R R R R R R R R R R R one_atom one_part one_and one_arg one_args one_cmp one_expr one_postfix one_prefix one_product one_sum x ∙ cmp_given (out-Cmp x).left (out-Cmp x).right

pub cmp_shows : Shows cmp_form (cmp_rule sum_form) cmp_out cmp_made
cmp_shows = shows_read cmp_reading (cmp_rule sum_form) cmp_out cmp_made cmp_open (λ p. ap (λ z. (z.left, z.right)) (out-roll-Cmp (record { left = p.0; right = p.1 }))) (λ x. roll-out-Cmp x)

abbrev pub prefix_out : Prefix → Option Leaf × Postfix
prefix_out x = ((out-Prefix x).operator, (out-Prefix x).postfix)

abbrev pub prefix_made : Option Leaf × Postfix → Prefix
prefix_made p = roll-Prefix (record { operator = p.0; postfix = p.1 })

prefix_given : (o : Option Leaf) (x : Postfix) → one_prefix (map-Prefix Atom PostfixPart And Arg Args Cmp Expr Postfix Prefix Product Sum R R R R R R R R R R R atom_reading part_reading and_reading arg_reading args_reading cmp_reading expr_reading postfix_reading prefix_reading product_reading sum_reading (record { operator = o; postfix = x })) ≡ reading (prefix_rule postfix_form) (o, x)
prefix_given None x = refl
prefix_given (Some t) x = refl

prefix_open : (x : Prefix) → prefix_reading x ≡ reading (prefix_rule postfix_form) (prefix_out x)
prefix_open x = fold_out-Prefix R R R R R R R R R R R one_atom one_part one_and one_arg one_args one_cmp one_expr one_postfix one_prefix one_product one_sum x ∙ prefix_given (out-Prefix x).operator (out-Prefix x).postfix

pub prefix_shows : Shows prefix_form (prefix_rule postfix_form) prefix_out prefix_made
prefix_shows = shows_read prefix_reading (prefix_rule postfix_form) prefix_out prefix_made prefix_open (λ p. ap (λ z. (z.operator, z.postfix)) (out-roll-Prefix (record { operator = p.0; postfix = p.1 }))) (λ x. roll-out-Prefix x)

-- ---- a postfix and its parts

abbrev pub postfix_out : Postfix → Atom × List PostfixPart
postfix_out x = ((out-Postfix x).atom, (out-Postfix x).parts)

abbrev pub postfix_made : Atom × List PostfixPart → Postfix
postfix_made p = roll-Postfix (record { atom = p.0; parts = p.1 })

pub postfix_open : (x : Postfix) → postfix_reading x ≡ reading (postfix_rule atom_form part_form) (postfix_out x)
postfix_open x = fold_out-Postfix R R R R R R R R R R R one_atom one_part one_and one_arg one_args one_cmp one_expr one_postfix one_prefix one_product one_sum x ∙ trail_map (on begins_part) atom_form part_form given given part_reading (λ p. refl) (atom_reading (out-Postfix x).atom) (out-Postfix x).atom (out-Postfix x).parts refl

pub postfix_there : (p : Atom × List PostfixPart) → postfix_out (postfix_made p) ≡ p
postfix_there p = ap (λ z. (z.atom, z.parts)) (out-roll-Postfix (record { atom = p.0; parts = p.1 }))

pub postfix_shows : Shows postfix_form (postfix_rule atom_form part_form) postfix_out postfix_made
postfix_shows = shows_read postfix_reading (postfix_rule atom_form part_form) postfix_out postfix_made postfix_open (λ p. ap (λ z. (z.atom, z.parts)) (out-roll-Postfix (record { atom = p.0; parts = p.1 }))) (λ x. roll-out-Postfix x)

abbrev pub ArgList : Type 0
ArgList = Arg × List (Leaf × Arg)

abbrev pub arg_list_form : Form Leaf ArgList
arg_list_form = arg_list_rule arg_form

abbrev pub args_out : Args → Leaf × (Option ArgList × Leaf)
args_out x = ((out-Args x).opening, ((out-Args x).list, (out-Args x).closing))

abbrev pub args_made : Leaf × (Option ArgList × Leaf) → Args
args_made p = roll-Args (record { opening = p.0; list = p.1.0; closing = p.1.1 })

args_given : (a c : Leaf) (o : Option ArgList) → one_args (map-Args Atom PostfixPart And Arg Args Cmp Expr Postfix Prefix Product Sum R R R R R R R R R R R atom_reading part_reading and_reading arg_reading args_reading cmp_reading expr_reading postfix_reading prefix_reading product_reading sum_reading (record { opening = a; list = o; closing = c })) ≡ reading (args_rule arg_form) (a, (o, c))
args_given a c None = refl
args_given a c (Some p) = ap (λ r. made_reading (a ∷ (r.tokens ++ (c ∷ []))) (on opens_args a && (r.is_well_formed && on (is T.RightParenthesis) c)) nothing) (chain_map (on (is T.Comma)) (word T.Comma) arg_reading p.0 p.1)

args_open : (x : Args) → args_reading x ≡ reading (args_rule arg_form) (args_out x)
args_open x = fold_out-Args R R R R R R R R R R R one_atom one_part one_and one_arg one_args one_cmp one_expr one_postfix one_prefix one_product one_sum x ∙ args_given (out-Args x).opening (out-Args x).closing (out-Args x).list

pub args_shows : Shows args_form (args_rule arg_form) args_out args_made
args_shows = shows_read args_reading (args_rule arg_form) args_out args_made args_open (λ p. ap (λ z. (z.opening, (z.list, z.closing))) (out-roll-Args (record { opening = p.0; list = p.1.0; closing = p.1.1 }))) (λ x. roll-out-Args x)

abbrev pub arg_out : Arg → Option (Leaf × Leaf) × Expr
arg_out x = ((out-Arg x).label, (out-Arg x).value)

abbrev pub arg_made : Option (Leaf × Leaf) × Expr → Arg
arg_made p = roll-Arg (record { label = p.0; value = p.1 })

arg_given : (o : Option (Leaf × Leaf)) (x : Expr) → one_arg (map-Arg Atom PostfixPart And Arg Args Cmp Expr Postfix Prefix Product Sum R R R R R R R R R R R atom_reading part_reading and_reading arg_reading args_reading cmp_reading expr_reading postfix_reading prefix_reading product_reading sum_reading (record { label = o; value = x })) ≡ reading (arg_rule expr_form) (o, x)
arg_given None x = refl
arg_given (Some p) x = refl

arg_open : (x : Arg) → arg_reading x ≡ reading (arg_rule expr_form) (arg_out x)
arg_open x = fold_out-Arg R R R R R R R R R R R one_atom one_part one_and one_arg one_args one_cmp one_expr one_postfix one_prefix one_product one_sum x ∙ arg_given (out-Arg x).label (out-Arg x).value

pub arg_shows : Shows arg_form (arg_rule expr_form) arg_out arg_made
arg_shows = shows_read arg_reading (arg_rule expr_form) arg_out arg_made arg_open (λ p. ap (λ z. (z.label, z.value)) (out-roll-Arg (record { label = p.0; value = p.1 }))) (λ x. roll-out-Arg x)

abbrev pub PartParts : Type 0
PartParts = (Leaf × Leaf) ⊎ Args

abbrev pub part_rule : Form Leaf PartParts
part_rule = either member_rule args_form

abbrev pub part_parts : PostfixPart-F Atom PostfixPart And Arg Args Cmp Expr Postfix Prefix Product Sum → PartParts
part_parts (PostfixPart-F.Member dot name) = inl (dot, name)
part_parts (PostfixPart-F.Call args) = inr args

abbrev pub part_layer : PartParts → PostfixPart-F Atom PostfixPart And Arg Args Cmp Expr Postfix Prefix Product Sum
part_layer (inl p) = PostfixPart-F.Member p.0 p.1
part_layer (inr args) = PostfixPart-F.Call args

abbrev pub part_out : PostfixPart → PartParts
part_out x = part_parts (out-PostfixPart x)

abbrev pub part_made : PartParts → PostfixPart
part_made p = roll-PostfixPart (part_layer p)

part_given : (y : PostfixPart-F Atom PostfixPart And Arg Args Cmp Expr Postfix Prefix Product Sum) → one_part (map-PostfixPart Atom PostfixPart And Arg Args Cmp Expr Postfix Prefix Product Sum R R R R R R R R R R R atom_reading part_reading and_reading arg_reading args_reading cmp_reading expr_reading postfix_reading prefix_reading product_reading sum_reading y) ≡ reading part_rule (part_parts y)
part_given (PostfixPart-F.Member dot name) = refl
part_given (PostfixPart-F.Call args) = refl

pub part_open : (x : PostfixPart) → part_reading x ≡ reading part_rule (part_out x)
part_open x = fold_out-PostfixPart R R R R R R R R R R R one_atom one_part one_and one_arg one_args one_cmp one_expr one_postfix one_prefix one_product one_sum x ∙ part_given (out-PostfixPart x)

pub part_there : (p : PartParts) → part_parts (part_layer p) ≡ p
part_there (inl p) = refl
part_there (inr p) = refl

part_back : (y : PostfixPart-F Atom PostfixPart And Arg Args Cmp Expr Postfix Prefix Product Sum) → part_layer (part_parts y) ≡ y
part_back (PostfixPart-F.Member dot name) = refl
part_back (PostfixPart-F.Call args) = refl

pub part_shows : Shows part_form part_rule part_out part_made
part_shows = shows_read part_reading part_rule part_out part_made part_open (λ p. ap part_parts (out-roll-PostfixPart (part_layer p)) ∙ part_there p) (λ x. ap (λ y. roll-PostfixPart y) (part_back (out-PostfixPart x)) ∙ roll-out-PostfixPart x)

-- ---- an atom: a token of one of six terminals, or an expression in brackets

abbrev pub AtomParts : Type 0
AtomParts = Leaf ⊎ (Leaf × (Expr × Leaf))

abbrev pub atom_rule : Form Leaf AtomParts
atom_rule = either (token (on is_simple_atom)) (parentheses_rule expr_form)

abbrev pub atom_parts : Atom-F Atom PostfixPart And Arg Args Cmp Expr Postfix Prefix Product Sum → AtomParts
atom_parts (Atom-F.Integer t) = inl t
atom_parts (Atom-F.StringText t) = inl t
atom_parts (Atom-F.True t) = inl t
atom_parts (Atom-F.False t) = inl t
atom_parts (Atom-F.Name t) = inl t
atom_parts (Atom-F.SelfValue t) = inl t
atom_parts (Atom-F.Parentheses (opening, expr, closing)) = inr (opening, (expr, closing))

abbrev pub atom_at : Terminal → Leaf → Atom-F Atom PostfixPart And Arg Args Cmp Expr Postfix Prefix Product Sum
atom_at T.Integer t = Atom-F.Integer t
atom_at T.StringText t = Atom-F.StringText t
atom_at T.True t = Atom-F.True t
atom_at T.False t = Atom-F.False t
atom_at T.Identifier t = Atom-F.Name t
atom_at T.SelfValue t = Atom-F.SelfValue t
atom_at _ t = Atom-F.Integer t

abbrev pub atom_layer : AtomParts → Atom-F Atom PostfixPart And Arg Args Cmp Expr Postfix Prefix Product Sum
atom_layer (inl t) = atom_at (terminal t) t
atom_layer (inr p) = Atom-F.Parentheses (p.0, p.1.0, p.1.1)

abbrev pub atom_out : Atom → AtomParts
atom_out x = atom_parts (out-Atom x)

abbrev pub atom_made : AtomParts → Atom
atom_made p = roll-Atom (atom_layer p)

abbrev pub atom_given : Atom-F Atom PostfixPart And Arg Args Cmp Expr Postfix Prefix Product Sum → R
atom_given y = one_atom (map-Atom Atom PostfixPart And Arg Args Cmp Expr Postfix Prefix Product Sum R R R R R R R R R R R atom_reading part_reading and_reading arg_reading args_reading cmp_reading expr_reading postfix_reading prefix_reading product_reading sum_reading y)

pub atom_open : (x : Atom) → atom_reading x ≡ atom_given (out-Atom x)
atom_open x = fold_out-Atom R R R R R R R R R R R one_atom one_part one_and one_arg one_args one_cmp one_expr one_postfix one_prefix one_product one_sum x

atom_tokens : (y : Atom-F Atom PostfixPart And Arg Args Cmp Expr Postfix Prefix Product Sum) → (atom_given y).tokens ≡ atom_rule.tokens (atom_parts y)
atom_tokens (Atom-F.Integer t) = refl
atom_tokens (Atom-F.StringText t) = refl
atom_tokens (Atom-F.True t) = refl
atom_tokens (Atom-F.False t) = refl
atom_tokens (Atom-F.Name t) = refl
atom_tokens (Atom-F.SelfValue t) = refl
atom_tokens (Atom-F.Parentheses (opening, expr, closing)) = refl

atom_goes : (y : Atom-F Atom PostfixPart And Arg Args Cmp Expr Postfix Prefix Product Sum) → (atom_given y).continues ≡ atom_rule.continues (atom_parts y)
atom_goes (Atom-F.Integer t) = refl
atom_goes (Atom-F.StringText t) = refl
atom_goes (Atom-F.True t) = refl
atom_goes (Atom-F.False t) = refl
atom_goes (Atom-F.Name t) = refl
atom_goes (Atom-F.SelfValue t) = refl
atom_goes (Atom-F.Parentheses (opening, expr, closing)) = refl

atom_right : (y : Atom-F Atom PostfixPart And Arg Args Cmp Expr Postfix Prefix Product Sum) → (atom_given y).is_well_formed ≡ true → atom_rule.is_well_formed (atom_parts y) ≡ true
atom_right (Atom-F.Integer t) r = within (is T.Integer) is_simple_atom refl t r
atom_right (Atom-F.StringText t) r = within (is T.StringText) is_simple_atom refl t r
atom_right (Atom-F.True t) r = within (is T.True) is_simple_atom refl t r
atom_right (Atom-F.False t) r = within (is T.False) is_simple_atom refl t r
atom_right (Atom-F.Name t) r = within (is T.Identifier) is_simple_atom refl t r
atom_right (Atom-F.SelfValue t) r = within (is T.SelfValue) is_simple_atom refl t r
atom_right (Atom-F.Parentheses (opening, expr, closing)) r = r

simple_there : (k : Terminal) (t : Leaf) → atom_parts (atom_at k t) ≡ inl t
simple_there T.Integer t = refl
simple_there T.StringText t = refl
simple_there T.True t = refl
simple_there T.False t = refl
simple_there T.Identifier t = refl
simple_there T.SelfValue t = refl
simple_there _ t = refl

simple_right : (k : Terminal) (first : Bool) (t : Leaf) → terminal t ≡ k → is_simple_atom k first ≡ true → (atom_given (atom_at k t)).is_well_formed ≡ true
simple_right T.Integer first t e m = same_number (terminal t) T.Integer e
simple_right T.StringText first t e m = same_number (terminal t) T.StringText e
simple_right T.True first t e m = same_number (terminal t) T.True e
simple_right T.False first t e m = same_number (terminal t) T.False e
simple_right T.Identifier first t e m = same_number (terminal t) T.Identifier e
simple_right T.SelfValue first t e m = same_number (terminal t) T.SelfValue e
simple_right _ first t e m = absurd (false≢true m)

atom_there : (p : AtomParts) → atom_parts (atom_layer p) ≡ p
atom_there (inl t) = simple_there (terminal t) t
atom_there (inr p) = refl

layer_right : (p : AtomParts) → atom_rule.is_well_formed p ≡ true → (atom_given (atom_layer p)).is_well_formed ≡ true
layer_right (inl t) r = simple_right (terminal t) t.first_on_line t refl r
layer_right (inr p) r = r

atom_back : (y : Atom-F Atom PostfixPart And Arg Args Cmp Expr Postfix Prefix Product Sum) → (atom_given y).is_well_formed ≡ true → atom_layer (atom_parts y) ≡ y
atom_back (Atom-F.Integer t) r = ap (λ k. atom_at k t) (is_terminal T.Integer t r)
atom_back (Atom-F.StringText t) r = ap (λ k. atom_at k t) (is_terminal T.StringText t r)
atom_back (Atom-F.True t) r = ap (λ k. atom_at k t) (is_terminal T.True t r)
atom_back (Atom-F.False t) r = ap (λ k. atom_at k t) (is_terminal T.False t r)
atom_back (Atom-F.Name t) r = ap (λ k. atom_at k t) (is_terminal T.Identifier t r)
atom_back (Atom-F.SelfValue t) r = ap (λ k. atom_at k t) (is_terminal T.SelfValue t r)
atom_back (Atom-F.Parentheses (opening, expr, closing)) r = refl

pub atom_shows : Shows atom_form atom_rule atom_out atom_made
atom_shows = record {
  tokens = λ x. ap (λ r. r.tokens) (atom_open x) ∙ atom_tokens (out-Atom x);
  continues = λ x. ap (λ r. r.continues) (atom_open x) ∙ atom_goes (out-Atom x);
  right = λ x r. atom_right (out-Atom x) (sym (ap (λ z. z.is_well_formed) (atom_open x)) ∙ r);
  made_right = λ p r. ap (λ z. z.is_well_formed) (atom_open (atom_made p)) ∙ subst (λ y. (atom_given y).is_well_formed ≡ true) (sym (out-roll-Atom (atom_layer p))) (layer_right p r);
  there = λ p r. ap atom_parts (out-roll-Atom (atom_layer p)) ∙ atom_there p;
  back = λ x r. ap (λ y. roll-Atom y) (atom_back (out-Atom x) (sym (ap (λ z. z.is_well_formed) (atom_open x)) ∙ r)) ∙ roll-out-Atom x;
}

-- ---- the variants of the program

pub integer_is : (t : Leaf) → on (is T.Integer) t ≡ true → atom_made (inl t) ≡ atom.Integer t
integer_is t m = ap (λ k. roll-Atom (atom_at k t)) (is_terminal T.Integer t m) ∙ atom.rolls-Integer t

pub string_is : (t : Leaf) → on (is T.StringText) t ≡ true → atom_made (inl t) ≡ atom.StringText t
string_is t m = ap (λ k. roll-Atom (atom_at k t)) (is_terminal T.StringText t m) ∙ atom.rolls-StringText t

pub true_is : (t : Leaf) → on (is T.True) t ≡ true → atom_made (inl t) ≡ atom.True t
true_is t m = ap (λ k. roll-Atom (atom_at k t)) (is_terminal T.True t m) ∙ atom.rolls-True t

pub false_is : (t : Leaf) → on (is T.False) t ≡ true → atom_made (inl t) ≡ atom.False t
false_is t m = ap (λ k. roll-Atom (atom_at k t)) (is_terminal T.False t m) ∙ atom.rolls-False t

pub name_is : (t : Leaf) → on (is T.Identifier) t ≡ true → atom_made (inl t) ≡ atom.Name t
name_is t m = ap (λ k. roll-Atom (atom_at k t)) (is_terminal T.Identifier t m) ∙ atom.rolls-Name t

pub self_is : (t : Leaf) → on (is T.SelfValue) t ≡ true → atom_made (inl t) ≡ atom.SelfValue t
self_is t m = ap (λ k. roll-Atom (atom_at k t)) (is_terminal T.SelfValue t m) ∙ atom.rolls-SelfValue t

pub parentheses_is : (a : Leaf) (x : Expr) (c : Leaf) → atom_made (inr (a, (x, c))) ≡ atom.Parentheses (a, x, c)
parentheses_is a x c = atom.rolls-Parentheses (a, x, c)

pub member_is : (t s : Leaf) → part_made (inl (t, s)) ≡ part.Member t s
member_is t s = part.rolls-Member t s

pub call_is : (a : Args) → part_made (inr a) ≡ part.Call a
call_is a = part.rolls-Call a
