-- The rules of expressions, each over what its parts give, and the forms of their trees.
use Rattle.std.specs.Prelude.{List, Option}
use Rattle.grammar.specs.Forms.{Form, token, both, perhaps, once, trail, chain, labelled}
use Rattle.grammar.specs.Shows.{TreeFacts, reading, given, seen}
use Rattle.swift_ast.specs.declared.terminals.Terminal.{Terminal}
use Rattle.swift_ast.specs.declared.terminals.Terminal.TheVariants as T
use Rattle.swift_ast.specs.declared.expressions.CmpOperator.{CmpOperator}
use Rattle.swift_ast.specs.declared.expressions.CmpOperator.TheVariants.{Equal, NotEqual, Less, LessOrEqual, Greater, GreaterOrEqual}
use Rattle.swift_ast.specs.declared.expressions.SumOperator.{SumOperator}
use Rattle.swift_ast.specs.declared.expressions.SumOperator.TheVariants.{Plus, Minus}
use Rattle.swift_ast.specs.declared.expressions.ProductOperator.{ProductOperator}
use Rattle.swift_ast.specs.declared.expressions.ProductOperator.TheVariants.{Times, Divide, Remainder}
use Rattle.swift_ast.specs.declared.expressions.Expr.{Expr, Expr-F, fold-Expr}
use Rattle.swift_ast.specs.declared.expressions.And.{And, And-F, fold-And}
use Rattle.swift_ast.specs.declared.expressions.Cmp.{Cmp, Cmp-F, fold-Cmp}
use Rattle.swift_ast.specs.declared.expressions.Sum.{Sum, Sum-F, fold-Sum}
use Rattle.swift_ast.specs.declared.expressions.Product.{Product, Product-F, fold-Product}
use Rattle.swift_ast.specs.declared.expressions.Prefix.{Prefix, Prefix-F, fold-Prefix}
use Rattle.swift_ast.specs.declared.expressions.Postfix.{Postfix, Postfix-F, fold-Postfix}
use Rattle.swift_ast.specs.declared.expressions.PostfixPart.{PostfixPart, PostfixPart-F, fold-PostfixPart}
use Rattle.swift_ast.specs.declared.expressions.Args.{Args, Args-F, fold-Args}
use Rattle.swift_ast.specs.declared.expressions.Arg.{Arg, Arg-F, fold-Arg}
use Rattle.swift_ast.specs.declared.expressions.Atom.{Atom, Atom-F, fold-Atom}
use Rattle.swift_ast.specs.Leaves.{Leaf}
use Rattle.swift_ast.specs.Tests.{on, is, is_prefix_operator, is_product_operator, is_sum_operator, is_cmp_operator, opens_args, begins_part, begins_expr}

-- A token of the grammar.
abbrev pub word : Terminal → Form Leaf Leaf
word terminal = token (on (is terminal))

-- An operator that compares.
abbrev pub cmp_operator_reading : CmpOperator → TreeFacts Leaf
cmp_operator_reading (Equal t) = reading (word T.Equal) t
cmp_operator_reading (NotEqual t) = reading (word T.NotEqual) t
cmp_operator_reading (Less t) = reading (word T.Less) t
cmp_operator_reading (LessOrEqual t) = reading (word T.LessOrEqual) t
cmp_operator_reading (Greater t) = reading (word T.Greater) t
cmp_operator_reading (GreaterOrEqual t) = reading (word T.GreaterOrEqual) t

abbrev pub cmp_operator_form : Form Leaf CmpOperator
cmp_operator_form = seen cmp_operator_reading

-- An operator between the terms of a sum.
abbrev pub sum_operator_reading : SumOperator → TreeFacts Leaf
sum_operator_reading (Plus t) = reading (word T.Plus) t
sum_operator_reading (Minus t) = reading (word T.Minus) t

abbrev pub sum_operator_form : Form Leaf SumOperator
sum_operator_form = seen sum_operator_reading

-- An operator between the factors of a product.
abbrev pub product_operator_reading : ProductOperator → TreeFacts Leaf
product_operator_reading (Times t) = reading (word T.Times) t
product_operator_reading (Divide t) = reading (word T.Divide) t
product_operator_reading (Remainder t) = reading (word T.Remainder) t

abbrev pub product_operator_form : Form Leaf ProductOperator
product_operator_form = seen product_operator_reading

-- Operands with `||` between them.
abbrev pub expr_rule : {X : Type 0} → Form Leaf X → Form Leaf (X × List (Leaf × X))
expr_rule operand = chain (on (is T.Or)) (word T.Or) operand

-- Operands with `&&` between them.
abbrev pub and_rule : {X : Type 0} → Form Leaf X → Form Leaf (X × List (Leaf × X))
and_rule operand = chain (on (is T.And)) (word T.And) operand

-- A sum, or two with an operator that compares them.
abbrev pub cmp_rule : {X : Type 0} → Form Leaf X → Form Leaf (X × Option (CmpOperator × X))
cmp_rule operand = once (on is_cmp_operator) operand (both cmp_operator_form operand)

-- Products with `+` and `-` between them.
abbrev pub sum_rule : {X : Type 0} → Form Leaf X → Form Leaf (X × List (SumOperator × X))
sum_rule operand = chain (on is_sum_operator) sum_operator_form operand

-- Operands with `*`, `/` and `%` between them.
abbrev pub product_rule : {X : Type 0} → Form Leaf X → Form Leaf (X × List (ProductOperator × X))
product_rule operand = chain (on is_product_operator) product_operator_form operand

-- A postfix that may have `-` or `!` before it.
abbrev pub prefix_rule : {X : Type 0} → Form Leaf X → Form Leaf (Option Leaf × X)
prefix_rule postfix = both (perhaps (on is_prefix_operator) (token (on is_prefix_operator))) postfix

-- An atom, and members and calls behind it.
abbrev pub postfix_rule : {X Y : Type 0} → Form Leaf X → Form Leaf Y → Form Leaf (X × List Y)
postfix_rule atom part = trail (on begins_part) atom part

-- A full stop and the name of a member.
abbrev pub member_rule : Form Leaf (Leaf × Leaf)
member_rule = both (word T.Dot) (word T.Identifier)

-- Arguments with commas between them.
abbrev pub arg_list_rule : {X : Type 0} → Form Leaf X → Form Leaf (X × List (Leaf × X))
arg_list_rule arg = chain (on (is T.Comma)) (word T.Comma) arg

-- Arguments, or none, in round brackets that open on the line of what is called.
abbrev pub args_rule : {X : Type 0} → Form Leaf X → Form Leaf (Leaf × (Option (X × List (Leaf × X)) × Leaf))
args_rule arg = both (token (on opens_args)) (both (perhaps (on begins_expr) (arg_list_rule arg)) (word T.RightParenthesis))

-- An expression that may have a name and a colon before it.
abbrev pub arg_rule : {X : Type 0} → Form Leaf X → Form Leaf (Option (Leaf × Leaf) × X)
arg_rule expr = labelled (on (is T.Identifier)) (on (is T.Colon)) expr

-- An expression in round brackets.
abbrev pub parentheses_rule : {X : Type 0} → Form Leaf X → Form Leaf (Leaf × (X × Leaf))
parentheses_rule expr = both (word T.LeftParenthesis) (both expr (word T.RightParenthesis))

-- What each tree gives by what its parts gave.
abbrev pub R : Type 0
R = TreeFacts Leaf

abbrev pub one_expr : Expr-F R R R R R R R R R R R → R
one_expr x = reading (expr_rule given) (x.first, x.more)

abbrev pub one_and : And-F R R R R R R R R R R R → R
one_and x = reading (and_rule given) (x.first, x.more)

abbrev pub one_cmp : Cmp-F R R R R R R R R R R R → R
one_cmp x = reading (cmp_rule given) (x.left, x.right)

abbrev pub one_sum : Sum-F R R R R R R R R R R R → R
one_sum x = reading (sum_rule given) (x.first, x.more)

abbrev pub one_product : Product-F R R R R R R R R R R R → R
one_product x = reading (product_rule given) (x.first, x.more)

abbrev pub one_prefix : Prefix-F R R R R R R R R R R R → R
one_prefix x = reading (prefix_rule given) (x.operator, x.postfix)

abbrev pub one_postfix : Postfix-F R R R R R R R R R R R → R
one_postfix x = reading (postfix_rule given given) (x.atom, x.parts)

abbrev pub one_part : PostfixPart-F R R R R R R R R R R R → R
one_part (PostfixPart-F.Member dot name) = reading member_rule (dot, name)
one_part (PostfixPart-F.Call args) = args

abbrev pub one_args : Args-F R R R R R R R R R R R → R
one_args x = reading (args_rule given) (x.opening, (x.list, x.closing))

abbrev pub one_arg : Arg-F R R R R R R R R R R R → R
one_arg x = reading (arg_rule given) (x.label, x.value)

abbrev pub one_atom : Atom-F R R R R R R R R R R R → R
one_atom (Atom-F.Integer t) = reading (word T.Integer) t
one_atom (Atom-F.StringText t) = reading (word T.StringText) t
one_atom (Atom-F.True t) = reading (word T.True) t
one_atom (Atom-F.False t) = reading (word T.False) t
one_atom (Atom-F.Name t) = reading (word T.Identifier) t
one_atom (Atom-F.SelfValue t) = reading (word T.SelfValue) t
one_atom (Atom-F.Parentheses (opening, expr, closing)) = reading (parentheses_rule given) (opening, (expr, closing))

abbrev pub atom_reading : Atom → R
atom_reading = fold-Atom R R R R R R R R R R R one_atom one_part one_and one_arg one_args one_cmp one_expr one_postfix one_prefix one_product one_sum

abbrev pub part_reading : PostfixPart → R
part_reading = fold-PostfixPart R R R R R R R R R R R one_atom one_part one_and one_arg one_args one_cmp one_expr one_postfix one_prefix one_product one_sum

abbrev pub and_reading : And → R
and_reading = fold-And R R R R R R R R R R R one_atom one_part one_and one_arg one_args one_cmp one_expr one_postfix one_prefix one_product one_sum

abbrev pub arg_reading : Arg → R
arg_reading = fold-Arg R R R R R R R R R R R one_atom one_part one_and one_arg one_args one_cmp one_expr one_postfix one_prefix one_product one_sum

abbrev pub args_reading : Args → R
args_reading = fold-Args R R R R R R R R R R R one_atom one_part one_and one_arg one_args one_cmp one_expr one_postfix one_prefix one_product one_sum

abbrev pub cmp_reading : Cmp → R
cmp_reading = fold-Cmp R R R R R R R R R R R one_atom one_part one_and one_arg one_args one_cmp one_expr one_postfix one_prefix one_product one_sum

abbrev pub expr_reading : Expr → R
expr_reading = fold-Expr R R R R R R R R R R R one_atom one_part one_and one_arg one_args one_cmp one_expr one_postfix one_prefix one_product one_sum

abbrev pub postfix_reading : Postfix → R
postfix_reading = fold-Postfix R R R R R R R R R R R one_atom one_part one_and one_arg one_args one_cmp one_expr one_postfix one_prefix one_product one_sum

abbrev pub prefix_reading : Prefix → R
prefix_reading = fold-Prefix R R R R R R R R R R R one_atom one_part one_and one_arg one_args one_cmp one_expr one_postfix one_prefix one_product one_sum

abbrev pub product_reading : Product → R
product_reading = fold-Product R R R R R R R R R R R one_atom one_part one_and one_arg one_args one_cmp one_expr one_postfix one_prefix one_product one_sum

abbrev pub sum_reading : Sum → R
sum_reading = fold-Sum R R R R R R R R R R R one_atom one_part one_and one_arg one_args one_cmp one_expr one_postfix one_prefix one_product one_sum

-- The forms of the trees.
abbrev pub atom_form : Form Leaf Atom
atom_form = seen atom_reading

abbrev pub part_form : Form Leaf PostfixPart
part_form = seen part_reading

abbrev pub and_form : Form Leaf And
and_form = seen and_reading

abbrev pub arg_form : Form Leaf Arg
arg_form = seen arg_reading

abbrev pub args_form : Form Leaf Args
args_form = seen args_reading

abbrev pub cmp_form : Form Leaf Cmp
cmp_form = seen cmp_reading

abbrev pub expr_form : Form Leaf Expr
expr_form = seen expr_reading

abbrev pub postfix_form : Form Leaf Postfix
postfix_form = seen postfix_reading

abbrev pub prefix_form : Form Leaf Prefix
prefix_form = seen prefix_reading

abbrev pub product_form : Form Leaf Product
product_form = seen product_reading

abbrev pub sum_form : Form Leaf Sum
sum_form = seen sum_reading
