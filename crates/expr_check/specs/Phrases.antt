-- The checks of the trees of expressions, each by those of its parts.
use Rattle.std.specs.Prelude.{ℕ, true, false, List, [], ◌∷◌, map, codes, Option, Some, None}
use Rattle.type_rules.specs.declared.ty.Ty.TheVariants as ty
use Rattle.swift_ast.specs.declared.expressions.CmpOperator.{CmpOperator}
use Rattle.swift_ast.specs.declared.expressions.CmpOperator.TheVariants.{Equal, NotEqual, Less, LessOrEqual, Greater, GreaterOrEqual}
use Rattle.swift_ast.specs.declared.expressions.SumOperator.{SumOperator}
use Rattle.swift_ast.specs.declared.expressions.SumOperator.TheVariants.{Plus, Minus}
use Rattle.swift_ast.specs.declared.expressions.ProductOperator.{ProductOperator}
use Rattle.swift_ast.specs.declared.expressions.ProductOperator.TheVariants.{Times, Divide, Remainder}
use Rattle.swift_ast.specs.declared.expressions.Expr.{Expr, Expr-F, fold-Expr}
use Rattle.swift_ast.specs.declared.expressions.And.{And, And-F, fold-And}
use Rattle.swift_ast.specs.declared.expressions.Cmp.{Cmp, Cmp-F, fold-Cmp}
use Rattle.swift_ast.specs.declared.expressions.Sum.{Sum, Sum-F, fold-Sum}
use Rattle.swift_ast.specs.declared.expressions.Product.{Product, Product-F, fold-Product}
use Rattle.swift_ast.specs.declared.expressions.Prefix.{Prefix, Prefix-F, fold-Prefix}
use Rattle.swift_ast.specs.declared.expressions.Postfix.{Postfix, Postfix-F, fold-Postfix}
use Rattle.swift_ast.specs.declared.expressions.PostfixPart.{PostfixPart, PostfixPart-F, fold-PostfixPart}
use Rattle.swift_ast.specs.declared.expressions.Args.{Args, Args-F, fold-Args}
use Rattle.swift_ast.specs.declared.expressions.Arg.{Arg, Arg-F, fold-Arg}
use Rattle.swift_ast.specs.declared.expressions.Atom.{Atom, Atom-F, fold-Atom}
use Rattle.swift_ast.specs.Leaves.{Leaf}
use Rattle.typed_code.specs.declared.step.Step.TheVariants as step
use Rattle.checks.specs.Checks.{sure, ◌>>=◌, both, all, grouped}
use Rattle.expr_check.specs.declared.place.Place.{Place}
use Rattle.expr_check.specs.declared.typed.Typed.{Typed}
use Rattle.expr_check.specs.declared.scope.Scope.{Scope}
use Rattle.expr_check.specs.Messages.{place_of}
use Rattle.expr_check.specs.Types.{CheckOf}
use Rattle.expr_check.specs.Expressions.{typed, name_check, self_value, member_named, member_value, binary, unary, Given, Callee, call, value_callee, callee_named, method_named}

-- An expression: where it begins, and how it is checked in a scope.
pub record Phrase : Type 0 where
  pub first : Place
  pub check : Scope → CheckOf Typed

abbrev pub phrase : Place → (Scope → CheckOf Typed) → Phrase
phrase first check = record { first = first; check = check }

-- What stands before a part of a postfix: a value, or a name that isn't looked up yet, since it is a callee where arguments follow. The
-- name is one in scope, or that of a member of a value.
pub data Front : Type 0 where
  Value : CheckOf Typed → Front
  Name : Leaf → Front
  MemberOf : CheckOf Typed → Leaf → Front

-- An atom: its first token, and what stands before the parts behind it.
pub record Opening : Type 0 where
  pub first : Leaf
  pub front : Scope → Front

-- An argument: its label, `_` where it has none, and its value.
pub record Argument : Type 0 where
  pub label : List ℕ
  pub value : Phrase

-- What stands behind an atom: the name of a member, or the arguments of a call.
pub data Part : Type 0 where
  Member : Leaf → Part
  Call : List Argument → Part

-- Operands with operators between them, grouped from the left.
abbrev pub chain : Phrase → List (Leaf × Phrase) → Phrase
chain first more = phrase first.first (λ s. grouped binary (first.check s) (map (λ p. (p.0, p.1.check s)) more))

abbrev pub given : Scope → Argument → CheckOf Given
given s a = do
  v ← a.value.check s
  sure (record { label = a.label; first = a.value.first; value = v })

-- Arguments from left to right.
abbrev pub givens : Scope → List Argument → CheckOf (List Given)
givens s args = all (map (given s) args)

abbrev pub as_value : Scope → Leaf → Front → CheckOf Typed
as_value s first (Value v) = v
as_value s first (Name t) = name_check s t
as_value s first (MemberOf v m) = v >>= (λ base. member_named s base.ty m >>= member_value s (place_of first) m base)

abbrev pub as_callee : Scope → Leaf → Front → CheckOf Callee
as_callee s first (Value v) = value_callee v
as_callee s first (Name t) = callee_named s t
as_callee s first (MemberOf v m) = method_named s (place_of first) m v

-- the last name of a callee, and the first token of one that has none
abbrev pub callee_name : Leaf → Front → Leaf
callee_name first (Value v) = first
callee_name first (Name t) = t
callee_name first (MemberOf v m) = m

-- Members and calls, from left to right. Arguments are checked also where what is called has an error.
abbrev pub extended : Scope → Leaf → Front → List Part → CheckOf Typed
extended s first front [] = as_value s first front
extended s first front (Member m ∷ parts) = extended s first (MemberOf (as_value s first front) m) parts
extended s first front (Call args ∷ parts) = extended s first (Value (both (as_callee s first front) (givens s args) >>= call s (place_of first) (callee_name first front))) parts

abbrev pub postfix : Opening → List Part → Phrase
postfix atom parts = phrase (place_of atom.first) (λ s. extended s atom.first (atom.front s) parts)

abbrev pub prefixed : Option Leaf → Phrase → Phrase
prefixed None operand = operand
prefixed (Some t) operand = phrase (place_of t) (λ s. operand.check s >>= unary t)

-- ---- what each tree is, by what its parts are

abbrev pub cmp_operator_token : CmpOperator → Leaf
cmp_operator_token (Equal t) = t
cmp_operator_token (NotEqual t) = t
cmp_operator_token (Less t) = t
cmp_operator_token (LessOrEqual t) = t
cmp_operator_token (Greater t) = t
cmp_operator_token (GreaterOrEqual t) = t

abbrev pub sum_operator_token : SumOperator → Leaf
sum_operator_token (Plus t) = t
sum_operator_token (Minus t) = t

abbrev pub product_operator_token : ProductOperator → Leaf
product_operator_token (Times t) = t
product_operator_token (Divide t) = t
product_operator_token (Remainder t) = t

abbrev pub compared : Option (CmpOperator × Phrase) → List (Leaf × Phrase)
compared None = []
compared (Some (t, right)) = (cmp_operator_token t, right) ∷ []

abbrev pub listed : Option (Argument × List (Leaf × Argument)) → List Argument
listed None = []
listed (Some (first, more)) = first ∷ map (λ a. a.1) more

abbrev pub label_of : Option (Leaf × Leaf) → List ℕ
label_of None = codes "_"
label_of (Some (name, colon)) = name.text

abbrev pub opening_with : Leaf → (Scope → CheckOf Typed) → Opening
opening_with t check = record { first = t; front = λ s. Value (check s) }

abbrev pub literal : Leaf → Typed → Opening
literal t v = opening_with t (λ s. sure v)

abbrev pub one_atom : Atom-F Opening Part Phrase Argument (List Argument) Phrase Phrase Phrase Phrase Phrase Phrase → Opening
one_atom (Atom-F.Integer t) = literal t (typed ty.Int (step.Integer t.text ∷ []))
one_atom (Atom-F.StringText t) = literal t (typed ty.String (step.StringText t.text ∷ []))
one_atom (Atom-F.True t) = literal t (typed ty.Bool (step.Truth true ∷ []))
one_atom (Atom-F.False t) = literal t (typed ty.Bool (step.Truth false ∷ []))
one_atom (Atom-F.Name t) = record { first = t; front = λ s. Name t }
one_atom (Atom-F.SelfValue t) = opening_with t (λ s. self_value s t)
one_atom (Atom-F.Parentheses (opening, inner, closing)) = opening_with opening inner.check

abbrev pub one_part : PostfixPart-F Opening Part Phrase Argument (List Argument) Phrase Phrase Phrase Phrase Phrase Phrase → Part
one_part (PostfixPart-F.Member dot name) = Member name
one_part (PostfixPart-F.Call args) = Call args

abbrev pub one_and : And-F Opening Part Phrase Argument (List Argument) Phrase Phrase Phrase Phrase Phrase Phrase → Phrase
one_and x = chain x.first x.more

abbrev pub one_arg : Arg-F Opening Part Phrase Argument (List Argument) Phrase Phrase Phrase Phrase Phrase Phrase → Argument
one_arg x = record { label = label_of x.label; value = x.value }

abbrev pub one_args : Args-F Opening Part Phrase Argument (List Argument) Phrase Phrase Phrase Phrase Phrase Phrase → List Argument
one_args x = listed x.list

abbrev pub one_cmp : Cmp-F Opening Part Phrase Argument (List Argument) Phrase Phrase Phrase Phrase Phrase Phrase → Phrase
one_cmp x = chain x.left (compared x.right)

abbrev pub one_expr : Expr-F Opening Part Phrase Argument (List Argument) Phrase Phrase Phrase Phrase Phrase Phrase → Phrase
one_expr x = chain x.first x.more

abbrev pub one_postfix : Postfix-F Opening Part Phrase Argument (List Argument) Phrase Phrase Phrase Phrase Phrase Phrase → Phrase
one_postfix x = postfix x.atom x.parts

abbrev pub one_prefix : Prefix-F Opening Part Phrase Argument (List Argument) Phrase Phrase Phrase Phrase Phrase Phrase → Phrase
one_prefix x = prefixed x.operator x.postfix

abbrev pub one_product : Product-F Opening Part Phrase Argument (List Argument) Phrase Phrase Phrase Phrase Phrase Phrase → Phrase
one_product x = chain x.first (map (λ p. (product_operator_token p.0, p.1)) x.more)

abbrev pub one_sum : Sum-F Opening Part Phrase Argument (List Argument) Phrase Phrase Phrase Phrase Phrase Phrase → Phrase
one_sum x = chain x.first (map (λ p. (sum_operator_token p.0, p.1)) x.more)

-- ---- the trees

unfoldable pub atom_opening : Atom → Opening
atom_opening = fold-Atom Opening Part Phrase Argument (List Argument) Phrase Phrase Phrase Phrase Phrase Phrase one_atom one_part one_and one_arg one_args one_cmp one_expr one_postfix one_prefix one_product one_sum

unfoldable pub part_meant : PostfixPart → Part
part_meant = fold-PostfixPart Opening Part Phrase Argument (List Argument) Phrase Phrase Phrase Phrase Phrase Phrase one_atom one_part one_and one_arg one_args one_cmp one_expr one_postfix one_prefix one_product one_sum

unfoldable pub and_phrase : And → Phrase
and_phrase = fold-And Opening Part Phrase Argument (List Argument) Phrase Phrase Phrase Phrase Phrase Phrase one_atom one_part one_and one_arg one_args one_cmp one_expr one_postfix one_prefix one_product one_sum

unfoldable pub arg_meant : Arg → Argument
arg_meant = fold-Arg Opening Part Phrase Argument (List Argument) Phrase Phrase Phrase Phrase Phrase Phrase one_atom one_part one_and one_arg one_args one_cmp one_expr one_postfix one_prefix one_product one_sum

unfoldable pub args_meant : Args → List Argument
args_meant = fold-Args Opening Part Phrase Argument (List Argument) Phrase Phrase Phrase Phrase Phrase Phrase one_atom one_part one_and one_arg one_args one_cmp one_expr one_postfix one_prefix one_product one_sum

unfoldable pub cmp_phrase : Cmp → Phrase
cmp_phrase = fold-Cmp Opening Part Phrase Argument (List Argument) Phrase Phrase Phrase Phrase Phrase Phrase one_atom one_part one_and one_arg one_args one_cmp one_expr one_postfix one_prefix one_product one_sum

unfoldable pub expr_phrase : Expr → Phrase
expr_phrase = fold-Expr Opening Part Phrase Argument (List Argument) Phrase Phrase Phrase Phrase Phrase Phrase one_atom one_part one_and one_arg one_args one_cmp one_expr one_postfix one_prefix one_product one_sum

unfoldable pub postfix_phrase : Postfix → Phrase
postfix_phrase = fold-Postfix Opening Part Phrase Argument (List Argument) Phrase Phrase Phrase Phrase Phrase Phrase one_atom one_part one_and one_arg one_args one_cmp one_expr one_postfix one_prefix one_product one_sum

unfoldable pub prefix_phrase : Prefix → Phrase
prefix_phrase = fold-Prefix Opening Part Phrase Argument (List Argument) Phrase Phrase Phrase Phrase Phrase Phrase one_atom one_part one_and one_arg one_args one_cmp one_expr one_postfix one_prefix one_product one_sum

unfoldable pub product_phrase : Product → Phrase
product_phrase = fold-Product Opening Part Phrase Argument (List Argument) Phrase Phrase Phrase Phrase Phrase Phrase one_atom one_part one_and one_arg one_args one_cmp one_expr one_postfix one_prefix one_product one_sum

unfoldable pub sum_phrase : Sum → Phrase
sum_phrase = fold-Sum Opening Part Phrase Argument (List Argument) Phrase Phrase Phrase Phrase Phrase Phrase one_atom one_part one_and one_arg one_args one_cmp one_expr one_postfix one_prefix one_product one_sum
