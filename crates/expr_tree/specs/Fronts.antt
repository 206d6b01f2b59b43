-- What stands before a part of a postfix, and what is made of a whole one, as contracts see them.
use Rattle.std.specs.Prelude.{List, map}
use Rattle.swift_ast.specs.Leaves.{Leaf}
use Rattle.swift_ast.specs.declared.expressions.SumOperator.{SumOperator}
use Rattle.swift_ast.specs.declared.expressions.ProductOperator.{ProductOperator}
use Rattle.swift_ast.specs.declared.expressions.And.{And}
use Rattle.swift_ast.specs.declared.expressions.Cmp.{Cmp}
use Rattle.swift_ast.specs.declared.expressions.Product.{Product}
use Rattle.swift_ast.specs.declared.expressions.Prefix.{Prefix}
use Rattle.swift_ast.specs.declared.expressions.Arg.{Arg}
use Rattle.checks.specs.Checks.{◌>>=◌, both, found}
use Rattle.expr_check.specs.declared.typed.Typed.{Typed}
use Rattle.expr_check.specs.declared.scope.Scope.{Scope}
use Rattle.expr_check.specs.Messages.{place_of}
use Rattle.expr_check.specs.Types.{CheckOf}
use Rattle.expr_check.specs.Expressions.{call}
use Rattle.expr_check.specs.Phrases.{Phrase, Front, Value, Name, MemberOf, Argument, as_callee, callee_name, givens, sum_operator_token, product_operator_token, and_phrase, cmp_phrase, product_phrase, prefix_phrase, arg_meant}
use Rattle.expr_tree.specs.declared.front.Front as code
use Rattle.expr_tree.specs.declared.front.Front.TheVariants as is

-- the value of a front was made before
abbrev pub front_view : code.Front → Front
front_view (is.Value v) = Value (found v)
front_view (is.Name t) = Name t.now
front_view (is.MemberOf v m) = MemberOf (found v) m.now

-- the operands of chains
abbrev pub or_operands : List (Leaf × And) → List (Leaf × Phrase)
or_operands more = map (λ p. (p.0, and_phrase p.1)) more

abbrev pub and_operands : List (Leaf × Cmp) → List (Leaf × Phrase)
and_operands more = map (λ p. (p.0, cmp_phrase p.1)) more

abbrev pub sum_operands : List (SumOperator × Product) → List (Leaf × Phrase)
sum_operands more = map (λ (p : SumOperator × Phrase). (sum_operator_token p.0, p.1)) (map (λ (p : SumOperator × Product). (p.0, product_phrase p.1)) more)

abbrev pub product_operands : List (ProductOperator × Prefix) → List (Leaf × Phrase)
product_operands more = map (λ (p : ProductOperator × Phrase). (product_operator_token p.0, p.1)) (map (λ (p : ProductOperator × Prefix). (p.0, prefix_phrase p.1)) more)

abbrev pub checks_in : Scope → List (Leaf × Phrase) → List (Leaf × CheckOf Typed)
checks_in s operands = map (λ p. (p.0, p.1.check s)) operands

-- the arguments behind the first one
abbrev pub arguments_behind : List (Leaf × Arg) → List Argument
arguments_behind more = map (λ (a : Leaf × Argument). a.1) (map (λ (p : Leaf × Arg). (p.0, arg_meant p.1)) more)

-- A call: what is called, and its arguments also where that has an error.
abbrev pub call_check : Scope → Leaf → Front → List Argument → CheckOf Typed
call_check s first front args = both (as_callee s first front) (givens s args) >>= call s (place_of first) (callee_name first front)
