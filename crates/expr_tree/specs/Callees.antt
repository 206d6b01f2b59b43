-- What is called and what it is given, as contracts see them.
use Rattle.std.specs.Prelude.{List, [], ◌∷◌, map, Option, Some, None}
use Rattle.std.specs.Global.{Vec}
use Rattle.expr_check.specs.declared.typed.Typed.{Typed}
use Rattle.swift_ast.specs.Leaves.{Leaf}
use Rattle.expr_check.specs.Message as is
use Rattle.expr_check.specs.Types.{CheckOf, wrong_name}
use Rattle.expr_check.specs.Expressions.{Callee, Takes, Prints, IsValue, Given, print_call}
use Rattle.expr_tree.specs.declared.callee.Callee as code
use Rattle.expr_tree.specs.declared.callee.Callee.TheVariants as called
use Rattle.expr_tree.specs.declared.given.Given as argument

abbrev pub callee_view : code.Callee → Callee
callee_view (called.Takes receiver symbol params result) = Takes receiver symbol params result
callee_view called.Prints = Prints
callee_view (called.IsValue of) = IsValue of

abbrev pub called_view : Option code.Callee → Option Callee
called_view None = None
called_view (Some c) = Some (callee_view c)

abbrev pub given_view : argument.Given → Given
given_view g = record { label = g.label; first = g.first; value = g.value }

abbrev pub argument_view : Option argument.Given → Option Given
argument_view None = None
argument_view (Some g) = Some (given_view g)

abbrev pub givens_view : List argument.Given → List Given
givens_view givens = map given_view givens

abbrev pub arguments_view : Option (Vec argument.Given) → Option (List Given)
arguments_view None = None
arguments_view (Some givens) = Some (givens_view givens.items)

abbrev pub values_view : Option (Vec Typed) → Option (List Typed)
values_view None = None
values_view (Some values) = Some values.items

-- the only argument
abbrev pub lone : List Given → Option Given
lone (g ∷ []) = Some g
lone _ = None

-- `print` of the only argument, if there is one
abbrev pub print_lone : Leaf → Option Given → CheckOf Typed
print_lone t None = wrong_name t (λ name. is.WrongArguments name)
print_lone t (Some g) = print_call t (g ∷ [])
