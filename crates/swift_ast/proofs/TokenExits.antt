-- What the functions owe that take one token of several terminals.
use Rattle.std.proofs.Common.{◌≡◌, true, List, [], ◌∷◌, refl, sym, subst}
use Rattle.grammar.specs.Forms.{nothing}
use Rattle.grammar.specs.Faults.{Stops, Parsed}
use Rattle.grammar.proofs.Basics.{single_taken}
use Rattle.swift_ast.specs.declared.terminals.Terminal.TheVariants as T
use Rattle.swift_ast.specs.declared.expressions.Atom.TheVariants as atom
use Rattle.swift_ast.specs.Leaves.{Leaf}
use Rattle.swift_ast.specs.Tests.{on, is, is_cmp_operator, is_sum_operator, is_product_operator, is_simple_atom, is_specifier, is_access}
use Rattle.swift_ast.specs.Expressions.{cmp_operator_form, sum_operator_form, product_operator_form, atom_form}
use Rattle.swift_ast.specs.Statements.{specifier_form}
use Rattle.swift_ast.specs.Declarations.{access_form}
use Rattle.swift_ast.proofs.TestFacts.{stops_none, stops_among}
use Rattle.swift_ast.proofs.ExpressionExits.{atom_integer, atom_string, atom_true, atom_false, atom_name, atom_self}
use Rattle.swift_ast.specs.declared.expressions.CmpOperator.TheVariants as cmp_operator
use Rattle.swift_ast.specs.declared.expressions.SumOperator.TheVariants as sum_operator
use Rattle.swift_ast.specs.declared.expressions.ProductOperator.TheVariants as product_operator
use Rattle.swift_ast.specs.declared.statements.BindingSpecifier.TheVariants as specifier
use Rattle.swift_ast.specs.declared.declarations.Access.TheVariants as access

-- ---- cmp_operator

pub cmp_operator_equal : (t : Leaf) (old new : List Leaf) → old ≡ t ∷ new → on (is T.Equal) t ≡ true → Parsed cmp_operator_form (cmp_operator.Equal t) nothing old new
cmp_operator_equal t old new e m = single_taken cmp_operator_form (cmp_operator.Equal t) t old new refl m e

pub cmp_operator_not_equal : (t : Leaf) (old new : List Leaf) → old ≡ t ∷ new → on (is T.NotEqual) t ≡ true → Parsed cmp_operator_form (cmp_operator.NotEqual t) nothing old new
cmp_operator_not_equal t old new e m = single_taken cmp_operator_form (cmp_operator.NotEqual t) t old new refl m e

pub cmp_operator_less : (t : Leaf) (old new : List Leaf) → old ≡ t ∷ new → on (is T.Less) t ≡ true → Parsed cmp_operator_form (cmp_operator.Less t) nothing old new
cmp_operator_less t old new e m = single_taken cmp_operator_form (cmp_operator.Less t) t old new refl m e

pub cmp_operator_less_or_equal : (t : Leaf) (old new : List Leaf) → old ≡ t ∷ new → on (is T.LessOrEqual) t ≡ true → Parsed cmp_operator_form (cmp_operator.LessOrEqual t) nothing old new
cmp_operator_less_or_equal t old new e m = single_taken cmp_operator_form (cmp_operator.LessOrEqual t) t old new refl m e

pub cmp_operator_greater : (t : Leaf) (old new : List Leaf) → old ≡ t ∷ new → on (is T.Greater) t ≡ true → Parsed cmp_operator_form (cmp_operator.Greater t) nothing old new
cmp_operator_greater t old new e m = single_taken cmp_operator_form (cmp_operator.Greater t) t old new refl m e

pub cmp_operator_greater_or_equal : (t : Leaf) (old new : List Leaf) → old ≡ t ∷ new → on (is T.GreaterOrEqual) t ≡ true → Parsed cmp_operator_form (cmp_operator.GreaterOrEqual t) nothing old new
cmp_operator_greater_or_equal t old new e m = single_taken cmp_operator_form (cmp_operator.GreaterOrEqual t) t old new refl m e

pub no_cmp_operator : (v : List Leaf) → Stops (on (is T.Equal)) v → Stops (on (is T.NotEqual)) v → Stops (on (is T.Less)) v → Stops (on (is T.LessOrEqual)) v → Stops (on (is T.Greater)) v → Stops (on (is T.GreaterOrEqual)) v → Stops (on is_cmp_operator) v
no_cmp_operator v a b c d e f = stops_among T.Equal (T.NotEqual ∷ T.Less ∷ T.LessOrEqual ∷ T.Greater ∷ T.GreaterOrEqual ∷ []) v a (stops_among T.NotEqual (T.Less ∷ T.LessOrEqual ∷ T.Greater ∷ T.GreaterOrEqual ∷ []) v b (stops_among T.Less (T.LessOrEqual ∷ T.Greater ∷ T.GreaterOrEqual ∷ []) v c (stops_among T.LessOrEqual (T.Greater ∷ T.GreaterOrEqual ∷ []) v d (stops_among T.Greater (T.GreaterOrEqual ∷ []) v e (stops_among T.GreaterOrEqual [] v f (stops_none v))))))

-- ---- sum_operator

pub sum_operator_plus : (t : Leaf) (old new : List Leaf) → old ≡ t ∷ new → on (is T.Plus) t ≡ true → Parsed sum_operator_form (sum_operator.Plus t) nothing old new
sum_operator_plus t old new e m = single_taken sum_operator_form (sum_operator.Plus t) t old new refl m e

pub sum_operator_minus : (t : Leaf) (old new : List Leaf) → old ≡ t ∷ new → on (is T.Minus) t ≡ true → Parsed sum_operator_form (sum_operator.Minus t) nothing old new
sum_operator_minus t old new e m = single_taken sum_operator_form (sum_operator.Minus t) t old new refl m e

pub no_sum_operator : (v : List Leaf) → Stops (on (is T.Plus)) v → Stops (on (is T.Minus)) v → Stops (on is_sum_operator) v
no_sum_operator v a b = stops_among T.Plus (T.Minus ∷ []) v a (stops_among T.Minus [] v b (stops_none v))

-- ---- product_operator

pub product_operator_times : (t : Leaf) (old new : List Leaf) → old ≡ t ∷ new → on (is T.Times) t ≡ true → Parsed product_operator_form (product_operator.Times t) nothing old new
product_operator_times t old new e m = single_taken product_operator_form (product_operator.Times t) t old new refl m e

pub product_operator_divide : (t : Leaf) (old new : List Leaf) → old ≡ t ∷ new → on (is T.Divide) t ≡ true → Parsed product_operator_form (product_operator.Divide t) nothing old new
product_operator_divide t old new e m = single_taken product_operator_form (product_operator.Divide t) t old new refl m e

pub product_operator_remainder : (t : Leaf) (old new : List Leaf) → old ≡ t ∷ new → on (is T.Remainder) t ≡ true → Parsed product_operator_form (product_operator.Remainder t) nothing old new
product_operator_remainder t old new e m = single_taken product_operator_form (product_operator.Remainder t) t old new refl m e

pub no_product_operator : (v : List Leaf) → Stops (on (is T.Times)) v → Stops (on (is T.Divide)) v → Stops (on (is T.Remainder)) v → Stops (on is_product_operator) v
no_product_operator v a b c = stops_among T.Times (T.Divide ∷ T.Remainder ∷ []) v a (stops_among T.Divide (T.Remainder ∷ []) v b (stops_among T.Remainder [] v c (stops_none v)))

-- ---- specifier

pub specifier_let : (t : Leaf) (old new : List Leaf) → old ≡ t ∷ new → on (is T.Let) t ≡ true → Parsed specifier_form (specifier.Let t) nothing old new
specifier_let t old new e m = single_taken specifier_form (specifier.Let t) t old new refl m e

pub specifier_var : (t : Leaf) (old new : List Leaf) → old ≡ t ∷ new → on (is T.Var) t ≡ true → Parsed specifier_form (specifier.Var t) nothing old new
specifier_var t old new e m = single_taken specifier_form (specifier.Var t) t old new refl m e

pub no_specifier : (v : List Leaf) → Stops (on (is T.Let)) v → Stops (on (is T.Var)) v → Stops (on is_specifier) v
no_specifier v a b = stops_among T.Let (T.Var ∷ []) v a (stops_among T.Var [] v b (stops_none v))

-- ---- access

pub access_private : (t : Leaf) (old new : List Leaf) → old ≡ t ∷ new → on (is T.Private) t ≡ true → Parsed access_form (access.Private t) nothing old new
access_private t old new e m = single_taken access_form (access.Private t) t old new refl m e

pub access_fileprivate : (t : Leaf) (old new : List Leaf) → old ≡ t ∷ new → on (is T.Fileprivate) t ≡ true → Parsed access_form (access.Fileprivate t) nothing old new
access_fileprivate t old new e m = single_taken access_form (access.Fileprivate t) t old new refl m e

pub access_internal : (t : Leaf) (old new : List Leaf) → old ≡ t ∷ new → on (is T.Internal) t ≡ true → Parsed access_form (access.Internal t) nothing old new
access_internal t old new e m = single_taken access_form (access.Internal t) t old new refl m e

pub access_public : (t : Leaf) (old new : List Leaf) → old ≡ t ∷ new → on (is T.Public) t ≡ true → Parsed access_form (access.Public t) nothing old new
access_public t old new e m = single_taken access_form (access.Public t) t old new refl m e

pub no_access : (v : List Leaf) → Stops (on (is T.Private)) v → Stops (on (is T.Fileprivate)) v → Stops (on (is T.Internal)) v → Stops (on (is T.Public)) v → Stops (on is_access) v
no_access v a b c d = stops_among T.Private (T.Fileprivate ∷ T.Internal ∷ T.Public ∷ []) v a (stops_among T.Fileprivate (T.Internal ∷ T.Public ∷ []) v b (stops_among T.Internal (T.Public ∷ []) v c (stops_among T.Public [] v d (stops_none v))))

-- ---- atoms of one token

pub simple_integer : (t : Leaf) (old new : List Leaf) → old ≡ t ∷ new → on (is T.Integer) t ≡ true → Parsed atom_form (atom.Integer t) nothing old new
simple_integer t old new e m = subst (λ ts. Parsed atom_form (atom.Integer t) nothing ts new) (sym e) (atom_integer t new m)

pub simple_string : (t : Leaf) (old new : List Leaf) → old ≡ t ∷ new → on (is T.StringText) t ≡ true → Parsed atom_form (atom.StringText t) nothing old new
simple_string t old new e m = subst (λ ts. Parsed atom_form (atom.StringText t) nothing ts new) (sym e) (atom_string t new m)

pub simple_true : (t : Leaf) (old new : List Leaf) → old ≡ t ∷ new → on (is T.True) t ≡ true → Parsed atom_form (atom.True t) nothing old new
simple_true t old new e m = subst (λ ts. Parsed atom_form (atom.True t) nothing ts new) (sym e) (atom_true t new m)

pub simple_false : (t : Leaf) (old new : List Leaf) → old ≡ t ∷ new → on (is T.False) t ≡ true → Parsed atom_form (atom.False t) nothing old new
simple_false t old new e m = subst (λ ts. Parsed atom_form (atom.False t) nothing ts new) (sym e) (atom_false t new m)

pub simple_name : (t : Leaf) (old new : List Leaf) → old ≡ t ∷ new → on (is T.Identifier) t ≡ true → Parsed atom_form (atom.Name t) nothing old new
simple_name t old new e m = subst (λ ts. Parsed atom_form (atom.Name t) nothing ts new) (sym e) (atom_name t new m)

pub simple_self : (t : Leaf) (old new : List Leaf) → old ≡ t ∷ new → on (is T.SelfValue) t ≡ true → Parsed atom_form (atom.SelfValue t) nothing old new
simple_self t old new e m = subst (λ ts. Parsed atom_form (atom.SelfValue t) nothing ts new) (sym e) (atom_self t new m)

pub no_simple_atom : (v : List Leaf) → Stops (on (is T.Integer)) v → Stops (on (is T.StringText)) v → Stops (on (is T.True)) v → Stops (on (is T.False)) v → Stops (on (is T.Identifier)) v → Stops (on (is T.SelfValue)) v → Stops (on is_simple_atom) v
no_simple_atom v a b c d e f = stops_among T.Integer (T.StringText ∷ T.True ∷ T.False ∷ T.Identifier ∷ T.SelfValue ∷ []) v a (stops_among T.StringText (T.True ∷ T.False ∷ T.Identifier ∷ T.SelfValue ∷ []) v b (stops_among T.True (T.False ∷ T.Identifier ∷ T.SelfValue ∷ []) v c (stops_among T.False (T.Identifier ∷ T.SelfValue ∷ []) v d (stops_among T.Identifier (T.SelfValue ∷ []) v e (stops_among T.SelfValue [] v f (stops_none v))))))
