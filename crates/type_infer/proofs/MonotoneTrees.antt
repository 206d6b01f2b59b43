-- Checking any expression is monotone.
use Rattle.std.proofs.Common.{List, [], ◌∷◌, map, Option, Some, None}
use Rattle.std.specs.List.{AllByRecursion}
use Rattle.swift_ast.specs.Leaves.{Leaf}
use Rattle.swift_ast.specs.declared.expressions.Expr.{Expr}
use Rattle.checks.specs.Checks.{both, go_on}
use Rattle.expr_check.specs.declared.typed.Typed.{Typed}
use Rattle.expr_check.specs.declared.scope.Scope.{Scope}
use Rattle.expr_check.specs.Messages.{place_of}
use Rattle.expr_check.specs.Types.{CheckOf}
use Rattle.expr_check.specs.Expressions.{binary, call, member_named}
use Rattle.expr_check.specs.Phrases.{Phrase, Front, Value, Name, MemberOf, Opening, Argument, Part, Member, Call, chain, given, givens, as_value, as_callee, callee_name, extended, prefixed, expr_phrase}
use Rattle.type_infer.proofs.TreeInduction.{IsKept, each-expr}
use Rattle.type_infer.proofs.Monotonicity.{Monotone, AreMonotone, monotone-done, monotone-bind, monotone-both, monotone-all, monotone-grouped}
use Rattle.type_infer.proofs.MonotoneExpressions.{self-monotone, name-monotone, member-named-monotone, member-value-monotone, binary-monotone, unary-monotone, call-monotone, value-callee-monotone, callee-monotone, method-monotone}

abbrev MonotonePhrase : Scope → Phrase → Type 0
MonotonePhrase s p = Monotone (p.check s)

abbrev MonotoneFront : Front → Type 0
MonotoneFront (Value v) = Monotone v
MonotoneFront (Name t) = Unit {0}
MonotoneFront (MemberOf v m) = Monotone v

abbrev MonotoneOpening : Scope → Opening → Type 0
MonotoneOpening s o = MonotoneFront (o.front s)

abbrev MonotoneArgument : Scope → Argument → Type 0
MonotoneArgument s a = MonotonePhrase s a.value

abbrev MonotonePart : Scope → Part → Type 0
MonotonePart s (Member m) = Unit {0}
MonotonePart s (Call given) = AllByRecursion (MonotoneArgument s) given

operands-monotone : (s : Scope) (more : List (Leaf × Phrase)) → AllByRecursion (λ p. MonotonePhrase s p.1) more → AllByRecursion (λ (m : Leaf × CheckOf Typed). Monotone m.1) (map (λ (p : Leaf × Phrase). (p.0, p.1.check s)) more)
operands-monotone s [] h = tt
operands-monotone s (p ∷ more) h = (h.0, operands-monotone s more h.1)

chain-monotone : (s : Scope) (first : Phrase) (more : List (Leaf × Phrase)) → MonotonePhrase s first → AllByRecursion (λ p. MonotonePhrase s p.1) more → MonotonePhrase s (chain first more)
chain-monotone s first more h g = monotone-grouped binary (first.check s) _ binary-monotone h (operands-monotone s more g)

prefixed-monotone : (s : Scope) (o : Option Leaf) (operand : Phrase) → MonotonePhrase s operand → MonotonePhrase s (prefixed o operand)
prefixed-monotone s None operand h = h
prefixed-monotone s (Some t) operand h = monotone-bind (operand.check s) _ h (λ v. unary-monotone t v)

all-given : (s : Scope) (args : List Argument) → AllByRecursion (MonotoneArgument s) args → AreMonotone (map (given s) args)
all-given s [] h = tt
all-given s (a ∷ args) h = (monotone-bind (a.value.check s) _ h.0 (λ v. monotone-done _), all-given s args h.1)

as-value-monotone : (s : Scope) (first : Leaf) (f : Front) → MonotoneFront f → Monotone (as_value s first f)
as-value-monotone s first (Value v) h = h
as-value-monotone s first (Name t) h = name-monotone s t
as-value-monotone s first (MemberOf v m) h = monotone-bind v _ h (λ base. monotone-bind (member_named s base.ty m) _ (member-named-monotone s base.ty m) (λ f. member-value-monotone s (place_of first) m base f))

as-callee-monotone : (s : Scope) (first : Leaf) (f : Front) → MonotoneFront f → Monotone (as_callee s first f)
as-callee-monotone s first (Value v) h = value-callee-monotone v h
as-callee-monotone s first (Name t) h = callee-monotone s t
as-callee-monotone s first (MemberOf v m) h = method-monotone s (place_of first) m v h

extended-monotone : (s : Scope) (first : Leaf) (f : Front) (ps : List Part) → MonotoneFront f → AllByRecursion (MonotonePart s) ps → Monotone (extended s first f ps)
extended-monotone s first f [] h g = as-value-monotone s first f h
extended-monotone s first f (Member m ∷ ps) h g = extended-monotone s first (MemberOf (as_value s first f) m) ps (as-value-monotone s first f h) g.1
extended-monotone s first f (Call args ∷ ps) h g =
    extended-monotone s first (Value (go_on (both (as_callee s first f) (givens s args)) (call s (place_of first) (callee_name first f)))) ps
    (monotone-bind (both (as_callee s first f) (givens s args)) (call s (place_of first) (callee_name first f))
    (monotone-both (as_callee s first f) (givens s args) (as-callee-monotone s first f h) (monotone-all (map (given s) args) (all-given s args g.0))) (λ p. call-monotone s (place_of first) (callee_name first f) p)) g.1

-- What trees are made of is monotone where its parts are.
monotone-kept : (s : Scope) → IsKept (MonotonePhrase s) (MonotoneOpening s) (MonotonePart s) (MonotoneArgument s)
monotone-kept s = record {
  integers = λ t. monotone-done _;
  texts = λ t. monotone-done _;
  truths = λ t value. monotone-done _;
  names = λ t. tt;
  selves = λ t. self-monotone s t;
  groups = λ t inner h. h;
  members = λ t. tt;
  calls = λ given h. h;
  arguments = λ label value h. h;
  chains = λ first more h g. chain-monotone s first more h g;
  postfixes = λ atom parts h g. extended-monotone s atom.first (atom.front s) parts h g;
  prefixes = λ operator operand h. prefixed-monotone s operator operand h;
}

-- Checking an expression is monotone.
pub expr-monotone : (s : Scope) (e : Expr) → Monotone ((expr_phrase e).check s)
expr-monotone s e = each-expr (MonotonePhrase s) (MonotoneOpening s) (MonotonePart s) (MonotoneArgument s) (monotone-kept s) e
