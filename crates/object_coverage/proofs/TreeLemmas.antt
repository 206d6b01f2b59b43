-- The structs in the code of any expression are laid out.
use Rattle.std.proofs.Common.{List, [], ◌∷◌, map, Option, Some, None}
use Rattle.std.specs.List.{AllByRecursion}
use Rattle.dep_key.specs.declared.key.Key.{Key}
use Rattle.type_rules.specs.declared.meaning.Meaning.{Meaning}
use Rattle.swift_ast.specs.Leaves.{Leaf}
use Rattle.swift_ast.specs.declared.expressions.Expr.{Expr}
use Rattle.swift_ast.specs.declared.expressions.Postfix.{Postfix}
use Rattle.checks.specs.Checks.{both, go_on}
use Rattle.expr_check.specs.declared.scope.Scope.{Scope}
use Rattle.expr_check.specs.declared.typed.Typed.{Typed}
use Rattle.expr_check.specs.Messages.{place_of}
use Rattle.expr_check.specs.Types.{CheckOf}
use Rattle.expr_check.specs.Expressions.{self_value, binary, call, member_named}
use Rattle.expr_check.specs.Phrases.{Phrase, Front, Value, Name, MemberOf, Opening, Argument, Part, Member, Call, chain, given, givens, as_value, as_callee, callee_name, extended, prefixed, expr_phrase, postfix_phrase}
use Rattle.type_infer.proofs.TreeInduction.{IsKept, each-expr, each-postfix}
use Rattle.object_coverage.proofs.Giving.{Gives, BothAre, gives-weaker, gives-bind, gives-both, gives-all, gives-grouped}
use Rattle.object_coverage.proofs.CodeLemmas.{LaidTyped, laid-integer, laid-string, laid-truth}
use Rattle.object_coverage.proofs.ExpressionLemmas.{IsLaidScope, LaidFound, LaidGiven, LaidCallee, LaidSelf, self-laid, name-laid, member-named-laid, member-value-laid, binary-laid, unary-laid, call-laid, value-callee-laid, callee-laid, method-laid}

module _ (m : Key → Meaning) (K : Key → Type 0) where
  -- In a scope, the structs in the code of a phrase are laid out.
  abbrev pub LaidPhrase : Scope → Phrase → Type 0
  LaidPhrase s p = Gives m K (LaidTyped K) (p.check s)

  abbrev LaidFront : Front → Type 0
  LaidFront (Value v) = Gives m K (LaidTyped K) v
  LaidFront (Name t) = Unit {0}
  LaidFront (MemberOf v t) = Gives m K (LaidTyped K) v

  abbrev LaidOpening : Scope → Opening → Type 0
  LaidOpening s o = LaidFront (o.front s)

  abbrev LaidArgument : Scope → Argument → Type 0
  LaidArgument s a = LaidPhrase s a.value

  abbrev LaidPart : Scope → Part → Type 0
  LaidPart s (Member t) = Unit {0}
  LaidPart s (Call args) = AllByRecursion (LaidArgument s) args

  operands-laid : (s : Scope) (more : List (Leaf × Phrase)) → AllByRecursion (λ p. LaidPhrase s p.1) more →
      AllByRecursion (λ (p : Leaf × CheckOf Typed). Gives m K (LaidTyped K) p.1) (map (λ (p : Leaf × Phrase). (p.0, p.1.check s)) more)
  operands-laid s [] h = tt
  operands-laid s (p ∷ more) h = (h.0, operands-laid s more h.1)

  chain-laid : (s : Scope) (first : Phrase) (more : List (Leaf × Phrase)) → LaidPhrase s first → AllByRecursion (λ p. LaidPhrase s p.1) more → LaidPhrase s (chain first more)
  chain-laid s first more h g = gives-grouped m K (LaidTyped K) (LaidTyped K) binary (first.check s) _ (λ t p l. binary-laid m K t p l) h (operands-laid s more g)

  prefixed-laid : (s : Scope) (o : Option Leaf) (operand : Phrase) → LaidPhrase s operand → LaidPhrase s (prefixed o operand)
  prefixed-laid s None operand h = h
  prefixed-laid s (Some t) operand h = gives-bind m K (LaidTyped K) (LaidTyped K) (operand.check s) _ h (λ v l. unary-laid m K t v l)

  all-given : (s : Scope) (args : List Argument) → AllByRecursion (LaidArgument s) args → AllByRecursion (λ c. Gives m K (LaidGiven m K) c) (map (given s) args)
  all-given s [] h = tt
  all-given s (a ∷ args) h = (gives-bind m K (LaidTyped K) (LaidGiven m K) (a.value.check s) _ h.0 (λ v l. l), all-given s args h.1)

  givens-laid : (s : Scope) (args : List Argument) → AllByRecursion (LaidArgument s) args → Gives m K (AllByRecursion (LaidGiven m K)) (givens s args)
  givens-laid s args h = gives-all m K (LaidGiven m K) (map (given s) args) (all-given s args h)

  as-value-laid : (s : Scope) (first : Leaf) (f : Front) → IsLaidScope K s → LaidFront f → Gives m K (LaidTyped K) (as_value s first f)
  as-value-laid s first (Value v) p h = h
  as-value-laid s first (Name t) p h = name-laid m K s t p
  as-value-laid s first (MemberOf v t) p h =
      gives-bind m K (LaidTyped K) (LaidTyped K) v _ h (λ base l. gives-bind m K (LaidFound m K) (LaidTyped K) (member_named s base.ty t) _ (member-named-laid m K s base.ty t l.0) (λ f k. member-value-laid m K s p (place_of first) t base f l k))

  as-callee-laid : (s : Scope) (first : Leaf) (f : Front) → IsLaidScope K s → LaidFront f → Gives m K (LaidCallee m K) (as_callee s first f)
  as-callee-laid s first (Value v) p h = value-callee-laid m K v
  as-callee-laid s first (Name t) p h = callee-laid m K s t p
  as-callee-laid s first (MemberOf v t) p h = method-laid m K s (place_of first) t v h

  extended-laid : (s : Scope) (first : Leaf) (f : Front) (ps : List Part) → IsLaidScope K s → LaidFront f → AllByRecursion (LaidPart s) ps → Gives m K (LaidTyped K) (extended s first f ps)
  extended-laid s first f [] p h g = as-value-laid s first f p h
  extended-laid s first f (Member t ∷ ps) p h g = extended-laid s first (MemberOf (as_value s first f) t) ps p (as-value-laid s first f p h) g.1
  extended-laid s first f (Call args ∷ ps) p h g =
      extended-laid s first (Value (go_on (both (as_callee s first f) (givens s args)) (call s (place_of first) (callee_name first f)))) ps p
      (gives-bind m K (BothAre (LaidCallee m K) (AllByRecursion (LaidGiven m K))) (LaidTyped K) (both (as_callee s first f) (givens s args)) (call s (place_of first) (callee_name first f))
      (gives-both m K (LaidCallee m K) (AllByRecursion (LaidGiven m K)) (as_callee s first f) (givens s args) (as-callee-laid s first f p h) (givens-laid s args g.0)) (λ q l. call-laid m K s p (place_of first) (callee_name first f) q l)) g.1

  self-typed : (s : Scope) (t : Leaf) → IsLaidScope K s → Gives m K (LaidTyped K) (self_value s t)
  self-typed s t p = gives-weaker m K (LaidSelf m K s.context) (LaidTyped K) (self_value s t) (λ v h. h.0) (self-laid m K s t p)

  -- What trees are made of is laid out where its parts are.
  kept : (s : Scope) → IsLaidScope K s → IsKept (LaidPhrase s) (LaidOpening s) (LaidPart s) (LaidArgument s)
  kept s p = record {
    integers = λ t. (tt, (laid-integer K t.text, tt));
    texts = λ t. (tt, (laid-string K t.text, tt));
    truths = λ t value. (tt, (laid-truth K value, tt));
    names = λ t. tt;
    selves = λ t. self-typed s t p;
    groups = λ t inner h. h;
    members = λ t. tt;
    calls = λ given h. h;
    arguments = λ label value h. h;
    chains = λ first more h g. chain-laid s first more h g;
    postfixes = λ atom parts h g. extended-laid s atom.first (atom.front s) parts p h g;
    prefixes = λ operator operand h. prefixed-laid s operator operand h;
  }

  pub expression-laid : (e : Expr) (s : Scope) → IsLaidScope K s → LaidPhrase s (expr_phrase e)
  expression-laid e s p = each-expr (LaidPhrase s) (LaidOpening s) (LaidPart s) (LaidArgument s) (kept s p) e

  pub postfix-laid : (x : Postfix) (s : Scope) → IsLaidScope K s → LaidPhrase s (postfix_phrase x)
  postfix-laid x s p = each-postfix (LaidPhrase s) (LaidOpening s) (LaidPart s) (LaidArgument s) (kept s p) x
