-- Checking any expression is sound.
use Rattle.std.proofs.Common.{List, [], ◌∷◌, map, Option, Some, None}
use Rattle.std.specs.List.{AllByRecursion}
use Rattle.swift_ast.specs.Leaves.{Leaf}
use Rattle.swift_ast.specs.declared.expressions.Postfix.{Postfix}
use Rattle.checks.specs.Checks.{both, go_on}
use Rattle.expr_check.specs.declared.typed.Typed.{Typed}
use Rattle.expr_check.specs.declared.scope.Scope.{Scope}
use Rattle.expr_check.specs.Messages.{place_of}
use Rattle.expr_check.specs.Types.{CheckOf}
use Rattle.expr_check.specs.Expressions.{binary, call}
use Rattle.expr_check.specs.Phrases.{Phrase, Front, Value, Name, MemberOf, Opening, Argument, Part, Member, Call, chain, given, givens, as_value, as_callee, callee_name, extended, prefixed, postfix_phrase}
use Rattle.type_infer.specs.Sound.{SoundCheck, PlainTyped, IsPlainScope, ExpressionsAskKeys}
use Rattle.type_infer.proofs.Combining.{sound-bind, sound-both, sound-all, sound-grouped, BothAre, AreSound}
use Rattle.type_infer.proofs.TreeInduction.{IsKept, each-expr, each-postfix}
use Rattle.type_infer.proofs.Sounding.{PlainGiven, PlainCallee, self-sound, name-sound, member-named-sound, member-value-sound, binary-sound, unary-sound, call-sound, value-callee-sound, callee-sound, method-sound}

abbrev SoundPhrase : Scope → Phrase → Type 0
SoundPhrase s p = SoundCheck PlainTyped (p.check s)

abbrev SoundFront : Front → Type 0
SoundFront (Value v) = SoundCheck PlainTyped v
SoundFront (Name t) = Unit {0}
SoundFront (MemberOf v m) = SoundCheck PlainTyped v

abbrev SoundOpening : Scope → Opening → Type 0
SoundOpening s o = SoundFront (o.front s)

abbrev SoundArgument : Scope → Argument → Type 0
SoundArgument s a = SoundPhrase s a.value

abbrev SoundArguments : Scope → List Argument → Type 0
SoundArguments s as_ = AllByRecursion (SoundArgument s) as_

abbrev SoundPart : Scope → Part → Type 0
SoundPart s (Member m) = Unit {0}
SoundPart s (Call as_) = SoundArguments s as_

abbrev SoundOperands : Scope → List (Leaf × Phrase) → Type 0
SoundOperands s ps = AllByRecursion (λ p. SoundPhrase s p.1) ps

operands-sound : (s : Scope) (more : List (Leaf × Phrase)) → SoundOperands s more → AllByRecursion (λ (m : Leaf × CheckOf Typed). SoundCheck PlainTyped m.1) (map (λ (p : Leaf × Phrase). (p.0, p.1.check s)) more)
operands-sound s [] h = tt
operands-sound s (p ∷ more) h = (h.0, operands-sound s more h.1)

chain-sound : (s : Scope) (first : Phrase) (more : List (Leaf × Phrase)) → SoundPhrase s first → SoundOperands s more → SoundPhrase s (chain first more)
chain-sound s first more h g = sound-grouped PlainTyped PlainTyped binary (first.check s) _ (λ t p _. binary-sound t p) h (operands-sound s more g)

prefixed-sound : (s : Scope) (o : Option Leaf) (operand : Phrase) → SoundPhrase s operand → SoundPhrase s (prefixed o operand)
prefixed-sound s None operand h = h
prefixed-sound s (Some t) operand h = sound-bind PlainTyped PlainTyped (operand.check s) _ h (λ v _. unary-sound t v)

given-sound : (s : Scope) (a : Argument) → SoundArgument s a → SoundCheck PlainGiven (given s a)
given-sound s a h = sound-bind PlainTyped PlainGiven (a.value.check s) _ h (λ v p. p)

all-given : (s : Scope) (as_ : List Argument) → SoundArguments s as_ → AreSound PlainGiven (map (given s) as_)
unfolding AreSound
all-given s [] h = tt
all-given s (a ∷ as_) h = (given-sound s a h.0, all-given s as_ h.1)

givens-sound : (s : Scope) (as_ : List Argument) → SoundArguments s as_ → SoundCheck (AllByRecursion PlainGiven) (givens s as_)
givens-sound s as_ h = sound-all PlainGiven (map (given s) as_) (all-given s as_ h)

as-value-sound : (s : Scope) (first : Leaf) (f : Front) → IsPlainScope s → SoundFront f → SoundCheck PlainTyped (as_value s first f)
as-value-sound s first (Value v) pl h = h
as-value-sound s first (Name t) pl h = name-sound s t pl
as-value-sound s first (MemberOf v m) pl h =
    sound-bind PlainTyped PlainTyped v _ h (λ base _. sound-bind _ PlainTyped _ _ (member-named-sound s base.ty m) (λ f p. member-value-sound s (place_of first) m base f p))

as-callee-sound : (s : Scope) (first : Leaf) (f : Front) → IsPlainScope s → SoundFront f → SoundCheck PlainCallee (as_callee s first f)
as-callee-sound s first (Value v) pl h = value-callee-sound v h
as-callee-sound s first (Name t) pl h = callee-sound s t pl
as-callee-sound s first (MemberOf v m) pl h = method-sound s (place_of first) m v h

extended-sound : (s : Scope) (first : Leaf) (f : Front) (ps : List Part) → IsPlainScope s → SoundFront f → AllByRecursion (SoundPart s) ps → SoundCheck PlainTyped (extended s first f ps)
extended-sound s first f [] pl h g = as-value-sound s first f pl h
extended-sound s first f (Member m ∷ ps) pl h g = extended-sound s first (MemberOf (as_value s first f) m) ps pl (as-value-sound s first f pl h) g.1
extended-sound s first f (Call as_ ∷ ps) pl h g =
    extended-sound s first (Value (go_on (both (as_callee s first f) (givens s as_)) (call s (place_of first) (callee_name first f)))) ps pl
    (sound-bind (BothAre PlainCallee (AllByRecursion PlainGiven)) PlainTyped (both (as_callee s first f) (givens s as_)) (call s (place_of first) (callee_name first f))
    (sound-both PlainCallee (AllByRecursion PlainGiven) (as_callee s first f) (givens s as_) (as-callee-sound s first f pl h) (givens-sound s as_ g.0)) (λ p q. call-sound s (place_of first) (callee_name first f) p q.0)) g.1

-- What trees are made of is sound where its parts are.
sound-kept : (s : Scope) → IsPlainScope s → IsKept (SoundPhrase s) (SoundOpening s) (SoundPart s) (SoundArgument s)
sound-kept s pl = record {
  integers = λ t. tt;
  texts = λ t. tt;
  truths = λ t value. tt;
  names = λ t. tt;
  selves = λ t. self-sound s t pl;
  groups = λ t inner h. h;
  members = λ t. tt;
  calls = λ given h. h;
  arguments = λ label value h. h;
  chains = λ first more h g. chain-sound s first more h g;
  postfixes = λ atom parts h g. extended-sound s atom.first (atom.front s) parts pl h g;
  prefixes = λ operator operand h. prefixed-sound s operator operand h;
}

-- Checking an expression asks what look-ups ask, and gives a plain type,
pub expressions-ask : ExpressionsAskKeys
expressions-ask e s pl = each-expr (SoundPhrase s) (SoundOpening s) (SoundPart s) (SoundArgument s) (sound-kept s pl) e

-- and so it is of what may be called.
pub postfix-sound : (s : Scope) → IsPlainScope s → (x : Postfix) → SoundCheck PlainTyped ((postfix_phrase x).check s)
postfix-sound s pl x = each-postfix (SoundPhrase s) (SoundOpening s) (SoundPart s) (SoundArgument s) (sound-kept s pl) x
