-- Look-ups, names, members and calls are monotone.
use Rattle.std.proofs.Common.{ℕ, List, [], ◌∷◌, Option, Some, None, refl}
use Rattle.std.specs.Prelude.{codes}
use Rattle.dep_key.specs.declared.key.Key.{Key}
use Rattle.dep_key.specs.KeyBuilders.{nominal}
use Rattle.dep_key.specs.declared.kind.Kind.{Kind}
use Rattle.dep_key.specs.declared.kind.Kind.TheVariants as kind
use Rattle.swift_ast.specs.Leaves.{Leaf}
use Rattle.type_rules.specs.Operators.{binary_type, unary_type}
use Rattle.type_rules.specs.Sameness.{same_type}
use Rattle.type_rules.specs.declared.ty.Ty.{Ty}
use Rattle.type_rules.specs.declared.ty.Ty.TheVariants as ty
use Rattle.type_rules.specs.declared.meaning.Meaning.{Meaning}
use Rattle.type_rules.specs.declared.meaning.Meaning.TheVariants as means
use Rattle.type_rules.specs.declared.meaning.Parameter.{Parameter}
use Rattle.typed_code.specs.declared.step.Step.{Step}
use Rattle.checks.specs.Checks.{sure, all}
use Rattle.expr_check.specs.declared.place.Place.{Place}
use Rattle.expr_check.specs.declared.typed.Typed.{Typed}
use Rattle.expr_check.specs.declared.named.Named.{Named}
use Rattle.expr_check.specs.declared.named.Named.TheVariants as named
use Rattle.expr_check.specs.declared.scope.Local.{Local}
use Rattle.expr_check.specs.declared.scope.Scope.{Scope}
use Rattle.expr_check.specs.Messages.{place_of}
use Rattle.expr_check.specs.Scopes.{local_named, same_text}
use Rattle.expr_check.specs.Types.{CheckOf, Found, top_keys, member_keys, usable, built_in_type, built_in_as, type_meant, type_found, type_named, laid_out_as, laid_out, valued}
use Rattle.expr_check.specs.Expressions.{converted, value_keys, by_kind, value_of, value_meant, is_print, value_found, named_beyond, name_of, value_by, self_in, self_value, property, local_value, name_value, name_check, member_there, member_named, member_value, binary_as, binary, unary_as, unary, Given, Callee, Takes, Prints, IsValue, same_labels, fitted, is_printed, printed, print_call, call, initializer_of, type_callee, function_callee, value_callee, callee_meant, callee_found, callee_beyond, callee_named, method_meant, method_named}
use Rattle.type_infer.proofs.Monotonicity.{Monotone, AreMonotone, monotone-done, monotone-bind, monotone-all, monotone-choice, monotone-fetch, monotone-look}

-- what can be used
usable-monotone : (t : Leaf) (m : Meaning) → Monotone (usable t m)
usable-monotone t means.NoProvider = monotone-done _
usable-monotone t means.Ambiguous = monotone-done _
usable-monotone t means.Broken = monotone-done _
usable-monotone t means.Circular = monotone-done _
usable-monotone t (means.Value mutable of) = monotone-done _
usable-monotone t (means.Function ps r) = monotone-done _
usable-monotone t (means.Struct c) = monotone-done _
usable-monotone t (means.Alias of) = monotone-done _
usable-monotone t (means.Fields fs w) = monotone-done _

-- Types.

built-in-monotone : (t : Leaf) (o : Option Ty) → Monotone (built_in_as t o)
built-in-monotone t None = monotone-done _
built-in-monotone t (Some of) = monotone-done _

type-meant-monotone : (t : Leaf) (m : Meaning) → Monotone (type_meant t m)
type-meant-monotone t (means.Struct c) = monotone-done _
type-meant-monotone t (means.Alias of) = monotone-done _
type-meant-monotone t means.NoProvider = monotone-done _
type-meant-monotone t means.Ambiguous = monotone-done _
type-meant-monotone t means.Broken = monotone-done _
type-meant-monotone t means.Circular = monotone-done _
type-meant-monotone t (means.Value mutable of) = monotone-done _
type-meant-monotone t (means.Function ps r) = monotone-done _
type-meant-monotone t (means.Fields fs w) = monotone-done _

type-found-monotone : (t : Leaf) (o : Option Found) → Monotone (type_found t o)
type-found-monotone t None = built-in-monotone t (built_in_type t.text)
type-found-monotone t (Some f) = monotone-bind (usable t f.1) _ (usable-monotone t f.1) (λ m. type-meant-monotone t m)

-- the type that a name means
pub type-monotone : (path : List ℕ) (t : Leaf) → Monotone (type_named path t)
type-monotone path t = monotone-look (top_keys path t.text) (type_found t) (λ o. type-found-monotone t o) (λ k. refl)

-- Layouts.

laid-out-as-monotone : (t : Place) (c : List ℕ) (m : Meaning) → Monotone (laid_out_as t c m)
laid-out-as-monotone t c means.Broken = monotone-done _
laid-out-as-monotone t c means.Circular = monotone-done _
laid-out-as-monotone t c means.NoProvider = monotone-done _
laid-out-as-monotone t c means.Ambiguous = monotone-done _
laid-out-as-monotone t c (means.Value mutable of) = monotone-done _
laid-out-as-monotone t c (means.Function ps r) = monotone-done _
laid-out-as-monotone t c (means.Struct d) = monotone-done _
laid-out-as-monotone t c (means.Alias of) = monotone-done _
laid-out-as-monotone t c (means.Fields fs w) = monotone-done _

laid-out-monotone : (t : Place) (of : Ty) → Monotone (laid_out t of)
laid-out-monotone t (ty.Struct c) = monotone-fetch (nominal c) (λ m. laid_out_as t c m) (λ m. laid-out-as-monotone t c m) refl
laid-out-monotone t ty.Int = monotone-done _
laid-out-monotone t ty.String = monotone-done _
laid-out-monotone t ty.Bool = monotone-done _
laid-out-monotone t ty.Void = monotone-done _

valued-monotone : (s : Scope) (t : Place) (of : Ty) → Monotone (valued s t of)
valued-monotone s t of = monotone-choice s.emits (laid_out t of) (sure of) (laid-out-monotone t of) (monotone-done _)

-- Names.

by-kind-monotone : {X : Type 0} (k : Kind) (c d : CheckOf X) → Monotone c → Monotone d → Monotone (by_kind k c d)
by-kind-monotone kind.Member c d s r = s
by-kind-monotone kind.TopLevel c d s r = r
by-kind-monotone kind.Nominal c d s r = r
by-kind-monotone kind.PotentialMember c d s r = r
by-kind-monotone kind.DynamicLookup c d s r = r
by-kind-monotone kind.ExternalDepend c d s r = r
by-kind-monotone kind.SourceFileProvide c d s r = r

value-meant-monotone : (t : Leaf) (key : Key) (m : Meaning) → Monotone (value_meant t key m)
value-meant-monotone t key (means.Value mutable of) = monotone-done _
value-meant-monotone t key means.NoProvider = monotone-done _
value-meant-monotone t key means.Ambiguous = monotone-done _
value-meant-monotone t key means.Broken = monotone-done _
value-meant-monotone t key means.Circular = monotone-done _
value-meant-monotone t key (means.Function ps r) = monotone-done _
value-meant-monotone t key (means.Struct c) = monotone-done _
value-meant-monotone t key (means.Alias of) = monotone-done _
value-meant-monotone t key (means.Fields fs w) = monotone-done _

value-found-monotone : (t : Leaf) (o : Option Found) → Monotone (value_found t o)
value-found-monotone t None = monotone-choice (is_print t) _ _ (monotone-done _) (monotone-done _)
value-found-monotone t (Some f) = monotone-bind (usable t f.1) _ (usable-monotone t f.1) (λ m. value-meant-monotone t f.0 m)

beyond-monotone : (s : Scope) (t : Leaf) (o : Option Local) → Monotone (named_beyond s t o)
beyond-monotone s t (Some l) = monotone-done _
beyond-monotone s t None = monotone-look (value_keys s t.text) (value_found t) (λ o. value-found-monotone t o) (λ k. refl)

name-of-monotone : (s : Scope) (t : Leaf) → Monotone (name_of s t)
name-of-monotone s t = beyond-monotone s t (local_named s.blocks t.text)

value-by-monotone : (s : Scope) (at : Place) (of : Ty) (made : Ty → Step) → Monotone (value_by s at of made)
value-by-monotone s at of made = monotone-bind (valued s at of) _ (valued-monotone s at of) (λ u. monotone-done _)

self-in-monotone : (s : Scope) (t : Leaf) (c : Option (List ℕ)) (of : Option Ty) → Monotone (self_in s t c of)
self-in-monotone s t None of = monotone-done _
self-in-monotone s t (Some c) None = monotone-done _
self-in-monotone s t (Some c) (Some of) = value-by-monotone s (place_of t) of _

pub self-monotone : (s : Scope) (t : Leaf) → Monotone (self_value s t)
self-monotone s t = self-in-monotone s t s.context s.self_type

property-monotone : (s : Scope) (first : Place) (base : Typed) (key : Key) (of : Ty) → Monotone (property s first base key of)
property-monotone s first base key of = monotone-bind (valued s first of) _ (valued-monotone s first of) (λ u. monotone-done _)

local-value-monotone : (s : Scope) (t : Leaf) (n : ℕ) (o : Option Ty) → Monotone (local_value s t n o)
local-value-monotone s t n None = monotone-done _
local-value-monotone s t n (Some of) = value-by-monotone s (place_of t) of _

name-value-monotone : (s : Scope) (t : Leaf) (n : Named) → Monotone (name_value s t n)
name-value-monotone s t (named.Local l) = local-value-monotone s t l.number l.ty
name-value-monotone s t (named.Global key mutable of) = value-by-monotone s (place_of t) of _
name-value-monotone s t (named.OfSelf key mutable of) = monotone-bind (self_value s t) _ (self-monotone s t) (λ base. property-monotone s (place_of t) base key of)

pub name-monotone : (s : Scope) (t : Leaf) → Monotone (name_check s t)
name-monotone s t = monotone-bind (name_of s t) _ (name-of-monotone s t) (λ n. name-value-monotone s t n)

-- Members.

member-there-monotone : (of : Ty) (m : Leaf) (o : Option Found) → Monotone (member_there of m o)
member-there-monotone of m None = monotone-done _
member-there-monotone of m (Some f) = monotone-bind (usable m f.1) _ (usable-monotone m f.1) (λ meaning. monotone-done _)

pub member-named-monotone : (s : Scope) (of : Ty) (m : Leaf) → Monotone (member_named s of m)
member-named-monotone s (ty.Struct c) m = monotone-look (member_keys s.path c m.text) (member_there (ty.Struct c) m) (λ o. member-there-monotone (ty.Struct c) m o) (λ k. refl)
member-named-monotone s ty.Int m = monotone-done _
member-named-monotone s ty.String m = monotone-done _
member-named-monotone s ty.Bool m = monotone-done _
member-named-monotone s ty.Void m = monotone-done _

pub member-value-monotone : (s : Scope) (first : Place) (m : Leaf) (base : Typed) (f : Found) → Monotone (member_value s first m base f)
member-value-monotone s first m base (key, means.Value mutable of) = property-monotone s first base key of
member-value-monotone s first m base (key, means.NoProvider) = monotone-done _
member-value-monotone s first m base (key, means.Ambiguous) = monotone-done _
member-value-monotone s first m base (key, means.Broken) = monotone-done _
member-value-monotone s first m base (key, means.Circular) = monotone-done _
member-value-monotone s first m base (key, means.Function ps r) = monotone-done _
member-value-monotone s first m base (key, means.Struct c) = monotone-done _
member-value-monotone s first m base (key, means.Alias of) = monotone-done _
member-value-monotone s first m base (key, means.Fields fs w) = monotone-done _

-- Operators.

binary-as-monotone : (t : Leaf) (left right : Typed) (o : Option Ty) → Monotone (binary_as t left right o)
binary-as-monotone t left right None = monotone-done _
binary-as-monotone t left right (Some of) = monotone-done _

pub binary-monotone : (t : Leaf) (p : Typed × Typed) → Monotone (binary t p)
binary-monotone t (left, right) = binary-as-monotone t left right (binary_type t.text left.ty right.ty)

unary-as-monotone : (t : Leaf) (v : Typed) (o : Option Ty) → Monotone (unary_as t v o)
unary-as-monotone t v None = monotone-done _
unary-as-monotone t v (Some of) = monotone-done _

pub unary-monotone : (t : Leaf) (v : Typed) → Monotone (unary t v)
unary-monotone t v = unary-as-monotone t v (unary_type t.text v.ty)

-- Calls.

converted-monotone : (first : Place) (wanted : Ty) (v : Typed) → Monotone (converted first wanted v)
converted-monotone first wanted v = monotone-choice (same_type v.ty wanted) (sure v) _ (monotone-done _) (monotone-done _)

fitted-monotone : (ps : List Parameter) (gs : List Given) → AreMonotone (fitted ps gs)
fitted-monotone (p ∷ ps) (g ∷ gs) = (converted-monotone g.first p.ty g.value, fitted-monotone ps gs)
fitted-monotone (p ∷ ps) [] = tt
fitted-monotone [] gs = tt

printed-monotone : (g : Given) → Monotone (printed g)
printed-monotone g = monotone-choice (is_printed g.value.ty) _ _ (monotone-done _) (monotone-done _)

print-call-monotone : (t : Leaf) (gs : List Given) → Monotone (print_call t gs)
print-call-monotone t [] = monotone-done _
print-call-monotone t (g ∷ h ∷ gs) = monotone-done _
print-call-monotone t (g ∷ []) = monotone-choice (same_text g.label (codes "_")) (printed g) _ (printed-monotone g) (monotone-done _)

pub call-monotone : (s : Scope) (first : Place) (name : Leaf) (p : Callee × List Given) → Monotone (call s first name p)
call-monotone s first name (IsValue of, gs) = monotone-done _
call-monotone s first name (Prints, gs) = print-call-monotone name gs
call-monotone s first name (Takes receiver symbol ps result, gs) =
    monotone-choice (same_labels ps gs) _ _
    (monotone-bind (all (fitted ps gs)) _ (monotone-all (fitted ps gs) (fitted-monotone ps gs)) (λ values. monotone-bind (valued s first result) _ (valued-monotone s first result) (λ of. monotone-done _)))
    (monotone-done _)

initializer-monotone : (t : Leaf) (c : List ℕ) (m : Meaning) → Monotone (initializer_of t c m)
initializer-monotone t c (means.Fields fs w) = monotone-done _
initializer-monotone t c means.Broken = monotone-done _
initializer-monotone t c means.Circular = monotone-done _
initializer-monotone t c means.NoProvider = monotone-done _
initializer-monotone t c means.Ambiguous = monotone-done _
initializer-monotone t c (means.Value mutable of) = monotone-done _
initializer-monotone t c (means.Function ps r) = monotone-done _
initializer-monotone t c (means.Struct d) = monotone-done _
initializer-monotone t c (means.Alias of) = monotone-done _

type-callee-monotone : (t : Leaf) (of : Ty) → Monotone (type_callee t of)
type-callee-monotone t (ty.Struct c) = monotone-fetch (nominal c) (λ m. initializer_of t c m) (λ m. initializer-monotone t c m) refl
type-callee-monotone t ty.Int = monotone-done _
type-callee-monotone t ty.String = monotone-done _
type-callee-monotone t ty.Bool = monotone-done _
type-callee-monotone t ty.Void = monotone-done _

function-callee-monotone : (s : Scope) (t : Leaf) (key : Key) (ps : List Parameter) (r : Ty) → Monotone (function_callee s t key ps r)
function-callee-monotone s t key ps r = by-kind-monotone key.kind _ _ (monotone-bind (self_value s t) _ (self-monotone s t) (λ base. monotone-done _)) (monotone-done _)

pub value-callee-monotone : (c : CheckOf Typed) → Monotone c → Monotone (value_callee c)
value-callee-monotone c h = monotone-bind c _ h (λ v. monotone-done _)

callee-meant-monotone : (s : Scope) (t : Leaf) (key : Key) (m : Meaning) → Monotone (callee_meant s t key m)
callee-meant-monotone s t key (means.Function ps r) = function-callee-monotone s t key ps r
callee-meant-monotone s t key (means.Struct c) = type-callee-monotone t (ty.Struct c)
callee-meant-monotone s t key (means.Alias of) = type-callee-monotone t of
callee-meant-monotone s t key (means.Value mutable of) = value-callee-monotone _ (name-value-monotone s t (value_of key mutable of))
callee-meant-monotone s t key means.NoProvider = monotone-done _
callee-meant-monotone s t key means.Ambiguous = monotone-done _
callee-meant-monotone s t key means.Broken = monotone-done _
callee-meant-monotone s t key means.Circular = monotone-done _
callee-meant-monotone s t key (means.Fields fs w) = monotone-done _

callee-found-monotone : (s : Scope) (t : Leaf) (o : Option Found) → Monotone (callee_found s t o)
callee-found-monotone s t None = monotone-choice (is_print t) (sure Prints) _ (monotone-done _) (monotone-done _)
callee-found-monotone s t (Some f) = monotone-bind (usable t f.1) _ (usable-monotone t f.1) (λ m. callee-meant-monotone s t f.0 m)

callee-beyond-monotone : (s : Scope) (t : Leaf) (o : Option Local) → Monotone (callee_beyond s t o)
callee-beyond-monotone s t (Some l) = value-callee-monotone _ (local-value-monotone s t l.number l.ty)
callee-beyond-monotone s t None = monotone-look (value_keys s t.text) (callee_found s t) (λ o. callee-found-monotone s t o) (λ k. refl)

pub callee-monotone : (s : Scope) (t : Leaf) → Monotone (callee_named s t)
callee-monotone s t = callee-beyond-monotone s t (local_named s.blocks t.text)

method-meant-monotone : (s : Scope) (first : Place) (base : Typed) (f : Found) → Monotone (method_meant s first base f)
method-meant-monotone s first base (key, means.Function ps r) = monotone-done _
method-meant-monotone s first base (key, means.Value mutable of) = value-callee-monotone _ (property-monotone s first base key of)
method-meant-monotone s first base (key, means.NoProvider) = monotone-done _
method-meant-monotone s first base (key, means.Ambiguous) = monotone-done _
method-meant-monotone s first base (key, means.Broken) = monotone-done _
method-meant-monotone s first base (key, means.Circular) = monotone-done _
method-meant-monotone s first base (key, means.Struct c) = monotone-done _
method-meant-monotone s first base (key, means.Alias of) = monotone-done _
method-meant-monotone s first base (key, means.Fields fs w) = monotone-done _

pub method-monotone : (s : Scope) (first : Place) (m : Leaf) (value : CheckOf Typed) → Monotone value → Monotone (method_named s first m value)
method-monotone s first m value h = monotone-bind value _ h (λ base. monotone-bind (member_named s base.ty m) _ (member-named-monotone s base.ty m) (λ f. method-meant-monotone s first base f))
