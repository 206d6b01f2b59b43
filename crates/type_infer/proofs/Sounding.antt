-- Look-ups, names, members and calls ask only what look-ups ask, and give plain types.
use Rattle.std.proofs.Common.{◌≡◌, ℕ, Bool, true, false, List, [], ◌∷◌, Option, Some, None, refl}
use Rattle.std.specs.Prelude.{codes, if◌then◌else◌}
use Rattle.std.specs.List.{AllByRecursion}
use Rattle.dep_key.specs.declared.key.Key.{Key}
use Rattle.dep_key.specs.declared.kind.Kind.{Kind}
use Rattle.dep_key.specs.declared.kind.Kind.TheVariants as kind
use Rattle.swift_ast.specs.Leaves.{Leaf}
use Rattle.type_rules.specs.Operators.{Row, result_in, is_about, binary_rows, unary_rows, binary_type, unary_type}
use Rattle.type_rules.specs.Sameness.{same_type}
use Rattle.type_rules.specs.declared.ty.Ty.{Ty}
use Rattle.type_rules.specs.declared.ty.Ty.TheVariants as ty
use Rattle.type_rules.specs.declared.meaning.Meaning.{Meaning}
use Rattle.type_rules.specs.declared.meaning.Meaning.TheVariants as means
use Rattle.type_rules.specs.declared.meaning.Parameter.{Parameter}
use Rattle.typed_code.specs.declared.step.Step.{Step}
use Rattle.checks.specs.Checks.{sure}
use Rattle.expr_check.specs.declared.place.Place.{Place}
use Rattle.expr_check.specs.declared.typed.Typed.{Typed}
use Rattle.expr_check.specs.declared.named.Named.{Named}
use Rattle.expr_check.specs.declared.named.Named.TheVariants as named
use Rattle.expr_check.specs.declared.scope.Local.{Local}
use Rattle.expr_check.specs.declared.scope.Scope.{Scope}
use Rattle.expr_check.specs.Messages.{place_of}
use Rattle.expr_check.specs.Scopes.{local_named, named_in, or_else, same_text}
use Rattle.expr_check.specs.Types.{CheckOf, Found, provided, look_up, top_keys, member_keys, usable, built_in_type, built_in_as, type_meant, type_found, type_named, laid_out_as, laid_out, valued}
use Rattle.expr_check.specs.Expressions.{converted, keys_in, value_keys, by_kind, value_meant, is_print, value_found, named_beyond, name_of, value_by, self_in, self_value, property, local_value, name_value, name_check, member_there, member_named, member_value, binary_as, binary, unary_as, unary, Given, Callee, Takes, Prints, IsValue, same_labels, fitted, is_printed, printed, print_call, call, initializer_of, type_callee, function_callee, value_callee, callee_meant, callee_found, callee_beyond, callee_named, method_meant, method_named}
use Rattle.type_infer.specs.Plain.{is_context, IsPlain, IsPlainType}
use Rattle.type_infer.specs.Sound.{is_asked_kind, Anything, IfThere, OfValue, SoundCheck, PlainTyped, IsPlainScope}
use Rattle.type_infer.proofs.Combining.{sound-bind, sound-all, sound-choice, AreSound}

-- a key that was found, with a plain meaning
abbrev pub PlainFound : Found → Type 0
PlainFound f = IsPlain f.1

abbrev AreAsked : List Key → Type 0
AreAsked ks = AllByRecursion (λ k. is_asked_kind k.kind ≡ true) ks

provided-sound : (key : Key) (m : Meaning) (others : CheckOf (Option Found)) → IsPlain m → SoundCheck (IfThere PlainFound) others → SoundCheck (IfThere PlainFound) (provided key m others)
provided-sound key means.NoProvider others h s = s
provided-sound key means.Ambiguous others h s = h
provided-sound key means.Broken others h s = h
provided-sound key means.Circular others h s = h
provided-sound key (means.Value mutable of) others h s = h
provided-sound key (means.Function ps r) others h s = h
provided-sound key (means.Struct c) others h s = h
provided-sound key (means.Alias of) others h s = h
provided-sound key (means.Fields fs w) others h s = h

look-sound : (ks : List Key) → AreAsked ks → SoundCheck (IfThere PlainFound) (look_up ks)
unfolding look_up
look-sound [] h = tt
look-sound (k ∷ ks) h = (h.0, λ a p. provided-sound k a (look_up ks) p (look-sound ks h.1))

-- what can be used is plain
usable-sound : (t : Leaf) (m : Meaning) → IsPlain m → SoundCheck IsPlain (usable t m)
usable-sound t means.NoProvider h = h
usable-sound t means.Ambiguous h = tt
usable-sound t means.Broken h = tt
usable-sound t means.Circular h = tt
usable-sound t (means.Value mutable of) h = h
usable-sound t (means.Function ps r) h = h
usable-sound t (means.Struct c) h = h
usable-sound t (means.Alias of) h = h
usable-sound t (means.Fields fs w) h = h

-- Types.

choose-plain : (b : Bool) (x y : Option Ty) → IfThere IsPlainType x → IfThere IsPlainType y → IfThere IsPlainType (if b then x else y)
choose-plain true x y h g = h
choose-plain false x y h g = g

built-in-plain : (name : List ℕ) → IfThere IsPlainType (built_in_type name)
built-in-plain name =
    choose-plain (same_text name (codes "Int")) _ _ tt (choose-plain (same_text name (codes "String")) _ _ tt
    (choose-plain (same_text name (codes "Bool")) _ _ tt (choose-plain (same_text name (codes "Void")) (Some ty.Void) None tt tt)))

built-in-as-sound : (t : Leaf) (o : Option Ty) → IfThere IsPlainType o → SoundCheck IsPlainType (built_in_as t o)
built-in-as-sound t None h = tt
built-in-as-sound t (Some of) h = h

type-meant-sound : (t : Leaf) (m : Meaning) → IsPlain m → SoundCheck IsPlainType (type_meant t m)
type-meant-sound t (means.Struct c) h = h
type-meant-sound t (means.Alias of) h = h
type-meant-sound t means.NoProvider h = tt
type-meant-sound t means.Ambiguous h = tt
type-meant-sound t means.Broken h = tt
type-meant-sound t means.Circular h = tt
type-meant-sound t (means.Value mutable of) h = tt
type-meant-sound t (means.Function ps r) h = tt
type-meant-sound t (means.Fields fs w) h = tt

type-found-sound : (t : Leaf) (o : Option Found) → IfThere PlainFound o → SoundCheck IsPlainType (type_found t o)
type-found-sound t None h = built-in-as-sound t (built_in_type t.text) (built-in-plain t.text)
type-found-sound t (Some f) h = sound-bind IsPlain IsPlainType (usable t f.1) _ (usable-sound t f.1 h) (λ m p. type-meant-sound t m p)

-- The type that a name means asks what look-ups ask, and is plain.
pub type-sound : (path : List ℕ) (t : Leaf) → SoundCheck IsPlainType (type_named path t)
type-sound path t = sound-bind (IfThere PlainFound) IsPlainType (look_up (top_keys path t.text)) _ (look-sound (top_keys path t.text) (refl, (refl, tt))) (λ o h. type-found-sound t o h)

-- Layouts.

laid-out-as-sound : (t : Place) (c : List ℕ) (m : Meaning) → is_context c ≡ true → SoundCheck IsPlainType (laid_out_as t c m)
laid-out-as-sound t c means.Broken h = tt
laid-out-as-sound t c means.Circular h = tt
laid-out-as-sound t c means.NoProvider h = h
laid-out-as-sound t c means.Ambiguous h = h
laid-out-as-sound t c (means.Value mutable of) h = h
laid-out-as-sound t c (means.Function ps r) h = h
laid-out-as-sound t c (means.Struct d) h = h
laid-out-as-sound t c (means.Alias of) h = h
laid-out-as-sound t c (means.Fields fs w) h = h

pub laid-out-sound : (t : Place) (of : Ty) → IsPlainType of → SoundCheck IsPlainType (laid_out t of)
laid-out-sound t (ty.Struct c) h = (refl, λ m p. laid-out-as-sound t c m h)
laid-out-sound t ty.Int h = tt
laid-out-sound t ty.String h = tt
laid-out-sound t ty.Bool h = tt
laid-out-sound t ty.Void h = tt

pub valued-sound : (s : Scope) (t : Place) (of : Ty) → IsPlainType of → SoundCheck IsPlainType (valued s t of)
valued-sound s t of h = sound-choice (OfValue IsPlainType) s.emits (laid_out t of) (sure of) (laid-out-sound t of h) h

-- Names.

abbrev pub PlainNamed : Named → Type 0
PlainNamed (named.Local l) = IfThere IsPlainType l.ty
PlainNamed (named.Global key mutable of) = IsPlainType of
PlainNamed (named.OfSelf key mutable of) = IsPlainType of

chosen : {X : Type 0} (P : X → Type 0) (k : Kind) (x y : X) → P x → P y → P (by_kind k x y)
chosen P kind.Member x y h g = h
chosen P kind.TopLevel x y h g = g
chosen P kind.Nominal x y h g = g
chosen P kind.PotentialMember x y h g = g
chosen P kind.DynamicLookup x y h g = g
chosen P kind.ExternalDepend x y h g = g
chosen P kind.SourceFileProvide x y h g = g

keys-asked : (c : Option (List ℕ)) (path name : List ℕ) → AreAsked (keys_in c path name)
keys-asked None path name = (refl, (refl, tt))
keys-asked (Some c) path name = (refl, (refl, (refl, (refl, tt))))

value-keys-asked : (s : Scope) (name : List ℕ) → AreAsked (value_keys s name)
value-keys-asked s name = keys-asked s.context s.path name

value-meant-sound : (t : Leaf) (key : Key) (m : Meaning) → IsPlain m → SoundCheck PlainNamed (value_meant t key m)
value-meant-sound t key (means.Value mutable of) h = chosen PlainNamed key.kind (named.OfSelf key mutable of) (named.Global key mutable of) h h
value-meant-sound t key means.NoProvider h = tt
value-meant-sound t key means.Ambiguous h = tt
value-meant-sound t key means.Broken h = tt
value-meant-sound t key means.Circular h = tt
value-meant-sound t key (means.Function ps r) h = tt
value-meant-sound t key (means.Struct c) h = tt
value-meant-sound t key (means.Alias of) h = tt
value-meant-sound t key (means.Fields fs w) h = tt

value-found-sound : (t : Leaf) (o : Option Found) → IfThere PlainFound o → SoundCheck PlainNamed (value_found t o)
value-found-sound t None h = sound-choice (OfValue PlainNamed) (is_print t) _ _ tt tt
value-found-sound t (Some f) h = sound-bind IsPlain PlainNamed (usable t f.1) _ (usable-sound t f.1 h) (λ m p. value-meant-sound t f.0 m p)

abbrev pub PlainLocal : Local → Type 0
PlainLocal l = IfThere IsPlainType l.ty

beyond-sound : (s : Scope) (t : Leaf) (o : Option Local) → IfThere PlainLocal o → SoundCheck PlainNamed (named_beyond s t o)
beyond-sound s t (Some l) h = h
beyond-sound s t None h = sound-bind (IfThere PlainFound) PlainNamed (look_up (value_keys s t.text)) _ (look-sound (value_keys s t.text) (value-keys-asked s t.text)) (λ o p. value-found-sound t o p)

named-plain : (ls : List Local) (name : List ℕ) → AllByRecursion PlainLocal ls → IfThere PlainLocal (named_in ls name)
named-plain [] name h = tt
named-plain (l ∷ ls) name h = elim (same_text l.name name) as (λ v. IfThere PlainLocal (if v then Some l else named_in ls name)) [ true ↦ h.0 | false ↦ named-plain ls name h.1 ]

else-plain : (o p : Option Local) → IfThere PlainLocal o → IfThere PlainLocal p → IfThere PlainLocal (or_else o p)
else-plain (Some l) p h g = h
else-plain None p h g = g

local-plain : (bs : List (List Local)) (name : List ℕ) → AllByRecursion (λ b. AllByRecursion PlainLocal b) bs → IfThere PlainLocal (local_named bs name)
local-plain [] name h = tt
local-plain (b ∷ bs) name h = else-plain (local_named bs name) (named_in b name) (local-plain bs name h.1) (named-plain b name h.0)

pub name-of-sound : (s : Scope) (t : Leaf) → IsPlainScope s → SoundCheck PlainNamed (name_of s t)
name-of-sound s t p = beyond-sound s t (local_named s.blocks t.text) (local-plain s.blocks t.text p.locals)

value-by-sound : (s : Scope) (at : Place) (of : Ty) (made : Ty → Step) → IsPlainType of → SoundCheck PlainTyped (value_by s at of made)
value-by-sound s at of made h = sound-bind IsPlainType PlainTyped (valued s at of) _ (valued-sound s at of h) (λ u p. p)

self-in-sound : (s : Scope) (t : Leaf) (c : Option (List ℕ)) (of : Option Ty) → IfThere IsPlainType of → SoundCheck PlainTyped (self_in s t c of)
self-in-sound s t None of h = tt
self-in-sound s t (Some c) None h = tt
self-in-sound s t (Some c) (Some of) h = value-by-sound s (place_of t) of _ h

pub self-sound : (s : Scope) (t : Leaf) → IsPlainScope s → SoundCheck PlainTyped (self_value s t)
self-sound s t p = self-in-sound s t s.context s.self_type p.self

property-sound : (s : Scope) (first : Place) (base : Typed) (key : Key) (of : Ty) → IsPlainType of → SoundCheck PlainTyped (property s first base key of)
property-sound s first base key of h = sound-bind IsPlainType PlainTyped (valued s first of) _ (valued-sound s first of h) (λ u p. p)

local-value-sound : (s : Scope) (t : Leaf) (n : ℕ) (o : Option Ty) → IfThere IsPlainType o → SoundCheck PlainTyped (local_value s t n o)
local-value-sound s t n None h = tt
local-value-sound s t n (Some of) h = value-by-sound s (place_of t) of _ h

pub name-value-sound : (s : Scope) (t : Leaf) (n : Named) → IsPlainScope s → PlainNamed n → SoundCheck PlainTyped (name_value s t n)
name-value-sound s t (named.Local l) p h = local-value-sound s t l.number l.ty h
name-value-sound s t (named.Global key mutable of) p h = value-by-sound s (place_of t) of _ h
name-value-sound s t (named.OfSelf key mutable of) p h = sound-bind PlainTyped PlainTyped (self_value s t) _ (self-sound s t p) (λ base _. property-sound s (place_of t) base key of h)

pub name-sound : (s : Scope) (t : Leaf) → IsPlainScope s → SoundCheck PlainTyped (name_check s t)
name-sound s t p = sound-bind PlainNamed PlainTyped (name_of s t) _ (name-of-sound s t p) (λ n h. name-value-sound s t n p h)

-- Members.

member-there-sound : (of : Ty) (m : Leaf) (o : Option Found) → IfThere PlainFound o → SoundCheck PlainFound (member_there of m o)
member-there-sound of m None h = tt
member-there-sound of m (Some f) h = sound-bind IsPlain PlainFound (usable m f.1) _ (usable-sound m f.1 h) (λ meaning p. p)

pub member-named-sound : (s : Scope) (of : Ty) (m : Leaf) → SoundCheck PlainFound (member_named s of m)
member-named-sound s (ty.Struct c) m =
    sound-bind (IfThere PlainFound) PlainFound (look_up (member_keys s.path c m.text)) _ (look-sound (member_keys s.path c m.text) (refl, (refl, tt))) (λ o p. member-there-sound (ty.Struct c) m o p)
member-named-sound s ty.Int m = tt
member-named-sound s ty.String m = tt
member-named-sound s ty.Bool m = tt
member-named-sound s ty.Void m = tt

pub member-value-sound : (s : Scope) (first : Place) (m : Leaf) (base : Typed) (f : Found) → PlainFound f → SoundCheck PlainTyped (member_value s first m base f)
member-value-sound s first m base (key, means.Value mutable of) h = property-sound s first base key of h
member-value-sound s first m base (key, means.NoProvider) h = tt
member-value-sound s first m base (key, means.Ambiguous) h = tt
member-value-sound s first m base (key, means.Broken) h = tt
member-value-sound s first m base (key, means.Circular) h = tt
member-value-sound s first m base (key, means.Function ps r) h = tt
member-value-sound s first m base (key, means.Struct c) h = tt
member-value-sound s first m base (key, means.Alias of) h = tt
member-value-sound s first m base (key, means.Fields fs w) h = tt

-- Operators.

rows-plain : (rows : List Row) (operator : List ℕ) (of : Ty) → AllByRecursion (λ r. IsPlainType r.result) rows → IfThere IsPlainType (result_in rows operator of)
rows-plain [] operator of h = tt
rows-plain (r ∷ rows) operator of h = elim (is_about operator of r) as (λ v. IfThere IsPlainType (if v then Some r.result else result_in rows operator of)) [ true ↦ h.0 | false ↦ rows-plain rows operator of h.1 ]

binary-rows : AllByRecursion (λ (r : Row). IsPlainType r.result) binary_rows
unfolding binary_rows
binary-rows = (tt, (tt, (tt, (tt, (tt, (tt, (tt, (tt, (tt, (tt, (tt, (tt, (tt, (tt, (tt, (tt, (tt, (tt, (tt, (tt, (tt, (tt, tt))))))))))))))))))))))

unary-rows : AllByRecursion (λ (r : Row). IsPlainType r.result) unary_rows
unfolding unary_rows
unary-rows = (tt, (tt, tt))

binary-plain : (operator : List ℕ) (left right : Ty) → IfThere IsPlainType (binary_type operator left right)
binary-plain operator left right =
    elim (same_type left right) as (λ v. IfThere IsPlainType (if v then result_in binary_rows operator left else None)) [ true ↦ rows-plain binary_rows operator left binary-rows | false ↦ tt ]

binary-as-sound : (t : Leaf) (left right : Typed) (o : Option Ty) → IfThere IsPlainType o → SoundCheck PlainTyped (binary_as t left right o)
binary-as-sound t left right None h = tt
binary-as-sound t left right (Some of) h = h

pub binary-sound : (t : Leaf) (p : Typed × Typed) → SoundCheck PlainTyped (binary t p)
binary-sound t (left, right) = binary-as-sound t left right (binary_type t.text left.ty right.ty) (binary-plain t.text left.ty right.ty)

unary-as-sound : (t : Leaf) (v : Typed) (o : Option Ty) → IfThere IsPlainType o → SoundCheck PlainTyped (unary_as t v o)
unary-as-sound t v None h = tt
unary-as-sound t v (Some of) h = h

pub unary-sound : (t : Leaf) (v : Typed) → SoundCheck PlainTyped (unary t v)
unary-sound t v = unary-as-sound t v (unary_type t.text v.ty) (rows-plain unary_rows t.text v.ty unary-rows)

-- Calls.

abbrev pub PlainGiven : Given → Type 0
PlainGiven g = PlainTyped g.value

-- what is called gives a plain type
abbrev pub PlainCallee : Callee → Type 0
PlainCallee (Takes receiver symbol params result) = IsPlainType result
PlainCallee Prints = Unit {0}
PlainCallee (IsValue of) = Unit {0}

pub converted-sound : (first : Place) (wanted : Ty) (v : Typed) → SoundCheck Anything (converted first wanted v)
converted-sound first wanted v = sound-choice (OfValue Anything) (same_type v.ty wanted) (sure v) _ tt tt

fitted-sound : (ps : List Parameter) (gs : List Given) → AreSound Anything (fitted ps gs)
unfolding AreSound
fitted-sound (p ∷ ps) (g ∷ gs) = (converted-sound g.first p.ty g.value, fitted-sound ps gs)
fitted-sound (p ∷ ps) [] = tt
fitted-sound [] gs = tt

printed-sound : (g : Given) → SoundCheck PlainTyped (printed g)
printed-sound g = sound-choice (OfValue PlainTyped) (is_printed g.value.ty) _ _ tt tt

print-call-sound : (t : Leaf) (gs : List Given) → SoundCheck PlainTyped (print_call t gs)
print-call-sound t [] = tt
print-call-sound t (g ∷ h ∷ gs) = tt
print-call-sound t (g ∷ []) = sound-choice (OfValue PlainTyped) (same_text g.label (codes "_")) (printed g) _ (printed-sound g) tt

pub call-sound : (s : Scope) (first : Place) (name : Leaf) (p : Callee × List Given) → PlainCallee p.0 → SoundCheck PlainTyped (call s first name p)
call-sound s first name (IsValue of, gs) h = tt
call-sound s first name (Prints, gs) h = print-call-sound name gs
call-sound s first name (Takes receiver symbol ps result, gs) h =
    sound-choice (OfValue PlainTyped) (same_labels ps gs) _ _
    (sound-bind (AllByRecursion Anything) PlainTyped _ _ (sound-all Anything (fitted ps gs) (fitted-sound ps gs)) (λ values _. sound-bind IsPlainType PlainTyped (valued s first result) _ (valued-sound s first result h) (λ of p. p))) tt

initializer-sound : (t : Leaf) (c : List ℕ) (m : Meaning) → is_context c ≡ true → SoundCheck PlainCallee (initializer_of t c m)
initializer-sound t c (means.Fields fs w) h = h
initializer-sound t c means.Broken h = tt
initializer-sound t c means.Circular h = tt
initializer-sound t c means.NoProvider h = tt
initializer-sound t c means.Ambiguous h = tt
initializer-sound t c (means.Value mutable of) h = tt
initializer-sound t c (means.Function ps r) h = tt
initializer-sound t c (means.Struct d) h = tt
initializer-sound t c (means.Alias of) h = tt

type-callee-sound : (t : Leaf) (of : Ty) → IsPlainType of → SoundCheck PlainCallee (type_callee t of)
type-callee-sound t (ty.Struct c) h = (refl, λ m p. initializer-sound t c m h)
type-callee-sound t ty.Int h = tt
type-callee-sound t ty.String h = tt
type-callee-sound t ty.Bool h = tt
type-callee-sound t ty.Void h = tt

function-callee-sound : (s : Scope) (t : Leaf) (key : Key) (ps : List Parameter) (r : Ty) → IsPlainScope s → IsPlainType r → SoundCheck PlainCallee (function_callee s t key ps r)
function-callee-sound s t key ps r p h = chosen (SoundCheck PlainCallee) key.kind _ _ (sound-bind PlainTyped PlainCallee (self_value s t) _ (self-sound s t p) (λ base _. h)) h

pub value-callee-sound : (c : CheckOf Typed) → SoundCheck PlainTyped c → SoundCheck PlainCallee (value_callee c)
value-callee-sound c h = sound-bind PlainTyped PlainCallee c _ h (λ v _. tt)

callee-meant-sound : (s : Scope) (t : Leaf) (key : Key) (m : Meaning) → IsPlainScope s → IsPlain m → SoundCheck PlainCallee (callee_meant s t key m)
callee-meant-sound s t key (means.Function ps r) p h = function-callee-sound s t key ps r p h.1
callee-meant-sound s t key (means.Struct c) p h = type-callee-sound t (ty.Struct c) h
callee-meant-sound s t key (means.Alias of) p h = type-callee-sound t of h
callee-meant-sound s t key (means.Value mutable of) p h = value-callee-sound _ (name-value-sound s t _ p (chosen PlainNamed key.kind (named.OfSelf key mutable of) (named.Global key mutable of) h h))
callee-meant-sound s t key means.NoProvider p h = tt
callee-meant-sound s t key means.Ambiguous p h = tt
callee-meant-sound s t key means.Broken p h = tt
callee-meant-sound s t key means.Circular p h = tt
callee-meant-sound s t key (means.Fields fs w) p h = tt

callee-found-sound : (s : Scope) (t : Leaf) (o : Option Found) → IsPlainScope s → IfThere PlainFound o → SoundCheck PlainCallee (callee_found s t o)
callee-found-sound s t None p h = sound-choice (OfValue PlainCallee) (is_print t) (sure Prints) _ tt tt
callee-found-sound s t (Some f) p h = sound-bind IsPlain PlainCallee (usable t f.1) _ (usable-sound t f.1 h) (λ m q. callee-meant-sound s t f.0 m p q)

callee-beyond-sound : (s : Scope) (t : Leaf) (o : Option Local) → IsPlainScope s → IfThere PlainLocal o → SoundCheck PlainCallee (callee_beyond s t o)
callee-beyond-sound s t (Some l) p h = value-callee-sound _ (local-value-sound s t l.number l.ty h)
callee-beyond-sound s t None p h = sound-bind (IfThere PlainFound) PlainCallee (look_up (value_keys s t.text)) _ (look-sound (value_keys s t.text) (value-keys-asked s t.text)) (λ o q. callee-found-sound s t o p q)

pub callee-sound : (s : Scope) (t : Leaf) → IsPlainScope s → SoundCheck PlainCallee (callee_named s t)
callee-sound s t p = callee-beyond-sound s t (local_named s.blocks t.text) p (local-plain s.blocks t.text p.locals)

method-meant-sound : (s : Scope) (first : Place) (base : Typed) (f : Found) → PlainFound f → SoundCheck PlainCallee (method_meant s first base f)
method-meant-sound s first base (key, means.Function ps r) h = h.1
method-meant-sound s first base (key, means.Value mutable of) h = value-callee-sound _ (property-sound s first base key of h)
method-meant-sound s first base (key, means.NoProvider) h = tt
method-meant-sound s first base (key, means.Ambiguous) h = tt
method-meant-sound s first base (key, means.Broken) h = tt
method-meant-sound s first base (key, means.Circular) h = tt
method-meant-sound s first base (key, means.Struct c) h = tt
method-meant-sound s first base (key, means.Alias of) h = tt
method-meant-sound s first base (key, means.Fields fs w) h = tt

pub method-sound : (s : Scope) (first : Place) (m : Leaf) (value : CheckOf Typed) → SoundCheck PlainTyped value → SoundCheck PlainCallee (method_named s first m value)
method-sound s first m value h = sound-bind PlainTyped PlainCallee value _ h (λ base _. sound-bind PlainFound PlainCallee (member_named s base.ty m) _ (member-named-sound s base.ty m) (λ f q. method-meant-sound s first base f q))
