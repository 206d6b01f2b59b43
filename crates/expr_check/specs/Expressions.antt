-- How names, members, operators and calls are checked: the type of each, and its code for a stack machine.
use Rattle.std.specs.Prelude.{ℕ, Bool, true, false, List, [], ◌∷◌, ◌++◌, map, flat_map, codes, Option, Some, None, if◌then◌else◌}
use Rattle.std.specs.Cmp.Lexicographic.{pointwise}
use Rattle.queries.specs.Queries.{Fetch}
use Rattle.dep_key.specs.declared.key.Key.{Key}
use Rattle.dep_key.specs.declared.kind.Kind.{Kind}
use Rattle.dep_key.specs.declared.kind.Kind.TheVariants as kind
use Rattle.dep_key.specs.KeyBuilders.{nominal}
use Rattle.type_rules.specs.declared.ty.Ty.{Ty}
use Rattle.type_rules.specs.declared.ty.Ty.TheVariants as ty
use Rattle.type_rules.specs.declared.meaning.Meaning.{Meaning}
use Rattle.type_rules.specs.declared.meaning.Meaning.TheVariants as means
use Rattle.type_rules.specs.declared.meaning.Field.{Field}
use Rattle.type_rules.specs.declared.meaning.Parameter.{Parameter}
use Rattle.type_rules.specs.Sameness.{same_type}
use Rattle.type_rules.specs.Shown.{before_path}
use Rattle.type_rules.specs.Operators.{binary_type, unary_type}
use Rattle.swift_ast.specs.Leaves.{Leaf}
use Rattle.typed_code.specs.declared.step.Step.{Step}
use Rattle.typed_code.specs.declared.step.Step.TheVariants as step
use Rattle.typed_code.specs.declared.step.Operator.{Operator}
use Rattle.typed_code.specs.declared.step.Operator.TheVariants as operator
use Rattle.checks.specs.Checks.{sure, unsaid, ◌>>=◌, all}
use Rattle.expr_check.specs.declared.place.Place.{Place}
use Rattle.expr_check.specs.Message as is
use Rattle.expr_check.specs.declared.typed.Typed.{Typed}
use Rattle.expr_check.specs.declared.named.Named.{Named}
use Rattle.expr_check.specs.declared.named.Named.TheVariants as named
use Rattle.expr_check.specs.declared.scope.Local.{Local}
use Rattle.expr_check.specs.declared.scope.Scope.{Scope}
use Rattle.expr_check.specs.Messages.{place_of}
use Rattle.expr_check.specs.Scopes.{local_named, same_text}
use Rattle.expr_check.specs.Types.{CheckOf, wrong, wrong_name, Found, look_up, top_keys, member_keys, usable, valued}

abbrev pub typed : Ty → List Step → Typed
typed of code = record { ty = of; code = code }

-- A value where one of a type is wanted. The first token of its expression is named where it is of another type.
abbrev pub converted : Place → Ty → Typed → CheckOf Typed
converted first wanted v = if same_type v.ty wanted then sure v else wrong first (is.NoConversion v.ty wanted)

-- ---- names

-- the keys of a name that is no local
abbrev pub keys_in : Option (List ℕ) → List ℕ → List ℕ → List Key
keys_in None path name = top_keys path name
keys_in (Some context) path name = member_keys path context name ++ top_keys path name

abbrev pub value_keys : Scope → List ℕ → List Key
value_keys s name = keys_in s.context s.path name

-- one thing for a member, and another for what stands outside structs and extensions
abbrev pub by_kind : {X : Type 0} → Kind → X → X → X
by_kind kind.Member of_member other = of_member
by_kind _ of_member other = other

abbrev pub value_of : Key → Bool → Ty → Named
value_of key mutable of = by_kind key.kind (named.OfSelf key mutable of) (named.Global key mutable of)

abbrev pub value_meant : Leaf → Key → Meaning → CheckOf Named
value_meant t key (means.Value mutable of) = sure (value_of key mutable of)
value_meant t key _ = wrong_name t (λ name. is.NotAValue name)

abbrev pub is_print : Leaf → Bool
is_print t = same_text t.text (codes "print")

abbrev pub value_found : Leaf → Option Found → CheckOf Named
value_found t None = if is_print t then wrong_name t (λ name. is.NotAValue name) else wrong_name t (λ name. is.NotFound name)
value_found t (Some found) = do
  meaning ← usable t found.1
  value_meant t found.0 meaning

abbrev pub named_beyond : Scope → Leaf → Option Local → CheckOf Named
named_beyond s t (Some l) = sure (named.Local l)
named_beyond s t None = do
  found ← look_up (value_keys s t.text)
  value_found t found

-- What a name stands for as a value.
abbrev pub name_of : Scope → Leaf → CheckOf Named
name_of s t = named_beyond s t (local_named s.blocks t.text)

-- a value that one step gives, in an expression that begins at a place
abbrev pub value_by : Scope → Place → Ty → (Ty → Step) → CheckOf Typed
value_by s at of made = do
  of ← valued s at of
  sure (typed of (made of ∷ []))

abbrev pub self_in : Scope → Leaf → Option (List ℕ) → Option Ty → CheckOf Typed
self_in s t None of = wrong_name t (λ name. is.NotAValue name)
self_in s t (Some context) None = unsaid
self_in s t (Some context) (Some of) = value_by s (place_of t) of (λ of. step.SelfValue of)

-- `self` has the type of the struct whose member it stands in. Outside of members it is no value, and in an extension of what is no
-- struct it has no type.
abbrev pub self_value : Scope → Leaf → CheckOf Typed
self_value s t = self_in s t s.context s.self_type

-- A property of a value, in an expression that begins at a place.
abbrev pub property : Scope → Place → Typed → Key → Ty → CheckOf Typed
property s first base key of = do
  of ← valued s first of
  sure (typed of (base.code ++ step.Property key.context key.name of ∷ []))

abbrev pub local_value : Scope → Leaf → ℕ → Option Ty → CheckOf Typed
local_value s t number None = unsaid
local_value s t number (Some of) = value_by s (place_of t) of (λ of. step.Local number of)

-- A name as a value. A member goes through `self`.
abbrev pub name_value : Scope → Leaf → Named → CheckOf Typed
name_value s t (named.Local l) = local_value s t l.number l.ty
name_value s t (named.Global key mutable of) = value_by s (place_of t) of (λ of. step.Global key.name of)
name_value s t (named.OfSelf key mutable of) = do
  base ← self_value s t
  property s (place_of t) base key of

abbrev pub name_check : Scope → Leaf → CheckOf Typed
name_check s t = do
  name ← name_of s t
  name_value s t name

-- ---- members

abbrev pub member_there : Ty → Leaf → Option Found → CheckOf Found
member_there of m None = wrong_name m (λ name. is.NoMember of name)
member_there of m (Some found) = do
  meaning ← usable m found.1
  sure (found.0, meaning)

-- a member of a value of a type, by a context
abbrev pub member_in : Scope → Ty → List ℕ → Leaf → CheckOf Found
member_in s of context m = do
  found ← look_up (member_keys s.path context m.text)
  member_there of m found

-- A member of a value of a type. Structs alone have members.
abbrev pub member_named : Scope → Ty → Leaf → CheckOf Found
member_named s (ty.Struct context) m = member_in s (ty.Struct context) context m
member_named s of m = wrong_name m (λ name. is.NoMember of name)

abbrev pub member_value : Scope → Place → Leaf → Typed → Found → CheckOf Typed
member_value s first m base (key, means.Value mutable of) = property s first base key of
member_value s first m base _ = wrong_name m (λ name. is.NotAValue name)

-- ---- operators

-- the operators that do both operands
abbrev pub operator_of : List ℕ → Operator
operator_of text =
    if same_text text (codes "+") then operator.Add else
    if same_text text (codes "-") then operator.Subtract else
    if same_text text (codes "*") then operator.Multiply else
    if same_text text (codes "/") then operator.Divide else
    if same_text text (codes "%") then operator.Remainder else
    if same_text text (codes "<") then operator.Less else
    if same_text text (codes "<=") then operator.LessOrEqual else
    if same_text text (codes ">") then operator.Greater else
    if same_text text (codes ">=") then operator.GreaterOrEqual else
    if same_text text (codes "==") then operator.Equal else operator.NotEqual

-- What stands behind the code of the left operand. `&&` and `||` do the right one only where it counts.
abbrev pub operator_code : List ℕ → Ty → List Step → List Step
operator_code text operands right =
    if same_text text (codes "&&") then step.And right ∷ [] else
    if same_text text (codes "||") then step.Or right ∷ [] else
    right ++ step.Operate (operator_of text) operands ∷ []

abbrev pub binary_as : Leaf → Typed → Typed → Option Ty → CheckOf Typed
binary_as t left right None = wrong (place_of t) (is.NoBinary t.text left.ty right.ty)
binary_as t left right (Some of) = sure (typed of (left.code ++ operator_code t.text left.ty right.code))

-- An operator between two operands.
abbrev pub binary : Leaf → Typed × Typed → CheckOf Typed
binary t (left, right) = binary_as t left right (binary_type t.text left.ty right.ty)

-- what an operator before an operand does
abbrev pub prefix_step : List ℕ → Step
prefix_step text = if same_text text (codes "-") then step.Negate else step.Not

abbrev pub unary_as : Leaf → Typed → Option Ty → CheckOf Typed
unary_as t v None = wrong (place_of t) (is.NoUnary t.text v.ty)
unary_as t v (Some of) = sure (typed of (v.code ++ prefix_step t.text ∷ []))

-- An operator before an operand.
abbrev pub unary : Leaf → Typed → CheckOf Typed
unary t v = unary_as t v (unary_type t.text v.ty)

-- ---- calls

-- An argument that has a type: its label, where it begins, and its value.
pub record Given : Type 0 where
  pub label : List ℕ
  pub first : Place
  pub value : Typed

-- What is called: a function or the initializer of a struct, with the receiver of a method, its symbol, its parameters and its
-- result; `print`; or a value, by its type.
pub data Callee : Type 0 where
  Takes : Option Typed → List ℕ → List Parameter → Ty → Callee
  Prints : Callee
  IsValue : Ty → Callee

abbrev pub same_labels : List Parameter → List Given → Bool
same_labels params givens = pointwise same_text (map (λ p. p.label) params) (map (λ g. g.label) givens)

-- each argument where its parameter is wanted
abbrev pub fitted : List Parameter → List Given → List (CheckOf Typed)
fitted (p ∷ params) (g ∷ givens) = converted g.first p.ty g.value ∷ fitted params givens
fitted _ _ = []

abbrev pub received : Option Typed → List Typed
received None = []
received (Some v) = v ∷ []

-- values one by one, and then the call that takes them
abbrev pub call_code : List Typed → List ℕ → Ty → List Step
call_code values symbol of = flat_map (λ v. v.code) values ++ step.Call symbol (map (λ v. v.ty) values) of ∷ []

abbrev pub is_printed : Ty → Bool
is_printed ty.Int = true
is_printed ty.String = true
is_printed ty.Bool = true
is_printed _ = false

abbrev pub printed : Given → CheckOf Typed
printed g = if is_printed g.value.ty then sure (typed ty.Void (g.value.code ++ step.Print g.value.ty ∷ [])) else wrong g.first (is.NoConversion g.value.ty ty.String)

-- `print` takes one argument without label.
abbrev pub print_call : Leaf → List Given → CheckOf Typed
print_call t (g ∷ []) = if same_text g.label (codes "_") then printed g else wrong_name t (λ name. is.WrongArguments name)
print_call t _ = wrong_name t (λ name. is.WrongArguments name)

-- A call, in an expression that begins at a place. `name` is the last name of what is called.
abbrev pub call : Scope → Place → Leaf → Callee × List Given → CheckOf Typed
call s first name (IsValue of, givens) = wrong first (is.NotCallable of)
call s first name (Prints, givens) = print_call name givens
call s first name (Takes receiver symbol params result, givens) =
    if same_labels params givens then (do
      values ← all (fitted params givens)
      of ← valued s first result
      sure (typed of (call_code (received receiver ++ values) symbol of)))
    else wrong_name name (λ name. is.WrongArguments name)

abbrev pub member_symbol : Key → List ℕ
member_symbol key = key.context ++ codes ":" ++ key.name

-- the parameters of the initializer of a struct: its stored properties without a value, by their written names
abbrev pub memberwise : List Field → List Parameter
memberwise [] = []
memberwise (f ∷ fields) = if f.has_value then memberwise fields else record { label = before_path f.name; ty = f.ty } ∷ memberwise fields

abbrev pub initializer_symbol : List ℕ → List ℕ
initializer_symbol context = context ++ codes ":init"

abbrev pub initializer_of : Leaf → List ℕ → Meaning → CheckOf Callee
initializer_of t context (means.Fields fields words) = sure (Takes None (initializer_symbol context) (memberwise fields) (ty.Struct context))
initializer_of t context means.Broken = wrong (place_of t) (is.HasErrors (before_path context))
initializer_of t context means.Circular = wrong (place_of t) (is.HasErrors (before_path context))
initializer_of t context _ = unsaid

-- a type that is called: a struct, by its stored parts
abbrev pub type_callee : Leaf → Ty → CheckOf Callee
type_callee t (ty.Struct context) = Fetch (nominal context) (λ meaning. initializer_of t context meaning)
type_callee t _ = wrong_name t (λ name. is.NotAValue name)

abbrev pub method_of : Typed → Key → List Parameter → Ty → Callee
method_of base key params result = Takes (Some base) (member_symbol key) params result

-- a function that is called by its name alone; a method is called on `self`
abbrev pub function_callee : Scope → Leaf → Key → List Parameter → Ty → CheckOf Callee
function_callee s t key params result = by_kind key.kind (self_value s t >>= (λ base. sure (method_of base key params result))) (sure (Takes None key.name params result))

abbrev pub value_callee : CheckOf Typed → CheckOf Callee
value_callee check = check >>= (λ v. sure (IsValue v.ty))

abbrev pub callee_meant : Scope → Leaf → Key → Meaning → CheckOf Callee
callee_meant s t key (means.Function params result) = function_callee s t key params result
callee_meant s t key (means.Struct context) = type_callee t (ty.Struct context)
callee_meant s t key (means.Alias of) = type_callee t of
callee_meant s t key (means.Value mutable of) = value_callee (name_value s t (value_of key mutable of))
callee_meant s t key _ = unsaid

abbrev pub callee_found : Scope → Leaf → Option Found → CheckOf Callee
callee_found s t None = if is_print t then sure Prints else wrong_name t (λ name. is.NotFound name)
callee_found s t (Some found) = do
  meaning ← usable t found.1
  callee_meant s t found.0 meaning

abbrev pub callee_beyond : Scope → Leaf → Option Local → CheckOf Callee
callee_beyond s t (Some l) = value_callee (local_value s t l.number l.ty)
callee_beyond s t None = do
  found ← look_up (value_keys s t.text)
  callee_found s t found

-- A name that is called.
abbrev pub callee_named : Scope → Leaf → CheckOf Callee
callee_named s t = callee_beyond s t (local_named s.blocks t.text)

abbrev pub method_meant : Scope → Place → Typed → Found → CheckOf Callee
method_meant s first base (key, means.Function params result) = sure (method_of base key params result)
method_meant s first base (key, means.Value mutable of) = value_callee (property s first base key of)
method_meant s first base _ = unsaid

-- A member that is called.
abbrev pub method_named : Scope → Place → Leaf → CheckOf Typed → CheckOf Callee
method_named s first m value = do
  base ← value
  found ← member_named s base.ty m
  method_meant s first base found
