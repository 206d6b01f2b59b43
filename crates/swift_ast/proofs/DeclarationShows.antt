-- The trees of declarations as trees of their rules.
use Rattle.std.proofs.Common.{◌≡◌, Bool, true, ◌&&◌, List, [], ◌∷◌, Option, Some, None, refl, ◌⊎◌, inl, inr}
use Rattle.std.proofs.lemmas.Bool.{and_parts, and_from, false≢true}
use Rattle.grammar.specs.Forms.{Form, token, both, both_on, perhaps, chain, either, either_tokens, either_on, nothing}
use Rattle.grammar.specs.Shows.{Shows, reading}
use Rattle.grammar.proofs.Shown.{shows_read, shows_through}
use Rattle.swift_ast.specs.declared.terminals.Terminal.{Terminal}
use Rattle.swift_ast.specs.declared.terminals.Terminal.TheVariants as T
use Rattle.swift_ast.specs.declared.expressions.Expr.{Expr}
use Rattle.swift_ast.specs.declared.statements.BindingSpecifier.{BindingSpecifier}
use Rattle.swift_ast.specs.declared.statements.BindingSpecifier.TheVariants as specifier
use Rattle.swift_ast.specs.declared.statements.TypeName.{TypeName}
use Rattle.swift_ast.specs.declared.statements.Block.{Block}
use Rattle.swift_ast.specs.declared.declarations.Decl.{Decl}
use Rattle.swift_ast.specs.declared.declarations.Decl.TheVariants as decl
use Rattle.swift_ast.specs.declared.declarations.NamedDecl.{NamedDecl}
use Rattle.swift_ast.specs.declared.declarations.NamedDecl.TheVariants as named
use Rattle.swift_ast.specs.declared.declarations.Access.{Access}
use Rattle.swift_ast.specs.declared.declarations.Access.TheVariants as access
use Rattle.swift_ast.specs.declared.declarations.Global.{Global}
use Rattle.swift_ast.specs.declared.declarations.Func.{Func}
use Rattle.swift_ast.specs.declared.declarations.Param.{Param}
use Rattle.swift_ast.specs.declared.declarations.Struct.{Struct}
use Rattle.swift_ast.specs.declared.declarations.StructMember.{StructMember}
use Rattle.swift_ast.specs.declared.declarations.StructMember.TheVariants as member
use Rattle.swift_ast.specs.declared.declarations.Stored.{Stored}
use Rattle.swift_ast.specs.declared.declarations.StoredValue.{StoredValue}
use Rattle.swift_ast.specs.declared.declarations.StoredValue.TheVariants.{Typed, Inferred}
use Rattle.swift_ast.specs.declared.declarations.Computed.{Computed}
use Rattle.swift_ast.specs.declared.declarations.Extension.{Extension}
use Rattle.swift_ast.specs.declared.declarations.ExtensionMember.{ExtensionMember}
use Rattle.swift_ast.specs.declared.declarations.ExtensionMember.TheVariants as extended
use Rattle.swift_ast.specs.declared.declarations.Alias.{Alias}
use Rattle.swift_ast.specs.Leaves.{Leaf}
use Rattle.swift_ast.specs.Terminals.{terminal}
use Rattle.swift_ast.specs.Tests.{Test, on, is, or, is_access, is_label}
use Rattle.swift_ast.specs.Expressions.{word}
use Rattle.swift_ast.specs.Statements.{type_form, binding_rule, block_form}
use Rattle.swift_ast.specs.Declarations.{access_form, global_form, param_form, func_rule, func_form, typed_rule, inferred_rule, stored_value_reading, stored_value_form, stored_rule, stored_form, computed_rule, computed_form, struct_member_reading, struct_member_form, with_access, struct_rule, struct_form, extension_member_reading, extension_member_form, extension_rule, extension_form, alias_rule, alias_form, named_reading, named_form, decl_reading, decl_form}
use Rattle.swift_ast.proofs.TestFacts.{within}
use Rattle.swift_ast.proofs.ExpressionShows.{sorts_show}
use Rattle.swift_ast.proofs.StatementShows.{BindingParts, valued_form}

abbrev pub access_out : Access → Leaf
access_out (access.Private t) = t
access_out (access.Fileprivate t) = t
access_out (access.Internal t) = t
access_out (access.Public t) = t

abbrev pub access_sort : Access → Terminal
access_sort (access.Private t) = T.Private
access_sort (access.Fileprivate t) = T.Fileprivate
access_sort (access.Internal t) = T.Internal
access_sort (access.Public t) = T.Public

abbrev pub access_at : Terminal → Leaf → Access
access_at T.Private t = access.Private t
access_at T.Fileprivate t = access.Fileprivate t
access_at T.Internal t = access.Internal t
access_at T.Public t = access.Public t
access_at _ t = access.Private t

abbrev pub access_made : Leaf → Access
access_made t = access_at (terminal t) t

access_tokens : (x : Access) → access_form.tokens x ≡ access_out x ∷ []
access_tokens (access.Private t) = refl
access_tokens (access.Fileprivate t) = refl
access_tokens (access.Internal t) = refl
access_tokens (access.Public t) = refl

access_continues : (x : Access) → access_form.continues x ≡ nothing
access_continues (access.Private t) = refl
access_continues (access.Fileprivate t) = refl
access_continues (access.Internal t) = refl
access_continues (access.Public t) = refl

access_right : (x : Access) → access_form.is_well_formed x ≡ on (is (access_sort x)) (access_out x)
access_right (access.Private t) = refl
access_right (access.Fileprivate t) = refl
access_right (access.Internal t) = refl
access_right (access.Public t) = refl

access_back : (x : Access) → access_at (access_sort x) (access_out x) ≡ x
access_back (access.Private t) = refl
access_back (access.Fileprivate t) = refl
access_back (access.Internal t) = refl
access_back (access.Public t) = refl

access_inside : (x : Access) (first : Bool) → is_access (access_sort x) first ≡ true
access_inside (access.Private t) first = refl
access_inside (access.Fileprivate t) first = refl
access_inside (access.Internal t) first = refl
access_inside (access.Public t) first = refl

access_there : (k : Terminal) (t : Leaf) → access_out (access_at k t) ≡ t
access_there T.Private t = refl
access_there T.Fileprivate t = refl
access_there T.Internal t = refl
access_there T.Public t = refl
access_there _ t = refl

access_kept : (k : Terminal) (first : Bool) (t : Leaf) → is_access k first ≡ true → access_sort (access_at k t) ≡ k
access_kept T.Private first t m = refl
access_kept T.Fileprivate first t m = refl
access_kept T.Internal first t m = refl
access_kept T.Public first t m = refl
access_kept _ first t m = absurd (false≢true m)

pub access_shows : Shows access_form (token (on is_access)) access_out access_made
access_shows = sorts_show is_access access_form access_out access_sort access_at (record { tokens = access_tokens; continues = access_continues; right = access_right; inside = access_inside; there = access_there; back = access_back; kept = access_kept })

abbrev pub global_out : Global → BindingParts
global_out x = (x.specifier, (x.name, (x.annotation, (x.assign, x.value))))

abbrev pub global_made : BindingParts → Global
global_made p = record { specifier = p.0; name = p.1.0; annotation = p.1.1.0; assign = p.1.1.1.0; value = p.1.1.1.1 }

pub global_shows : Shows global_form binding_rule global_out global_made
global_shows = shows_through binding_rule global_out global_made (λ y. refl) (λ x. refl)

-- ---- parameters: a word, and then a name with its type, or the type alone

abbrev pub TypedParts : Type 0
TypedParts = Leaf × TypeName

abbrev pub typed_form : Form Leaf TypedParts
typed_form = both (word T.Colon) type_form

abbrev pub name_typed_form : Form Leaf (Leaf × TypedParts)
name_typed_form = both (word T.Identifier) typed_form

abbrev pub tail_right : Leaf → (Leaf × TypedParts) ⊎ TypedParts → Bool
tail_right t (inl p) = name_typed_form.is_well_formed p
tail_right t (inr p) = on (is T.Identifier) t && typed_form.is_well_formed p

-- behind `_` a name has to stand
abbrev pub tail_form : Leaf → Form Leaf ((Leaf × TypedParts) ⊎ TypedParts)
tail_form t = record { tokens = either_tokens name_typed_form typed_form; is_well_formed = tail_right t; continues = either_on name_typed_form typed_form }

abbrev pub ParamParts : Type 0
ParamParts = Leaf × ((Leaf × TypedParts) ⊎ TypedParts)

abbrev pub param_words : Form Leaf ParamParts
param_words = both_on (token (on is_label)) tail_form

abbrev pub param_parts : Option Leaf → Leaf → TypedParts → ParamParts
param_parts None name typed = (name, inr typed)
param_parts (Some label) name typed = (label, inl (name, typed))

abbrev pub param_out : Param → ParamParts
param_out x = param_parts x.label x.name (x.colon, x.type_name)

abbrev pub param_of : Option Leaf → Leaf → TypedParts → Param
param_of label name typed = record { label = label; name = name; colon = typed.0; type_name = typed.1 }

abbrev pub param_at : Leaf → (Leaf × TypedParts) ⊎ TypedParts → Param
param_at t (inl p) = param_of (Some t) p.0 p.1
param_at t (inr p) = param_of None t p

abbrev pub param_made : ParamParts → Param
param_made p = param_at p.0 p.1

param_tokens : (label : Option Leaf) (name : Leaf) (typed : TypedParts) → param_form.tokens (param_of label name typed) ≡ param_words.tokens (param_parts label name typed)
param_tokens None name typed = refl
param_tokens (Some t) name typed = refl

param_goes : (label : Option Leaf) (name : Leaf) (typed : TypedParts) → param_form.continues (param_of label name typed) ≡ param_words.continues (param_parts label name typed)
param_goes None name typed = refl
param_goes (Some t) name typed = refl

param_right : (label : Option Leaf) (name : Leaf) (typed : TypedParts) → param_form.is_well_formed (param_of label name typed) ≡ true → param_words.is_well_formed (param_parts label name typed) ≡ true
param_right None name typed r = and_from (on is_label name) _ (within (is T.Identifier) is_label refl name ((and_parts (on (is T.Identifier) name) (typed_form.is_well_formed typed) r).0)) r
param_right (Some t) name typed r = r

param_made_right : (t : Leaf) (p : (Leaf × TypedParts) ⊎ TypedParts) → param_words.is_well_formed (t, p) ≡ true → param_form.is_well_formed (param_at t p) ≡ true
param_made_right t (inl p) r = r
param_made_right t (inr p) r = (and_parts (on is_label t) (on (is T.Identifier) t && typed_form.is_well_formed p) r).1

param_there : (t : Leaf) (p : (Leaf × TypedParts) ⊎ TypedParts) → param_out (param_at t p) ≡ (t, p)
param_there t (inl p) = refl
param_there t (inr p) = refl

param_back : (label : Option Leaf) (name : Leaf) (typed : TypedParts) → param_made (param_parts label name typed) ≡ param_of label name typed
param_back None name typed = refl
param_back (Some t) name typed = refl

pub param_shows : Shows param_form param_words param_out param_made
param_shows = record {
  tokens = λ x. param_tokens x.label x.name (x.colon, x.type_name);
  continues = λ x. param_goes x.label x.name (x.colon, x.type_name);
  right = λ x r. param_right x.label x.name (x.colon, x.type_name) r;
  made_right = λ p r. param_made_right p.0 p.1 r;
  there = λ p r. param_there p.0 p.1;
  back = λ x r. param_back x.label x.name (x.colon, x.type_name);
}

abbrev pub ParamList : Type 0
ParamList = Param × List (Leaf × Param)

abbrev pub param_list_form : Form Leaf ParamList
param_list_form = chain (on (is T.Comma)) (word T.Comma) param_form

-- ---- functions and properties

abbrev pub FuncParts : Type 0
FuncParts = Leaf × (Leaf × (Leaf × (Option ParamList × (Leaf × (Option TypedParts × Block)))))

abbrev pub func_out : Func → FuncParts
func_out x = (x.keyword, (x.name, (x.opening, (x.params, (x.closing, (x.result_type, x.body))))))

abbrev pub func_made : FuncParts → Func
func_made p = record { keyword = p.0; name = p.1.0; opening = p.1.1.0; params = p.1.1.1.0; closing = p.1.1.1.1.0; result_type = p.1.1.1.1.1.0; body = p.1.1.1.1.1.1 }

pub func_shows : Shows func_form func_rule func_out func_made
func_shows = shows_through func_rule func_out func_made (λ y. refl) (λ x. refl)

abbrev pub StoredParts : Type 0
StoredParts = (Leaf × (TypeName × Option (Leaf × Expr))) ⊎ (Leaf × Expr)

abbrev pub stored_value_rule : Form Leaf StoredParts
stored_value_rule = either typed_rule inferred_rule

abbrev pub stored_value_out : StoredValue → StoredParts
stored_value_out (Typed colon type_name value) = inl (colon, (type_name, value))
stored_value_out (Inferred assign value) = inr (assign, value)

abbrev pub stored_value_made : StoredParts → StoredValue
stored_value_made (inl p) = Typed p.0 p.1.0 p.1.1
stored_value_made (inr p) = Inferred p.0 p.1

stored_value_open : (x : StoredValue) → stored_value_reading x ≡ reading stored_value_rule (stored_value_out x)
stored_value_open (Typed colon type_name value) = refl
stored_value_open (Inferred assign value) = refl

stored_value_there : (p : StoredParts) → stored_value_out (stored_value_made p) ≡ p
stored_value_there (inl p) = refl
stored_value_there (inr p) = refl

stored_value_back : (x : StoredValue) → stored_value_made (stored_value_out x) ≡ x
stored_value_back (Typed colon type_name value) = refl
stored_value_back (Inferred assign value) = refl

pub stored_value_shows : Shows stored_value_form stored_value_rule stored_value_out stored_value_made
stored_value_shows = shows_read stored_value_reading stored_value_rule stored_value_out stored_value_made stored_value_open stored_value_there stored_value_back

abbrev pub ComputedParts : Type 0
ComputedParts = Leaf × (Leaf × (Leaf × (TypeName × Block)))

abbrev pub computed_out : Computed → ComputedParts
computed_out x = (x.keyword, (x.name, (x.colon, (x.type_name, x.body))))

abbrev pub computed_made : ComputedParts → Computed
computed_made p = record { keyword = p.0; name = p.1.0; colon = p.1.1.0; type_name = p.1.1.1.0; body = p.1.1.1.1 }

pub computed_shows : Shows computed_form computed_rule computed_out computed_made
computed_shows = shows_through computed_rule computed_out computed_made (λ y. refl) (λ x. refl)

-- ---- members of a struct: behind `var`, a name and a type an initial value, a block or nothing

abbrev pub VarTail : Type 0
VarTail = Option ((Leaf × Expr) ⊎ Block)

abbrev pub begins_tail : Test
begins_tail = or (is T.Assign) (is T.LeftBrace)

abbrev pub value_or_body_form : Form Leaf ((Leaf × Expr) ⊎ Block)
value_or_body_form = either valued_form block_form

abbrev pub var_tail_form : Form Leaf VarTail
var_tail_form = perhaps (on begins_tail) value_or_body_form

abbrev pub VarTyped : Type 0
VarTyped = Leaf × (TypeName × VarTail)

abbrev pub var_typed_form : Form Leaf VarTyped
var_typed_form = both (word T.Colon) (both type_form var_tail_form)

abbrev pub var_rest_form : Form Leaf (VarTyped ⊎ (Leaf × Expr))
var_rest_form = either var_typed_form valued_form

abbrev pub VarParts : Type 0
VarParts = Leaf × (Leaf × (VarTyped ⊎ (Leaf × Expr)))

abbrev pub var_form : Form Leaf VarParts
var_form = both (word T.Var) (both (word T.Identifier) var_rest_form)

abbrev pub LetParts : Type 0
LetParts = Leaf × (Leaf × StoredValue)

abbrev pub let_form : Form Leaf LetParts
let_form = both (word T.Let) (both (word T.Identifier) stored_value_form)

abbrev pub StructMemberParts : Type 0
StructMemberParts = LetParts ⊎ (VarParts ⊎ Func)

abbrev pub struct_member_rule : Form Leaf StructMemberParts
struct_member_rule = either let_form (either var_form func_form)

abbrev pub stored_parts : BindingSpecifier → Leaf → StoredValue → StructMemberParts
stored_parts (specifier.Let k) n v = inl (k, (n, v))
stored_parts (specifier.Var k) n (Typed c t None) = inr (inl (k, (n, inl (c, (t, None)))))
stored_parts (specifier.Var k) n (Typed c t (Some v)) = inr (inl (k, (n, inl (c, (t, Some (inl v))))))
stored_parts (specifier.Var k) n (Inferred a v) = inr (inl (k, (n, inr (a, v))))

abbrev pub struct_member_out : StructMember → StructMemberParts
struct_member_out (member.Stored x) = stored_parts x.specifier x.name x.value
struct_member_out (member.Computed x) = inr (inl (x.keyword, (x.name, inl (x.colon, (x.type_name, Some (inr x.body))))))
struct_member_out (member.Func x) = inr (inr x)

abbrev pub stored_of : BindingSpecifier → Leaf → StoredValue → StructMember
stored_of s n v = member.Stored (record { specifier = s; name = n; value = v })

abbrev pub var_at : Leaf → Leaf → VarTyped ⊎ (Leaf × Expr) → StructMember
var_at k n (inl (c, (t, None))) = stored_of (specifier.Var k) n (Typed c t None)
var_at k n (inl (c, (t, (Some (inl v))))) = stored_of (specifier.Var k) n (Typed c t (Some v))
var_at k n (inl (c, (t, (Some (inr b))))) = member.Computed (record { keyword = k; name = n; colon = c; type_name = t; body = b })
var_at k n (inr v) = stored_of (specifier.Var k) n (Inferred v.0 v.1)

abbrev pub struct_member_made : StructMemberParts → StructMember
struct_member_made (inl p) = stored_of (specifier.Let p.0) p.1.0 p.1.1
struct_member_made (inr (inl p)) = var_at p.0 p.1.0 p.1.1
struct_member_made (inr (inr x)) = member.Func x

stored_open : (s : BindingSpecifier) (n : Leaf) (v : StoredValue) → struct_member_reading (stored_of s n v) ≡ reading struct_member_rule (stored_parts s n v)
stored_open (specifier.Let k) n v = refl
stored_open (specifier.Var k) n (Typed c t None) = refl
stored_open (specifier.Var k) n (Typed c t (Some v)) = refl
stored_open (specifier.Var k) n (Inferred a v) = refl

struct_member_open : (x : StructMember) → struct_member_reading x ≡ reading struct_member_rule (struct_member_out x)
struct_member_open (member.Stored x) = stored_open x.specifier x.name x.value
struct_member_open (member.Computed x) = refl
struct_member_open (member.Func x) = refl

var_there : (k n : Leaf) (p : VarTyped ⊎ (Leaf × Expr)) → struct_member_out (var_at k n p) ≡ inr (inl (k, (n, p)))
var_there k n (inl (c, (t, None))) = refl
var_there k n (inl (c, (t, (Some (inl v))))) = refl
var_there k n (inl (c, (t, (Some (inr b))))) = refl
var_there k n (inr v) = refl

struct_member_there : (p : StructMemberParts) → struct_member_out (struct_member_made p) ≡ p
struct_member_there (inl p) = refl
struct_member_there (inr (inl p)) = var_there p.0 p.1.0 p.1.1
struct_member_there (inr (inr x)) = refl

stored_back : (s : BindingSpecifier) (n : Leaf) (v : StoredValue) → struct_member_made (stored_parts s n v) ≡ stored_of s n v
stored_back (specifier.Let k) n v = refl
stored_back (specifier.Var k) n (Typed c t None) = refl
stored_back (specifier.Var k) n (Typed c t (Some v)) = refl
stored_back (specifier.Var k) n (Inferred a v) = refl

struct_member_back : (x : StructMember) → struct_member_made (struct_member_out x) ≡ x
struct_member_back (member.Stored x) = stored_back x.specifier x.name x.value
struct_member_back (member.Computed x) = refl
struct_member_back (member.Func x) = refl

pub struct_member_shows : Shows struct_member_form struct_member_rule struct_member_out struct_member_made
struct_member_shows = shows_read struct_member_reading struct_member_rule struct_member_out struct_member_made struct_member_open struct_member_there struct_member_back

-- a stored property behind `let`, as the program has it
abbrev pub stored_out : Stored → BindingSpecifier × (Leaf × StoredValue)
stored_out x = (x.specifier, (x.name, x.value))

abbrev pub stored_made : BindingSpecifier × (Leaf × StoredValue) → Stored
stored_made p = record { specifier = p.0; name = p.1.0; value = p.1.1 }

pub stored_shows : Shows stored_form stored_rule stored_out stored_made
stored_shows = shows_through stored_rule stored_out stored_made (λ y. refl) (λ x. refl)

-- ---- structs, extensions and aliases

abbrev pub StructMembers : Type 0
StructMembers = List (Option Access × StructMember)

abbrev pub ExtensionMembers : Type 0
ExtensionMembers = List (Option Access × ExtensionMember)

abbrev pub StructParts : Type 0
StructParts = Leaf × (Leaf × (Leaf × (StructMembers × Leaf)))

abbrev pub struct_out : Struct → StructParts
struct_out x = (x.keyword, (x.name, (x.opening, (x.members, x.closing))))

abbrev pub struct_made : StructParts → Struct
struct_made p = record { keyword = p.0; name = p.1.0; opening = p.1.1.0; members = p.1.1.1.0; closing = p.1.1.1.1 }

pub struct_shows : Shows struct_form struct_rule struct_out struct_made
struct_shows = shows_through struct_rule struct_out struct_made (λ y. refl) (λ x. refl)

abbrev pub ExtensionParts : Type 0
ExtensionParts = Leaf × (Leaf × (Leaf × (ExtensionMembers × Leaf)))

abbrev pub extension_out : Extension → ExtensionParts
extension_out x = (x.keyword, (x.name, (x.opening, (x.members, x.closing))))

abbrev pub extension_made : ExtensionParts → Extension
extension_made p = record { keyword = p.0; name = p.1.0; opening = p.1.1.0; members = p.1.1.1.0; closing = p.1.1.1.1 }

pub extension_shows : Shows extension_form extension_rule extension_out extension_made
extension_shows = shows_through extension_rule extension_out extension_made (λ y. refl) (λ x. refl)

abbrev pub AliasParts : Type 0
AliasParts = Leaf × (Leaf × (Leaf × TypeName))

abbrev pub alias_out : Alias → AliasParts
alias_out x = (x.keyword, (x.name, (x.assign, x.type_name)))

abbrev pub alias_made : AliasParts → Alias
alias_made p = record { keyword = p.0; name = p.1.0; assign = p.1.1.0; type_name = p.1.1.1 }

pub alias_shows : Shows alias_form alias_rule alias_out alias_made
alias_shows = shows_through alias_rule alias_out alias_made (λ y. refl) (λ x. refl)

abbrev pub ExtensionMemberParts : Type 0
ExtensionMemberParts = Computed ⊎ Func

abbrev pub extension_member_rule : Form Leaf ExtensionMemberParts
extension_member_rule = either computed_form func_form

abbrev pub extension_member_out : ExtensionMember → ExtensionMemberParts
extension_member_out (extended.Computed x) = inl x
extension_member_out (extended.Func x) = inr x

abbrev pub extension_member_made : ExtensionMemberParts → ExtensionMember
extension_member_made (inl x) = extended.Computed x
extension_member_made (inr x) = extended.Func x

extension_member_open : (x : ExtensionMember) → extension_member_reading x ≡ reading extension_member_rule (extension_member_out x)
extension_member_open (extended.Computed x) = refl
extension_member_open (extended.Func x) = refl

extension_member_there : (p : ExtensionMemberParts) → extension_member_out (extension_member_made p) ≡ p
extension_member_there (inl x) = refl
extension_member_there (inr x) = refl

extension_member_back : (x : ExtensionMember) → extension_member_made (extension_member_out x) ≡ x
extension_member_back (extended.Computed x) = refl
extension_member_back (extended.Func x) = refl

pub extension_member_shows : Shows extension_member_form extension_member_rule extension_member_out extension_member_made
extension_member_shows = shows_read extension_member_reading extension_member_rule extension_member_out extension_member_made extension_member_open extension_member_there extension_member_back

abbrev pub NamedParts : Type 0
NamedParts = Global ⊎ (Func ⊎ (Struct ⊎ Alias))

abbrev pub named_rule : Form Leaf NamedParts
named_rule = either global_form (either func_form (either struct_form alias_form))

abbrev pub named_out : NamedDecl → NamedParts
named_out (named.Global x) = inl x
named_out (named.Func x) = inr (inl x)
named_out (named.Struct x) = inr (inr (inl x))
named_out (named.Alias x) = inr (inr (inr x))

abbrev pub named_made : NamedParts → NamedDecl
named_made (inl x) = named.Global x
named_made (inr (inl x)) = named.Func x
named_made (inr (inr (inl x))) = named.Struct x
named_made (inr (inr (inr x))) = named.Alias x

named_open : (x : NamedDecl) → named_reading x ≡ reading named_rule (named_out x)
named_open (named.Global x) = refl
named_open (named.Func x) = refl
named_open (named.Struct x) = refl
named_open (named.Alias x) = refl

named_there : (p : NamedParts) → named_out (named_made p) ≡ p
named_there (inl x) = refl
named_there (inr (inl x)) = refl
named_there (inr (inr (inl x))) = refl
named_there (inr (inr (inr x))) = refl

named_back : (x : NamedDecl) → named_made (named_out x) ≡ x
named_back (named.Global x) = refl
named_back (named.Func x) = refl
named_back (named.Struct x) = refl
named_back (named.Alias x) = refl

pub named_shows : Shows named_form named_rule named_out named_made
named_shows = shows_read named_reading named_rule named_out named_made named_open named_there named_back

abbrev pub DeclParts : Type 0
DeclParts = (Option Access × NamedDecl) ⊎ Extension

abbrev pub decl_rule : Form Leaf DeclParts
decl_rule = either (with_access named_form) extension_form

abbrev pub decl_out : Decl → DeclParts
decl_out (decl.Named a x) = inl (a, x)
decl_out (decl.Extension x) = inr x

abbrev pub decl_made : DeclParts → Decl
decl_made (inl p) = decl.Named p.0 p.1
decl_made (inr x) = decl.Extension x

decl_open : (x : Decl) → decl_reading x ≡ reading decl_rule (decl_out x)
decl_open (decl.Named a x) = refl
decl_open (decl.Extension x) = refl

decl_there : (p : DeclParts) → decl_out (decl_made p) ≡ p
decl_there (inl p) = refl
decl_there (inr x) = refl

decl_back : (x : Decl) → decl_made (decl_out x) ≡ x
decl_back (decl.Named a x) = refl
decl_back (decl.Extension x) = refl

pub decl_shows : Shows decl_form decl_rule decl_out decl_made
decl_shows = shows_read decl_reading decl_rule decl_out decl_made decl_open decl_there decl_back
