-- How the declarations of a file are checked: what is said of them, their units of code, and what is asked, keys of their own among it.
use Rattle.std.specs.Prelude.{ℕ, ◌+◌, Bool, true, false, ◌&&◌, ◌||◌, not, nat_lt, List, [], ◌∷◌, ◌++◌, map, flat_map, length, Option, Some, None, if◌then◌else◌}
use Rattle.std.specs.List.{list_any}
use Rattle.queries.specs.Queries.{Fetch}
use Rattle.dep_key.specs.declared.key.Key.{Key}
use Rattle.dep_key.specs.KeyBuilders.{top_level, nominal, member, key_name}
use Rattle.type_rules.specs.declared.ty.Ty.{Ty}
use Rattle.type_rules.specs.declared.ty.Ty.TheVariants as ty
use Rattle.type_rules.specs.declared.meaning.Meaning.{Meaning}
use Rattle.type_rules.specs.declared.meaning.Meaning.TheVariants as means
use Rattle.type_rules.specs.Sizes.{field_words}
use Rattle.decl_index.specs.Declarations.{is_private, private_structs, is_among, struct_member_name, extension_member_name}
use Rattle.swift_ast.specs.declared.declarations.Access.{Access}
use Rattle.swift_ast.specs.declared.declarations.FileTree.{FileTree}
use Rattle.swift_ast.specs.declared.declarations.Decl.{Decl}
use Rattle.swift_ast.specs.declared.declarations.Decl.TheVariants.{Named as NamedAs, Extension as Extended}
use Rattle.swift_ast.specs.declared.declarations.NamedDecl.{NamedDecl}
use Rattle.swift_ast.specs.declared.declarations.NamedDecl.TheVariants as named
use Rattle.swift_ast.specs.declared.declarations.Global.{Global}
use Rattle.swift_ast.specs.declared.declarations.Func.{Func}
use Rattle.swift_ast.specs.declared.declarations.Alias.{Alias}
use Rattle.swift_ast.specs.declared.declarations.Param.{Param}
use Rattle.swift_ast.specs.declared.declarations.Struct.{Struct}
use Rattle.swift_ast.specs.declared.declarations.Stored.{Stored}
use Rattle.swift_ast.specs.declared.declarations.StructMember.{StructMember}
use Rattle.swift_ast.specs.declared.declarations.StructMember.TheVariants as part
use Rattle.swift_ast.specs.declared.declarations.StoredValue.{StoredValue}
use Rattle.swift_ast.specs.declared.declarations.StoredValue.TheVariants.{Typed as WithType, Inferred}
use Rattle.swift_ast.specs.declared.declarations.Computed.{Computed}
use Rattle.swift_ast.specs.declared.declarations.Extension.{Extension}
use Rattle.swift_ast.specs.declared.declarations.ExtensionMember.{ExtensionMember}
use Rattle.swift_ast.specs.declared.declarations.ExtensionMember.TheVariants as extended
use Rattle.swift_ast.specs.declared.statements.TypeName.{TypeName}
use Rattle.swift_ast.specs.declared.statements.Block.{Block}
use Rattle.swift_ast.specs.Leaves.{Leaf}
use Rattle.typed_code.specs.declared.step.Step.{Step}
use Rattle.typed_code.specs.declared.step.Step.TheVariants as step
use Rattle.typed_code.specs.declared.units.Initial.{Initial}
use Rattle.typed_code.specs.declared.units.Initial.TheVariants as initially
use Rattle.typed_code.specs.declared.units.Unit.{Unit as CodeUnit}
use Rattle.typed_code.specs.declared.units.Unit.TheVariants as unit
use Rattle.checks.specs.Checks.{Check, sure, unsaid, behind, found, ◌>>=◌, both, noting, tried, hushed, all}
use Rattle.checks.specs.OwnKeys.{Asked, Use, Own, used, owned}
use Rattle.expr_check.specs.declared.line.Line.{Line}
use Rattle.expr_check.specs.Message as is
use Rattle.expr_check.specs.declared.typed.Typed.{Typed}
use Rattle.expr_check.specs.declared.scope.Scope.{Scope}
use Rattle.expr_check.specs.Messages.{line, place_of}
use Rattle.expr_check.specs.Scopes.{same_text, declaring}
use Rattle.expr_check.specs.Types.{CheckOf, type_named, type_written, laid_out}
use Rattle.expr_check.specs.Expressions.{member_symbol}
use Rattle.expr_check.specs.Phrases.{Phrase, expr_phrase}
use Rattle.body_check.specs.Statements.{falls_through, in_block, annotated, fitting, not_declared, block_statements}

-- A check that asks keys of its own file's declarations, beside those that it uses.
abbrev pub FileCheck : Type 0 → Type 0
FileCheck X = Check (Asked Key) Meaning Line X

-- What checking a declaration gives: its units of code, if it has no error. There is always a value.
abbrev pub UnitCheck : Type 0
UnitCheck = FileCheck (List CodeUnit)

-- what a key of one's own means
abbrev pub own_meaning : {X : Type 0} → Key → (Meaning → FileCheck X) → FileCheck X
own_meaning key f = Fetch (Own key) f

-- what a key means that is used
abbrev pub used_meaning : {X : Type 0} → Key → (Meaning → FileCheck X) → FileCheck X
used_meaning key f = Fetch (Use key) f

-- some lines, and no code
abbrev pub lines_of : List Line → UnitCheck
lines_of lines = behind lines (sure [])

-- one after the other, and the code of all
abbrev pub in_order : List UnitCheck → UnitCheck
in_order checks = do
  units ← all checks
  sure (flat_map (λ us. us) units)

-- ---- what the own key of a declaration says of its name

-- A name as it is declared: the context that it stands in, empty outside structs and extensions, the name, and whether its file keeps
-- it to itself.
pub record Declared : Type 0 where
  pub context : List ℕ
  pub name : List ℕ
  pub private : Bool

-- A file: its path, the structs that it keeps to itself, and all names that it declares.
pub record Site : Type 0 where
  pub path : List ℕ
  pub own_structs : List (List ℕ)
  pub names : List Declared

abbrev pub is_ambiguous : Meaning → Bool
is_ambiguous means.Ambiguous = true
is_ambiguous _ = false

abbrev pub is_circular : Meaning → Bool
is_circular means.Circular = true
is_circular _ = false

-- whether the file declares the name in the context once more, with the other visibility
abbrev pub with_other_visibility : Site → Declared → Bool
with_other_visibility f d = list_any (λ e. same_text e.context d.context && same_text e.name d.name && (if d.private then not e.private else e.private)) f.names

abbrev pub one_line_if : Bool → Line → List Line
one_line_if true l = l ∷ []
one_line_if false l = []

abbrev pub redeclaration : Site → Declared → Leaf → Meaning → List Line
redeclaration f d name meaning = one_line_if (is_ambiguous meaning || with_other_visibility f d) (line (place_of name) (is.Redeclared name.text))

abbrev pub circle : Leaf → Meaning → List Line
circle name meaning = one_line_if (is_circular meaning) (line (place_of name) (is.Circular name.text))

-- How a declared name stands with the others: it must not be declared again, and must not need itself.
abbrev pub standing : Site → Declared → Key → Leaf → UnitCheck
standing f d key name = own_meaning key (λ meaning. lines_of (redeclaration f d name meaning ++ circle name meaning))

-- ---- scopes

-- outside structs and extensions; initial values are read there too
abbrev pub outside : Site → Scope
outside f = record { path = f.path; context = None; self_type = None; blocks = []; types = []; result = None; emits = true }

-- inside a member of a context, with a type of `self` or none
abbrev pub inside : Site → List ℕ → Option Ty → Scope
inside f context of = record { path = f.path; context = Some context; self_type = of; blocks = []; types = []; result = None; emits = true }

-- ---- functions

abbrev pub params_of : Option (Param × List (Leaf × Param)) → List Param
params_of None = []
params_of (Some (first, more)) = first ∷ map (λ p. p.1) more

-- Parameters in a row: names with written types, which no code puts there.
abbrev pub params_read : List Param → Scope → CheckOf Scope
params_read [] s = sure s
params_read (p ∷ ps) s = do
  of ← tried (type_written s p.type_name.name)
  _ ← tried (not_declared s p.name)
  params_read ps (declaring s p.name.text of false)

abbrev pub result_type : Scope → Option (Leaf × TypeName) → CheckOf Ty
result_type s None = sure ty.Void
result_type s (Some (arrow, t)) = type_written s t.name

-- a body that falls through ends with a return
abbrev pub ended : Bool → List Step → List Step
ended true code = code ++ step.Return ty.Void ∷ []
ended false code = code

abbrev pub missing_return : Bool → Option Ty → Leaf → List Line
missing_return true (Some ty.Void) name = []
missing_return true (Some of) name = line (place_of name) (is.MissingReturn of) ∷ []
missing_return _ _ name = []

abbrev pub consed : {X : Type 0} → X → Option (List X) → Option (List X)
consed x None = None
consed x (Some xs) = Some (x ∷ xs)

abbrev pub all_there : {X : Type 0} → List (Option X) → Option (List X)
all_there [] = Some []
all_there (None ∷ xs) = None
all_there (Some x ∷ xs) = consed x (all_there xs)

-- A function whose locals, result and body have no error. `falls` says whether its body falls through.
abbrev pub function_units : List ℕ → Option Ty → ℕ → Bool → Option (List Ty) → Option Ty → Option (List Step) → List CodeUnit
function_units symbol receiver params falls (Some types) (Some result) (Some code) =
    unit.Function symbol (record { receiver = receiver; params = params; types = types; result = result; code = ended falls code }) ∷ []
function_units symbol receiver params falls _ _ _ = []

-- What a function gives, where its statements have been read.
abbrev pub function_end : Scope → List ℕ → Leaf → ℕ → Bool → Option Ty → Scope × Option (List Step) → CheckOf (List CodeUnit)
function_end s symbol name params falls gives (inner, code) =
    behind (missing_return falls gives name) (sure (function_units symbol s.self_type params falls (all_there inner.types) gives code))

-- a function, before its parameters are read
abbrev pub in_function : Scope → Option Ty → Scope
in_function s gives = record s { result = gives; blocks = [] ∷ [] }

-- a function whose result has a type, or an error
abbrev pub function_giving : Scope → List ℕ → Leaf → List Param → Block → Option Ty → CheckOf (List CodeUnit)
function_giving s symbol name params body gives = do
  front ← params_read params (in_function s gives)
  inside ← in_block (block_statements body) front
  function_end s symbol name (length params) (falls_through (block_statements body)) gives inside

-- A body with parameters and a result, in the scope outside it. The scope of the parameters lies outside the body's.
abbrev pub function_check : Scope → List ℕ → Leaf → List Param → CheckOf Ty → Block → CheckOf (List CodeUnit)
function_check s symbol name params result body = do
  gives ← tried result
  function_giving s symbol name params body gives

-- ---- globals and properties with initial values

abbrev pub unless_circular : {X : Type 0} → Meaning → CheckOf X → CheckOf X
unless_circular means.Circular check = hushed check
unless_circular _ check = check

abbrev pub fitting_value : Scope → Option (Option Ty) → Phrase → CheckOf Typed
fitting_value s wanted value = do
  v ← tried (value.check s)
  fitting value.first wanted v

-- An initial value, which says nothing where its declaration is circular.
abbrev pub value_check : Site → Key → Option (Leaf × TypeName) → Phrase → FileCheck (Option Typed)
value_check f key annotation value = do
  wanted ← used (tried (annotated (outside f) annotation))
  own_meaning key (λ meaning. used (tried (unless_circular meaning (fitting_value (outside f) wanted value))))

abbrev pub global_units : List ℕ → Option Typed → List CodeUnit
global_units symbol None = []
global_units symbol (Some v) = unit.Global symbol v.ty v.code ∷ []

abbrev pub own_code : Option Typed → Option Initial
own_code None = None
own_code (Some v) = Some (initially.Own v.code)

abbrev pub handed_in : Option Ty → Option Initial
handed_in None = None
handed_in (Some of) = Some (initially.Given of)

-- what the initializer does for a stored property
abbrev pub stored_check : Site → Key → StoredValue → FileCheck (Option Initial)
stored_check f key (WithType colon t None) = used (tried (type_written (outside f) t.name)) >>= (λ of. sure (handed_in of))
stored_check f key (WithType colon t (Some (assign, value))) = value_check f key (Some (colon, t)) (expr_phrase value) >>= (λ v. sure (own_code v))
stored_check f key (Inferred assign value) = value_check f key None (expr_phrase value) >>= (λ v. sure (own_code v))

-- ---- declarations

abbrev pub declared : List ℕ → Option Access → Leaf → Declared
declared context access name = record { context = context; name = name.text; private = is_private access }

abbrev pub name_in_keys : Site → Option Access → Leaf → List ℕ
name_in_keys f access name = key_name f.path (is_private access) name.text

abbrev pub global_check : Site → Option Access → Global → UnitCheck
global_check f access d =
    let name = name_in_keys f access d.name in
    noting (standing f (declared [] access d.name) (top_level name) d.name)
    (value_check f (top_level name) d.annotation (expr_phrase d.value) >>= (λ v. sure (global_units name v)))

abbrev pub func_check : Site → Option Access → Func → UnitCheck
func_check f access d =
    let name = name_in_keys f access d.name in
    noting (standing f (declared [] access d.name) (top_level name) d.name)
    (used (function_check (outside f) name d.name (params_of d.params) (result_type (outside f) d.result_type) d.body))

-- An alias. Its type is asked for its own key, and is no use of the file's implementation.
abbrev pub alias_check : Site → Option Access → Alias → UnitCheck
alias_check f access d =
    noting (standing f (declared [] access d.name) (top_level (name_in_keys f access d.name)) d.name)
    (noting (owned (type_named f.path d.type_name.name)) (sure []))

-- a method of a context
abbrev pub method_check : Site → List ℕ → Option Ty → Option Access → Func → UnitCheck
method_check f context of access d =
    let key = member context (name_in_keys f access d.name) in
    let s = inside f context of in
    noting (standing f (declared context access d.name) key d.name) (used (function_check s (member_symbol key) d.name (params_of d.params) (result_type s d.result_type) d.body))

-- a computed property of a context
abbrev pub computed_check : Site → List ℕ → Option Ty → Option Access → Computed → UnitCheck
computed_check f context of access d =
    let key = member context (name_in_keys f access d.name) in
    let s = inside f context of in
    noting (standing f (declared context access d.name) key d.name) (used (function_check s (member_symbol key) d.name [] (type_written s d.type_name.name) d.body))

-- ---- structs

-- What a member of a struct gives: what the initializer does for it, if it is stored, and its code, if it isn't.
pub record MemberCode : Type 0 where
  pub initials : List (Option Initial)
  pub units : List CodeUnit

abbrev pub units_alone : List CodeUnit → MemberCode
units_alone units = record { initials = []; units = units }

abbrev pub stored_member : Site → List ℕ → Option Access → Stored → FileCheck MemberCode
stored_member f context access d =
    let key = member context (name_in_keys f access d.name) in
    noting (standing f (declared context access d.name) key d.name) (stored_check f key d.value >>= (λ initial. sure (record { initials = initial ∷ []; units = [] })))

abbrev pub struct_member_check : Site → List ℕ → Option Access × StructMember → FileCheck MemberCode
struct_member_check f context (access, part.Stored d) = stored_member f context access d
struct_member_check f context (access, part.Computed d) = computed_check f context (Some (ty.Struct context)) access d >>= (λ units. sure (units_alone units))
struct_member_check f context (access, part.Func d) = method_check f context (Some (ty.Struct context)) access d >>= (λ units. sure (units_alone units))

abbrev pub initializer_units : List ℕ → Option (List Initial) → List CodeUnit
initializer_units context None = []
initializer_units context (Some initials) = unit.Initializer context initials ∷ []

-- the initializer of a struct, and then the code of its members
abbrev pub struct_units : List ℕ → List MemberCode → List CodeUnit
struct_units context members = initializer_units context (all_there (flat_map (λ m. m.initials) members)) ++ flat_map (λ m. m.units) members

-- the words of a type, if they are known
abbrev pub words : Ty → CheckOf ℕ
words ty.Int = sure 1
words ty.String = sure 2
words ty.Bool = sure 1
words ty.Void = sure 0
words (ty.Struct context) = Fetch (nominal context) (λ meaning. found (field_words meaning))

abbrev pub property_words : Meaning → CheckOf ℕ
property_words (means.Value mutable of) = words of
property_words _ = unsaid

abbrev pub member_words : Site → List ℕ → Option Access × StructMember → CheckOf ℕ
member_words f context (access, part.Stored d) = Fetch (member context (name_in_keys f access d.name)) property_words
member_words f context _ = sure 0

-- the words of the stored properties of a struct, where each is known
abbrev pub stored_words : Site → List ℕ → List (Option Access × StructMember) → CheckOf ℕ
stored_words f context [] = sure 0
stored_words f context (m ∷ members) = both (member_words f context m) (stored_words f context members) >>= (λ (one, others). sure (one + others))

abbrev pub most_words : ℕ
most_words = 1048576

abbrev pub too_large : Leaf → ℕ → List Line
too_large name words = one_line_if (nat_lt most_words words) (line (place_of name) (is.TooLarge name.text))

-- The size of a struct, which is no use. A struct with several declarations has none.
abbrev pub size_check : Site → List ℕ → Struct → Meaning → UnitCheck
size_check f context d means.Ambiguous = sure []
size_check f context d fields = owned (stored_words f context d.members) >>= (λ words. lines_of (too_large d.name words))

-- A struct. Its stored parts are asked for, since its initializer has its size.
abbrev pub struct_check : Site → Option Access → Struct → UnitCheck
struct_check f access d =
    let context = name_in_keys f access d.name in
    noting (standing f (declared [] access d.name) (top_level context) d.name)
    (used_meaning (nominal context) (λ fields.
    noting (lines_of (circle d.name fields)) (noting (size_check f context d fields) (all (map (struct_member_check f context) d.members) >>= (λ members. sure (struct_units context members))))))

-- ---- extensions

abbrev pub extension_member_check : Site → List ℕ → Option Ty → Option Access × ExtensionMember → UnitCheck
extension_member_check f context of (access, extended.Computed d) = computed_check f context of access d
extension_member_check f context of (access, extended.Func d) = method_check f context of access d

abbrev pub extension_members : Site → List ℕ → Option Ty → Extension → UnitCheck
extension_members f context of d = in_order (map (extension_member_check f context of) d.members)

-- An extension of a struct. One of something else says so, and nothing of its members, which are read all the same.
abbrev pub extension_as : Site → List ℕ → Extension → Meaning → UnitCheck
extension_as f context d (means.Struct other) = noting (used (laid_out (place_of d.name) (ty.Struct context))) (extension_members f context (Some (ty.Struct context)) d)
extension_as f context d _ = noting (lines_of (line (place_of d.name) (is.NotAStruct d.name.text) ∷ [])) (hushed (extension_members f context None d))

-- An extension extends the struct of its name that its file keeps to itself, where there is one, and else the module's.
abbrev pub extension_check : Site → Extension → UnitCheck
extension_check f d =
    let context = key_name f.path (is_among f.own_structs d.name.text) d.name.text in
    used_meaning (top_level context) (λ meaning. extension_as f context d meaning)

abbrev pub decl_check : Site → Decl → UnitCheck
decl_check f (NamedAs access (named.Global d)) = global_check f access d
decl_check f (NamedAs access (named.Func d)) = func_check f access d
decl_check f (NamedAs access (named.Alias d)) = alias_check f access d
decl_check f (NamedAs access (named.Struct d)) = struct_check f access d
decl_check f (Extended d) = extension_check f d

-- ---- files

abbrev pub named_decl : NamedDecl → Leaf
named_decl (named.Global d) = d.name
named_decl (named.Func d) = d.name
named_decl (named.Alias d) = d.name
named_decl (named.Struct d) = d.name

abbrev pub member_declared : List ℕ → List ℕ → Option Access → Declared
member_declared context name access = record { context = context; name = name; private = is_private access }

abbrev pub members_declared : List ℕ → NamedDecl → List Declared
members_declared context (named.Struct d) = map (λ m. member_declared context (struct_member_name m.1) m.0) d.members
members_declared context _ = []

-- the names of a declaration and of its members
abbrev pub names_declared : List ℕ → List (List ℕ) → Decl → List Declared
names_declared path own (NamedAs access d) = declared [] access (named_decl d) ∷ members_declared (key_name path (is_private access) (named_decl d).text) d
names_declared path own (Extended d) = map (λ m. member_declared (key_name path (is_among own d.name.text) d.name.text) (extension_member_name m.1) m.0) d.members

abbrev pub site : FileTree → Site
site file =
    let own = private_structs file.decls in
    record { path = file.path; own_structs = own; names = flat_map (names_declared file.path own) file.decls }

-- How a file is checked: one task, whatever the keys mean.
unfoldable pub file_check : FileTree → UnitCheck
file_check file = in_order (map (decl_check (site file)) file.decls)
