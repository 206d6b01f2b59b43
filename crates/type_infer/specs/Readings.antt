-- What the keys of a declaration are read to mean.
use Rattle.std.specs.Prelude.{ℕ, ◌+◌, Bool, true, false, List, [], ◌∷◌, map, flat_map, Option, Some, None, if◌then◌else◌, nat_le}
use Rattle.std.specs.Option.{option_map}
use Rattle.queries.specs.Queries.{Task, Done, Fetch, ◌>>=◌}
use Rattle.dep_key.specs.declared.key.Key.{Key}
use Rattle.dep_key.specs.declared.kind.Kind.{Kind}
use Rattle.dep_key.specs.declared.kind.Kind.TheVariants.{TopLevel, Nominal, PotentialMember, Member, DynamicLookup, ExternalDepend, SourceFileProvide}
use Rattle.dep_key.specs.KeyBuilders.{nominal, member, key_name}
use Rattle.swift_ast.specs.Leaves.{Leaf}
use Rattle.swift_ast.specs.declared.expressions.Expr.{Expr}
use Rattle.swift_ast.specs.declared.statements.BindingSpecifier.{BindingSpecifier}
use Rattle.swift_ast.specs.declared.statements.BindingSpecifier.TheVariants.{Let, Var}
use Rattle.swift_ast.specs.declared.statements.TypeName.{TypeName}
use Rattle.swift_ast.specs.declared.declarations.Access.{Access}
use Rattle.swift_ast.specs.declared.declarations.Param.{Param}
use Rattle.swift_ast.specs.declared.declarations.StoredValue.{StoredValue}
use Rattle.swift_ast.specs.declared.declarations.StoredValue.TheVariants.{Typed as Annotated, Inferred}
use Rattle.swift_ast.specs.declared.declarations.StructMember.{StructMember}
use Rattle.swift_ast.specs.declared.declarations.StructMember.TheVariants as stored
use Rattle.decl_index.specs.Declarations.{Item, GlobalItem, FuncItem, AliasItem, StructItem, StoredItem, ComputedItem, ExtensionItem, is_private}
use Rattle.type_rules.specs.Sizes.{field_words}
use Rattle.type_rules.specs.declared.ty.Ty.{Ty}
use Rattle.type_rules.specs.declared.ty.Ty.TheVariants as ty
use Rattle.type_rules.specs.declared.meaning.Meaning.{Meaning}
use Rattle.type_rules.specs.declared.meaning.Meaning.TheVariants as means
use Rattle.type_rules.specs.declared.meaning.Parameter.{Parameter}
use Rattle.type_rules.specs.declared.meaning.Field.{Field}
use Rattle.expr_check.specs.declared.scope.Scope.{Scope}
use Rattle.expr_check.specs.Types.{type_named}
use Rattle.expr_check.specs.Phrases.{expr_phrase}

-- A query of a module: a value that rests on what keys mean.
abbrev pub Query : Type 0 → Type 0
Query X = Task Key Meaning X

-- what a key means
abbrev pub meaning_of : Key → Query Meaning
meaning_of key = Fetch key (λ m. Done m)

-- Types.

-- Where an initial value of a global or a stored property stands, as its declaration is read for its type: in its file, in
-- no context, with no locals, and not emitted.
abbrev pub at_file : List ℕ → Scope
at_file path = record { path = path; context = None; self_type = None; blocks = []; types = []; result = None; emits = false }

-- the type that a name means, and none where an error is said of it
unfoldable pub written_type : List ℕ → TypeName → Query (Option Ty)
written_type path type_name = do
  c ← type_named path type_name.name
  Done c.value

-- the type of an initial value
unfoldable pub value_type : List ℕ → Expr → Query (Option Ty)
value_type path value = do
  c ← (expr_phrase value).check (at_file path)
  Done (option_map (λ v. v.ty) c.value)

-- Values.

abbrev pub is_var : BindingSpecifier → Bool
is_var (Let t) = false
is_var (Var t) = true

-- the written type, and where none is written that of the initial value
abbrev pub global_type : List ℕ → Option (Leaf × TypeName) → Expr → Query (Option Ty)
global_type path (Some annotation) value = written_type path annotation.1
global_type path None value = value_type path value

abbrev pub stored_type : List ℕ → StoredValue → Query (Option Ty)
stored_type path (Annotated colon type_name value) = written_type path type_name
stored_type path (Inferred assign value) = value_type path value

abbrev pub value_meaning : Bool → Option Ty → Meaning
value_meaning mutable (Some of) = means.Value mutable of
value_meaning mutable None = means.Broken

abbrev pub alias_meaning : Option Ty → Meaning
alias_meaning (Some of) = means.Alias of
alias_meaning None = means.Broken

-- Functions.

-- `_` where no label is wanted, and the name where no label is written
abbrev pub label_in : Leaf → Option Leaf → List ℕ
label_in name (Some label) = label.text
label_in name None = name.text

abbrev pub label_of : Param → List ℕ
label_of p = label_in p.name p.label

abbrev pub params_in : Option (Param × List (Leaf × Param)) → List Param
params_in None = []
params_in (Some l) = l.0 ∷ map (λ p. p.1) l.1

-- one more, where all are there
abbrev pub cons_known : {X : Type 0} → Option X → Option (List X) → Option (List X)
cons_known (Some x) (Some xs) = Some (x ∷ xs)
cons_known (Some x) None = None
cons_known None xs = None

abbrev pub parameter : List ℕ → Ty → Parameter
parameter label of = record { label = label; ty = of }

-- all parameters, also behind one with an error
abbrev pub params_query : List ℕ → List Param → Query (Option (List Parameter))
params_query path [] = Done (Some [])
params_query path (p ∷ more) = do
  of ← written_type path p.type_name
  rest ← params_query path more
  Done (cons_known (option_map (parameter (label_of p)) of) rest)

-- `Void` where no result is written
abbrev pub result_query : List ℕ → Option (Leaf × TypeName) → Query (Option Ty)
result_query path None = Done (Some ty.Void)
result_query path (Some written) = written_type path written.1

abbrev pub function_meaning : Option (List Parameter) → Option Ty → Meaning
function_meaning (Some params) (Some result) = means.Function params result
function_meaning (Some params) None = means.Broken
function_meaning None result = means.Broken

-- The stored properties of a struct.

-- a stored property: its name in keys, and whether it has an initial value
pub record StoredName : Type 0 where
  pub name : List ℕ
  pub has_value : Bool

abbrev pub is_given : {X : Type 0} → Option X → Bool
is_given None = false
is_given (Some x) = true

abbrev pub has_value : StoredValue → Bool
has_value (Annotated colon type_name value) = is_given value
has_value (Inferred assign value) = true

abbrev pub stored_name : List ℕ → Option Access → List ℕ → StoredValue → StoredName
stored_name path access name value = record { name = key_name path (is_private access) name; has_value = has_value value }

abbrev pub stored_of : List ℕ → Option Access → StructMember → List StoredName
stored_of path access (stored.Stored x) = stored_name path access x.name.text x.value ∷ []
stored_of path access (stored.Computed x) = []
stored_of path access (stored.Func x) = []

abbrev pub stored_in : List ℕ → List (Option Access × StructMember) → List StoredName
stored_in path members = flat_map (λ m. stored_of path m.0 m.1) members

-- a stored property that has a type of known size
pub record Measured : Type 0 where
  pub name : List ℕ
  pub ty : Ty
  pub mutable : Bool
  pub has_value : Bool
  pub words : ℕ

-- the words of a type, which for a struct are asked
unfoldable pub words_query : Ty → Query (Option ℕ)
words_query ty.Int = Done (Some 1)
words_query ty.String = Done (Some 2)
words_query ty.Bool = Done (Some 1)
words_query ty.Void = Done (Some 0)
words_query (ty.Struct context) = Fetch (nominal context) (λ m. Done (field_words m))

abbrev pub measured : StoredName → Bool → Ty → ℕ → Measured
measured s mutable of words = record { name = s.name; ty = of; mutable = mutable; has_value = s.has_value; words = words }

abbrev pub measured_query : StoredName → Meaning → Query (Option Measured)
measured_query s (means.Value mutable of) = do
  words ← words_query of
  Done (option_map (measured s mutable of) words)
measured_query s _ = Done None

-- each stored property, and then the struct that its type is, also behind one with an error
abbrev pub all_measured : List ℕ → List StoredName → Query (Option (List Measured))
all_measured context [] = Done (Some [])
all_measured context (s ∷ more) = do
  m ← meaning_of (member context s.name)
  one ← measured_query s m
  rest ← all_measured context more
  Done (cons_known one rest)

-- the fields one after another, from an offset on
abbrev pub laid_out : ℕ → List Measured → List Field
laid_out offset [] = []
laid_out offset (m ∷ more) =
    record { name = m.name; ty = m.ty; mutable = m.mutable; has_value = m.has_value; offset = offset } ∷ laid_out (offset + m.words) more

abbrev pub words_in : List Measured → ℕ
words_in [] = 0
words_in (m ∷ more) = m.words + words_in more

-- the most words that a struct has
abbrev pub most_words : ℕ
most_words = 1048576

-- a struct of more words than a struct has is broken
abbrev pub fields_meaning : Option (List Measured) → Meaning
fields_meaning None = means.Broken
fields_meaning (Some ms) = if nat_le (words_in ms) most_words then means.Fields (laid_out 0 ms) (words_in ms) else means.Broken

-- What the keys of a struct mean: its nominal key its fields, its name the struct.
abbrev pub struct_query : List ℕ → Kind → Key → List (Option Access × StructMember) → Query Meaning
struct_query path Nominal key members = do
  found ← all_measured key.context (stored_in path members)
  Done (fields_meaning found)
struct_query path TopLevel key members = Done (means.Struct key.name)
struct_query path PotentialMember key members = Done (means.Struct key.name)
struct_query path Member key members = Done (means.Struct key.name)
struct_query path DynamicLookup key members = Done (means.Struct key.name)
struct_query path ExternalDepend key members = Done (means.Struct key.name)
struct_query path SourceFileProvide key members = Done (means.Struct key.name)

-- What a declaration means by its name, or by the stored properties of a struct.
abbrev pub definition_query : List ℕ → Key → Item → Query Meaning
definition_query path key (GlobalItem d) = do
  of ← global_type path d.annotation d.value
  Done (value_meaning (is_var d.specifier) of)
definition_query path key (StoredItem d) = do
  of ← stored_type path d.value
  Done (value_meaning (is_var d.specifier) of)
definition_query path key (ComputedItem d) = do
  of ← written_type path d.type_name
  Done (value_meaning false of)
definition_query path key (FuncItem d) = do
  params ← params_query path (params_in d.params)
  result ← result_query path d.result_type
  Done (function_meaning params result)
definition_query path key (AliasItem d) = do
  of ← written_type path d.type_name
  Done (alias_meaning of)
definition_query path key (StructItem d) = struct_query path key.kind key d.members
definition_query path key (ExtensionItem d) = Done (means.Struct key.context)

-- A potential member means the struct of its context, which nothing reads.
abbrev pub query_by_kind : Kind → List ℕ → Key → Item → Query Meaning
query_by_kind TopLevel path key item = definition_query path key item
query_by_kind Nominal path key item = definition_query path key item
query_by_kind Member path key item = definition_query path key item
query_by_kind PotentialMember path key item = Done (means.Struct key.context)
query_by_kind DynamicLookup path key item = Done (means.Struct key.context)
query_by_kind ExternalDepend path key item = Done (means.Struct key.context)
query_by_kind SourceFileProvide path key item = Done (means.Struct key.context)

-- What a key of a declaration means, where no other declaration has it.
abbrev pub item_query : List ℕ → Key → Item → Query Meaning
item_query path key item = query_by_kind key.kind path key item
