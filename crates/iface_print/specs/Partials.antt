-- The partial text of a file, which is its interface: a line for each declaration and member that isn't kept to the file.
use Rattle.std.specs.Prelude.{ℕ, Bool, ◌||◌, ◌==◌, List, [], ◌∷◌, ◌++◌, flat_map, nat_eq, Option, Some, None, codes, decimal, if◌then◌else◌}
use Rattle.std.specs.List.{list_any}
use Rattle.std.specs.Cmp.Lexicographic.{pointwise}
use Rattle.dep_key.specs.declared.key.Key.{Key}
use Rattle.dep_key.specs.declared.kind.Kind.{Kind}
use Rattle.dep_key.specs.declared.kind.Kind.TheVariants.{TopLevel, Nominal, PotentialMember, Member, DynamicLookup, ExternalDepend, SourceFileProvide}
use Rattle.dep_key.specs.KeyBuilders.{nominal}
use Rattle.swift_ast.specs.declared.declarations.FileTree.{FileTree}
use Rattle.decl_index.specs.Declarations.{Item, Declaration, GlobalItem, FuncItem, AliasItem, StructItem, StoredItem, ComputedItem, ExtensionItem, is_private, declarations_in}
use Rattle.type_rules.specs.declared.ty.Ty.{Ty}
use Rattle.type_rules.specs.declared.ty.Ty.TheVariants as ty
use Rattle.type_rules.specs.declared.meaning.Meaning.{Meaning}
use Rattle.type_rules.specs.declared.meaning.Meaning.TheVariants as means
use Rattle.type_rules.specs.declared.meaning.Parameter.{Parameter}
use Rattle.type_rules.specs.declared.meaning.Field.{Field}
use Rattle.type_infer.specs.Readings.{is_var}
use Rattle.type_infer.specs.Plain.{line_feed, blank, opening, closing, comma, colon, at_sign}
use Rattle.iface_print.specs.Prints.{access_text, mutable_text}

-- a type: a struct by its context
abbrev pub type_name : Ty → List ℕ
type_name ty.Int = codes "Int"
type_name ty.String = codes "String"
type_name ty.Bool = codes "Bool"
type_name ty.Void = codes "Void"
type_name (ty.Struct context) = context

-- The context of a struct that its file keeps to itself has `@` and the path behind its name, and no name has `@`.
abbrev pub is_kept_context : List ℕ → Bool
is_kept_context context = list_any (λ byte. byte == at_sign) context

-- What is kept to the file: what is private, and each member of what is private.
abbrev pub is_kept : Declaration → Key → Bool
is_kept d key = is_private d.access || is_kept_context key.context

-- a member with its context before it
abbrev pub name_by_kind : Kind → Key → List ℕ
name_by_kind Member key = key.context ++ (colon ∷ key.name)
name_by_kind TopLevel key = key.name
name_by_kind Nominal key = key.name
name_by_kind PotentialMember key = key.name
name_by_kind DynamicLookup key = key.name
name_by_kind ExternalDepend key = key.name
name_by_kind SourceFileProvide key = key.name

-- who may see a declaration, what it is, and its name
abbrev pub front : Declaration → List ℕ → Key → List ℕ
front d keyword key = access_text d.access ++ (blank ∷ (keyword ++ (blank ∷ name_by_kind key.kind key)))

abbrev pub type_line : Declaration → List ℕ → Key → Ty → List ℕ
type_line d keyword key of = front d keyword key ++ (blank ∷ (type_name of ++ (line_feed ∷ [])))

abbrev pub value_line : Declaration → List ℕ → Key → Meaning → List ℕ
value_line d keyword key (means.Value mutable of) = type_line d keyword key of
value_line d keyword key _ = []

abbrev pub alias_line : Declaration → Key → Meaning → List ℕ
alias_line d key (means.Alias of) = type_line d (codes "alias") key of
alias_line d key _ = []

-- a label and a type
abbrev pub labelled : Parameter → List ℕ
labelled p = p.label ++ (colon ∷ type_name p.ty)

-- with commas between them
abbrev pub all_labelled : List Parameter → List ℕ
all_labelled [] = []
all_labelled (p ∷ more) = labelled p ++ flat_map (λ q. comma ∷ labelled q) more

abbrev pub func_line : Declaration → Key → Meaning → List ℕ
func_line d key (means.Function params result) = front d (codes "func") key ++ (opening ∷ (all_labelled params ++ (closing ∷ (blank ∷ (type_name result ++ (line_feed ∷ []))))))
func_line d key _ = []

abbrev pub struct_line : Declaration → Key → Meaning → List ℕ
struct_line d key (means.Fields fields words) = front d (codes "struct") key ++ (blank ∷ (decimal words ++ (line_feed ∷ [])))
struct_line d key _ = []

-- the first field of a name
abbrev pub field_named : List ℕ → List Field → Option Field
field_named name [] = None
field_named name (f ∷ fields) = if pointwise nat_eq f.name name then Some f else field_named name fields

abbrev pub found_field_line : Declaration → Key → Option Field → List ℕ
found_field_line d key None = []
found_field_line d key (Some f) = front d (codes "field") key ++ (blank ∷ (type_name f.ty ++ (blank ∷ (decimal f.offset ++ (line_feed ∷ [])))))

-- a stored property, of a struct that means its fields
abbrev pub field_line : Declaration → Key → Meaning → List ℕ
field_line d key (means.Fields fields words) = found_field_line d key (field_named key.name fields)
field_line d key _ = []

-- The line of a declaration that has a key. Where its meaning is one of an error there is none.
abbrev pub item_line : (Key → Meaning) → Declaration → Key → Item → List ℕ
item_line meanings d key (GlobalItem x) = value_line d (mutable_text (is_var x.specifier)) key (meanings key)
item_line meanings d key (ComputedItem x) = value_line d (codes "prop") key (meanings key)
item_line meanings d key (FuncItem x) = func_line d key (meanings key)
item_line meanings d key (AliasItem x) = alias_line d key (meanings key)
item_line meanings d key (StructItem x) = struct_line d key (meanings (nominal key.name))
item_line meanings d key (StoredItem x) = field_line d key (meanings (nominal key.context))
item_line meanings d key (ExtensionItem x) = []

-- the line of a declaration, by the first of its keys, which has its name
abbrev pub line_by_keys : (Key → Meaning) → Declaration → List Key → List ℕ
line_by_keys meanings d [] = []
line_by_keys meanings d (key ∷ keys) = if is_kept d key then [] else item_line meanings d key d.item

unfoldable pub partial_line : (Key → Meaning) → Declaration → List ℕ
partial_line meanings d = line_by_keys meanings d d.keys

-- The partial text of a file, where each key means what it is answered.
abbrev pub partial_text : (Key → Meaning) → FileTree → List ℕ
partial_text meanings f = codes "partial " ++ (f.path ++ (line_feed ∷ flat_map (partial_line meanings) (declarations_in f)))
