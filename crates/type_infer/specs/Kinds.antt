-- What the keys of a declaration can mean.
use Rattle.std.specs.Prelude.{◌≡◌, ℕ, ◌≤◌, Bool, false, List, Option, Some, None}
use Rattle.std.specs.List.{AllByRecursion}
use Rattle.queries.specs.Queries.{Done, Fetch}
use Rattle.dep_key.specs.declared.key.Key.{Key}
use Rattle.dep_key.specs.declared.kind.Kind.{Kind}
use Rattle.dep_key.specs.declared.kind.Kind.TheVariants.{TopLevel, Nominal, PotentialMember, Member, DynamicLookup, ExternalDepend, SourceFileProvide}
use Rattle.decl_index.specs.Declarations.{Item, GlobalItem, FuncItem, AliasItem, StructItem, StoredItem, ComputedItem, ExtensionItem}
use Rattle.type_rules.specs.declared.meaning.Meaning.{Meaning}
use Rattle.type_rules.specs.declared.meaning.Meaning.TheVariants as means
use Rattle.type_infer.specs.Readings.{Query, is_var, most_words}

-- Whatever the answers, the query ends with such a value.
abbrev pub Ends : {X : Type 0} → (X → Type 0) → Query X → Type 0
Ends P (Done x) = P x
Ends P (Fetch k g) = (a : Meaning) → Ends P (g a)

abbrev pub IsValue : Bool → Meaning → Type 0
IsValue mutable (means.Value m of) = m ≡ mutable
IsValue mutable means.Broken = Unit {0}
IsValue mutable _ = ⊥

abbrev pub IsFunction : Meaning → Type 0
IsFunction (means.Function params result) = Unit {0}
IsFunction means.Broken = Unit {0}
IsFunction _ = ⊥

abbrev pub IsAlias : Meaning → Type 0
IsAlias (means.Alias of) = Unit {0}
IsAlias means.Broken = Unit {0}
IsAlias _ = ⊥

-- the fields of a struct that isn't too large
abbrev pub IsFields : Meaning → Type 0
IsFields (means.Fields fields words) = (words ≤ most_words) × AllByRecursion (λ f. f.offset ≤ most_words) fields
IsFields means.Broken = Unit {0}
IsFields _ = ⊥

abbrev pub IsStruct : List ℕ → Meaning → Type 0
IsStruct context (means.Struct c) = c ≡ context
IsStruct context _ = ⊥

abbrev pub StructMeans : Kind → Key → Meaning → Type 0
StructMeans Nominal key m = IsFields m
StructMeans TopLevel key m = IsStruct key.name m
StructMeans PotentialMember key m = IsStruct key.name m
StructMeans Member key m = IsStruct key.name m
StructMeans DynamicLookup key m = IsStruct key.name m
StructMeans ExternalDepend key m = IsStruct key.name m
StructMeans SourceFileProvide key m = IsStruct key.name m

abbrev pub DefinitionMeans : Key → Item → Meaning → Type 0
DefinitionMeans key (GlobalItem d) m = IsValue (is_var d.specifier) m
DefinitionMeans key (StoredItem d) m = IsValue (is_var d.specifier) m
DefinitionMeans key (ComputedItem d) m = IsValue false m
DefinitionMeans key (FuncItem d) m = IsFunction m
DefinitionMeans key (AliasItem d) m = IsAlias m
DefinitionMeans key (StructItem d) m = StructMeans key.kind key m
DefinitionMeans key (ExtensionItem d) m = IsStruct key.context m

abbrev pub MeansByKind : Kind → Key → Item → Meaning → Type 0
MeansByKind TopLevel key item m = DefinitionMeans key item m
MeansByKind Nominal key item m = DefinitionMeans key item m
MeansByKind Member key item m = DefinitionMeans key item m
MeansByKind PotentialMember key item m = IsStruct key.context m
MeansByKind DynamicLookup key item m = IsStruct key.context m
MeansByKind ExternalDepend key item m = IsStruct key.context m
MeansByKind SourceFileProvide key item m = IsStruct key.context m

-- A key of a declaration that alone has it means this, or has no end.
abbrev pub CanMean : Key → Item → Meaning → Type 0
CanMean key item m = MeansByKind key.kind key item m

-- A key of a declaration means this, where other declarations may have it too.
abbrev pub MayMean : Key → Item → Meaning → Type 0
MayMean key item means.Ambiguous = Unit {0}
MayMean key item means.Circular = Unit {0}
MayMean key item m = CanMean key item m

-- an answer that is known: Circular is none
abbrev pub known_answer : Meaning → Option Meaning
known_answer means.Circular = None
known_answer m = Some m
