-- The prints of a file's definitions: the resolved text of each, from what its key means.
use Rattle.std.specs.Prelude.{◌≡◌, ℕ, Bool, true, false, List, [], ◌∷◌, ◌++◌, map, filter, flat_map, nat_eq, Option, Some, None, codes, decimal, not, ◌==◌}
use Rattle.std.specs.List.{list_all}
use Rattle.std.specs.Cmp.Lexicographic.{pointwise}
use Rattle.queries.specs.Queries.{Among}
use Rattle.dep_key.specs.declared.key.Key.{Key}
use Rattle.dep_key.specs.declared.kind.Kind.{Kind}
use Rattle.dep_key.specs.declared.kind.Kind.TheVariants.{TopLevel, Nominal, PotentialMember, Member, DynamicLookup, ExternalDepend, SourceFileProvide}
use Rattle.swift_ast.specs.declared.declarations.FileTree.{FileTree}
use Rattle.swift_ast.specs.declared.declarations.Access.{Access}
use Rattle.swift_ast.specs.declared.declarations.Access.TheVariants.{Private, Fileprivate, Internal, Public}
use Rattle.decl_index.specs.Declarations.{Item, Declaration, GlobalItem, FuncItem, AliasItem, StructItem, StoredItem, ComputedItem, ExtensionItem}
use Rattle.type_rules.specs.declared.ty.Ty.{Ty}
use Rattle.type_rules.specs.declared.ty.Ty.TheVariants as ty
use Rattle.type_rules.specs.declared.meaning.Meaning.{Meaning}
use Rattle.type_rules.specs.declared.meaning.Meaning.TheVariants as means
use Rattle.type_rules.specs.declared.meaning.Parameter.{Parameter}
use Rattle.type_rules.specs.declared.meaning.Field.{Field}
use Rattle.type_infer.specs.Readings.{is_var}
use Rattle.type_infer.specs.Meanings.{having, meaning_in}
use Rattle.type_infer.specs.Plain.{line_feed, blank, opening, closing, comma, colon, equals, bar}
use Rattle.type_infer.specs.Sound.{is_asked_kind}

-- who may see a declaration
abbrev pub access_text : Option Access → List ℕ
access_text None = codes "internal"
access_text (Some (Private t)) = codes "private"
access_text (Some (Fileprivate t)) = codes "private"
access_text (Some (Internal t)) = codes "internal"
access_text (Some (Public t)) = codes "public"

abbrev pub mutable_text : Bool → List ℕ
mutable_text true = codes "var"
mutable_text false = codes "let"

-- what is declared
abbrev pub item_text : Item → List ℕ
item_text (GlobalItem d) = mutable_text (is_var d.specifier)
item_text (StoredItem d) = mutable_text (is_var d.specifier)
item_text (ComputedItem d) = codes "prop"
item_text (FuncItem d) = codes "func"
item_text (AliasItem d) = codes "typealias"
item_text (StructItem d) = codes "struct"
item_text (ExtensionItem d) = codes "extension"

-- A type: a struct by its context, a built-in type so that no struct is taken for it.
abbrev pub type_text : Ty → List ℕ
type_text ty.Int = codes "Swift.Int"
type_text ty.String = codes "Swift.String"
type_text ty.Bool = codes "Swift.Bool"
type_text ty.Void = codes "Swift.Void"
type_text (ty.Struct context) = context

-- the parameters that are left, the closing bracket, and what follows it
abbrev pub more_params_text : List Parameter → List ℕ → List ℕ
more_params_text [] after = closing ∷ after
more_params_text (p ∷ ps) after = comma ∷ (p.label ++ (colon ∷ (type_text p.ty ++ more_params_text ps after)))

abbrev pub params_text : List Parameter → List ℕ → List ℕ
params_text [] after = closing ∷ after
params_text (p ∷ ps) after = p.label ++ (colon ∷ (type_text p.ty ++ more_params_text ps after))

-- `=` behind a stored property that has an initial value
abbrev pub value_mark : Bool → List ℕ → List ℕ
value_mark true after = blank ∷ (equals ∷ after)
value_mark false after = after

-- the stored properties of a struct: each its keyword, name, type and offset
abbrev pub fields_text : List Field → List ℕ
fields_text [] = []
fields_text (f ∷ fs) =
    blank ∷ (bar ∷ (blank ∷ (mutable_text f.mutable ++ (blank ∷ (f.name ++ (colon ∷ (blank ∷ (type_text f.ty ++ (blank ∷ (decimal f.offset ++ value_mark f.has_value (fields_text fs)))))))))))

-- What follows the name of a declaration, by what its key means.
abbrev pub meaning_text : Meaning → List ℕ
meaning_text (means.Value mutable of) = colon ∷ (blank ∷ type_text of)
meaning_text (means.Function params result) = opening ∷ params_text params (blank ∷ type_text result)
meaning_text (means.Alias of) = blank ∷ (equals ∷ (blank ∷ type_text of))
meaning_text (means.Struct context) = []
meaning_text (means.Fields fields words) = blank ∷ (decimal words ++ fields_text fields)
meaning_text means.Broken = blank ∷ codes "broken"
meaning_text means.Circular = blank ∷ codes "circular"
meaning_text means.Ambiguous = blank ∷ codes "ambiguous"
meaning_text means.NoProvider = []

abbrev pub declaration_text : Declaration → Meaning → List ℕ
declaration_text d m = access_text d.access ++ (blank ∷ (item_text d.item ++ (blank ∷ (d.name ++ meaning_text m))))

-- what an extension or a struct says of a potential member
abbrev pub potential_text : Declaration → Item → List ℕ
potential_text d (ExtensionItem x) = codes "extension " ++ d.name
potential_text d _ = access_text d.access ++ codes " struct " ++ d.name

abbrev pub text_for_kind : Kind → Declaration → Meaning → List ℕ
text_for_kind PotentialMember d m = potential_text d d.item
text_for_kind TopLevel d m = declaration_text d m
text_for_kind Nominal d m = declaration_text d m
text_for_kind Member d m = declaration_text d m
text_for_kind DynamicLookup d m = potential_text d d.item
text_for_kind ExternalDepend d m = potential_text d d.item
text_for_kind SourceFileProvide d m = potential_text d d.item

-- The print of a declaration under one of its keys, where the key has this meaning.
abbrev pub print_of : Key → Meaning → Declaration → List ℕ
print_of key m d = text_for_kind key.kind d m

-- texts with a line feed between them, and nothing where there are none
abbrev pub lines_of : List (List ℕ) → Option (List ℕ)
lines_of [] = None
lines_of (one ∷ more) = Some (one ++ flat_map (λ text. line_feed ∷ text) more)

abbrev pub is_in : List ℕ → Declaration → Bool
is_in path d = pointwise nat_eq d.path path

-- The print of a key in the file of a path, and nothing where the file has no declaration of the key.
unfoldable pub print_in : List FileTree → List ℕ → Key → Option (List ℕ)
print_in files path key = lines_of (map (print_of key (meaning_in files key)) (filter (is_in path) (having files key)))

-- A text has no line feed.
abbrev pub is_one_line : List ℕ → Bool
is_one_line text = list_all (λ byte. not (byte == line_feed)) text

-- A print fixes the meaning of its key: where declarations of two modules have one key and one print, the key means the same in both.
pub record PrintsFixMeanings (p s : List FileTree) : Type 0 where
  pub at : (key : Key) → is_asked_kind key.kind ≡ true → (d e : Declaration) → Among (having p key) d → Among (having s key) e →
      print_of key (meaning_in p key) d ≡ print_of key (meaning_in s key) e → meaning_in p key ≡ meaning_in s key

-- Each print of a module is one line.
pub record PrintsAreLines (files : List FileTree) : Type 0 where
  pub at : (key : Key) → is_asked_kind key.kind ≡ true → (d : Declaration) → Among (having files key) d → is_one_line (print_of key (meaning_in files key) d) ≡ true
