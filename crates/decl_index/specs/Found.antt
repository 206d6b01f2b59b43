-- The declaration of a reference, as it is found at its spot in the tree.
use Rattle.std.specs.Prelude.{ℕ, List, [], ◌∷◌, length, Option, Some, None}
use Rattle.std.specs.List.{slice_get}
use Rattle.std.specs.Option.{option_map, option_and_then, option_copied}
use Rattle.dep_key.specs.declared.key.Key.{Key}
use Rattle.dep_key.specs.declared.kind.Kind.{Kind}
use Rattle.dep_key.specs.declared.kind.Kind.TheVariants.{TopLevel, Nominal, PotentialMember, Member, DynamicLookup, ExternalDepend, SourceFileProvide}
use Rattle.swift_ast.specs.declared.declarations.FileTree.{FileTree}
use Rattle.swift_ast.specs.declared.declarations.Access.{Access}
use Rattle.swift_ast.specs.declared.declarations.Decl.{Decl}
use Rattle.swift_ast.specs.declared.declarations.Decl.TheVariants.{Named, Extension as Extended}
use Rattle.swift_ast.specs.declared.declarations.NamedDecl.{NamedDecl}
use Rattle.swift_ast.specs.declared.declarations.NamedDecl.TheVariants as named
use Rattle.decl_index.specs.declared.found.Declared.{Declared}
use Rattle.decl_index.specs.declared.found.Item.{Item as Shown}
use Rattle.decl_index.specs.declared.found.Item.TheVariants as shown
use Rattle.decl_index.specs.declared.index.DeclRef.{DeclRef}
use Rattle.decl_index.specs.declared.spots.Spot.{Spot}
use Rattle.decl_index.specs.Declarations.{Declaration, Item, GlobalItem, FuncItem, AliasItem, StructItem, StoredItem, ComputedItem, ExtensionItem, declared, declarations_in, struct_member_name, struct_member_item, extension_member_name, extension_member_item}

-- The declaration that a reference stands for: that at its place in the file at its number, and none where there is none.
abbrev pub declaration_at : List FileTree → DeclRef → Option Declaration
declaration_at files at = option_and_then (λ file. slice_get (declarations_in file) at.place) (slice_get files at.file)

abbrev pub name_in : Kind → Key → List ℕ
name_in PotentialMember key = key.context
name_in TopLevel key = key.name
name_in Nominal key = key.name
name_in Member key = key.name
name_in DynamicLookup key = key.name
name_in ExternalDepend key = key.name
name_in SourceFileProvide key = key.name

-- The name by which the first of the keys knows a declaration.
abbrev pub name_by_keys : List Key → List ℕ
name_by_keys [] = []
name_by_keys (key ∷ keys) = name_in key.kind key

abbrev pub shown_item : Shown → Item
shown_item (shown.Global d) = GlobalItem d.now
shown_item (shown.Func d) = FuncItem d.now
shown_item (shown.Alias d) = AliasItem d.now
shown_item (shown.Struct d) = StructItem d.now
shown_item (shown.Stored d) = StoredItem d.now
shown_item (shown.Computed d) = ComputedItem d.now
shown_item (shown.Extension d) = ExtensionItem d.now

-- the declaration that references into a tree show
abbrev pub shown_declaration : Declared → Declaration
shown_declaration d = declared d.path.now (option_copied d.access) d.name.now d.key_name.now d.keys.now (shown_item d.item)

abbrev pub with_keys : List ℕ → List Key → Option Access → List ℕ → Item → Declaration
with_keys path keys access name item = declared path access name (name_by_keys keys) keys item

abbrev pub named_with : List ℕ → List Key → Option Access → NamedDecl → Declaration
named_with path keys access (named.Global d) = with_keys path keys access d.name.text (GlobalItem d)
named_with path keys access (named.Func d) = with_keys path keys access d.name.text (FuncItem d)
named_with path keys access (named.Alias d) = with_keys path keys access d.name.text (AliasItem d)
named_with path keys access (named.Struct d) = with_keys path keys access d.name.text (StructItem d)

abbrev pub own_with : List ℕ → List Key → Decl → Declaration
own_with path keys (Named access d) = named_with path keys access d
own_with path keys (Extended d) = with_keys path keys None d.name.text (ExtensionItem d)

abbrev pub named_member_with : List ℕ → List Key → NamedDecl → ℕ → Option Declaration
named_member_with path keys (named.Struct d) at = option_map (λ m. with_keys path keys m.0 (struct_member_name m.1) (struct_member_item m.1)) (slice_get d.members at)
named_member_with path keys (named.Global d) at = None
named_member_with path keys (named.Func d) at = None
named_member_with path keys (named.Alias d) at = None

abbrev pub member_with : List ℕ → List Key → Decl → ℕ → Option Declaration
member_with path keys (Named access d) at = named_member_with path keys d at
member_with path keys (Extended d) at = option_map (λ m. with_keys path keys m.0 (extension_member_name m.1) (extension_member_item m.1)) (slice_get d.members at)

abbrev pub part_with : List ℕ → List Key → Option ℕ → Decl → Option Declaration
part_with path keys None d = Some (own_with path keys d)
part_with path keys (Some at) d = member_with path keys d at

-- the declaration at a spot, with these keys
abbrev pub at_spot : List ℕ → List Decl → List Key → Spot → Option Declaration
at_spot path decls keys s = option_and_then (part_with path keys s.member) (slice_get decls s.decl)

-- the declaration at a place, by the lists of keys and spots
abbrev pub found_in : List ℕ → List Decl → List (List Key) → List Spot → ℕ → Option Declaration
found_in path decls keys spots place = option_and_then (λ k. option_and_then (at_spot path decls k) (slice_get spots place)) (slice_get keys place)

-- the declaration of a reference, by the lists of keys and spots of each file
abbrev pub found_at : List FileTree → List (List (List Key)) → List (List Spot) → DeclRef → Option Declaration
found_at files keys spots at =
    option_and_then (λ file. option_and_then (λ k. option_and_then (λ s. found_in file.path file.decls k s at.place) (slice_get spots at.file)) (slice_get keys at.file)) (slice_get files at.file)
