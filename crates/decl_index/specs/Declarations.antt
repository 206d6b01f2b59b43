-- The declarations of a file, each with its names and its keys.
use Rattle.std.specs.Prelude.{ℕ, Bool, true, false, List, [], ◌∷◌, map, flat_map, nat_eq, Option, Some, None, if◌then◌else◌}
use Rattle.std.specs.List.{list_any}
use Rattle.std.specs.Cmp.Lexicographic.{pointwise}
use Rattle.dep_key.specs.declared.key.Key.{Key}
use Rattle.dep_key.specs.KeyBuilders.{top_level, nominal, potential_member, member, key_name}
use Rattle.swift_ast.specs.declared.declarations.FileTree.{FileTree}
use Rattle.swift_ast.specs.declared.declarations.Access.{Access}
use Rattle.swift_ast.specs.declared.declarations.Access.TheVariants.{Private, Fileprivate, Internal, Public}
use Rattle.swift_ast.specs.declared.declarations.Decl.{Decl}
use Rattle.swift_ast.specs.declared.declarations.Decl.TheVariants.{Named, Extension as Extended}
use Rattle.swift_ast.specs.declared.declarations.Global.{Global}
use Rattle.swift_ast.specs.declared.declarations.Func.{Func}
use Rattle.swift_ast.specs.declared.declarations.Alias.{Alias}
use Rattle.swift_ast.specs.declared.declarations.Struct.{Struct}
use Rattle.swift_ast.specs.declared.declarations.Stored.{Stored}
use Rattle.swift_ast.specs.declared.declarations.Computed.{Computed}
use Rattle.swift_ast.specs.declared.declarations.Extension.{Extension}
use Rattle.swift_ast.specs.declared.declarations.NamedDecl.{NamedDecl}
use Rattle.swift_ast.specs.declared.declarations.NamedDecl.TheVariants as named
use Rattle.swift_ast.specs.declared.declarations.StructMember.{StructMember}
use Rattle.swift_ast.specs.declared.declarations.StructMember.TheVariants as stored
use Rattle.swift_ast.specs.declared.declarations.ExtensionMember.{ExtensionMember}
use Rattle.swift_ast.specs.declared.declarations.ExtensionMember.TheVariants as extended

-- What is declared: the tree of it.
pub data Item : Type 0 where
  GlobalItem : Global → Item
  FuncItem : Func → Item
  AliasItem : Alias → Item
  StructItem : Struct → Item
  StoredItem : Stored → Item
  ComputedItem : Computed → Item
  ExtensionItem : Extension → Item

-- A declaration: the path of its file, its access where one is written, its name as it is written, the name by which it
-- is known in the module (of an extension, that of the struct that it extends), the keys that it provides, and what is
-- declared.
pub record Declaration : Type 0 where
  pub path : List ℕ
  pub access : Option Access
  pub name : List ℕ
  pub key_name : List ℕ
  pub keys : List Key
  pub item : Item

abbrev pub declared : List ℕ → Option Access → List ℕ → List ℕ → List Key → Item → Declaration
declared path access name key_name keys item = record { path = path; access = access; name = name; key_name = key_name; keys = keys; item = item }

-- `private` and `fileprivate` both mean: visible in this file alone.
abbrev pub is_private : Option Access → Bool
is_private None = false
is_private (Some (Private t)) = true
is_private (Some (Fileprivate t)) = true
is_private (Some (Internal t)) = false
is_private (Some (Public t)) = false

-- the keys of a global, a function or an alias
abbrev pub global_keys : List ℕ → List Key
global_keys name = top_level name ∷ []

-- the keys of a struct
abbrev pub struct_keys : List ℕ → List Key
struct_keys name = top_level name ∷ nominal name ∷ potential_member name ∷ []

-- the keys of an extension
abbrev pub extension_keys : List ℕ → List Key
extension_keys context = potential_member context ∷ []

-- the keys of a member of a context
abbrev pub member_keys : List ℕ → List ℕ → List Key
member_keys context name = member context name ∷ []

-- a global, a function or an alias
abbrev pub global_declaration : List ℕ → Option Access → List ℕ → Item → Declaration
global_declaration path access name item = declared path access name (key_name path (is_private access) name) (global_keys (key_name path (is_private access) name)) item

-- a member of a context
abbrev pub member_declaration : List ℕ → List ℕ → Option Access → List ℕ → Item → Declaration
member_declaration path context access name item =
    declared path access name (key_name path (is_private access) name) (member_keys context (key_name path (is_private access) name)) item

abbrev pub struct_member_name : StructMember → List ℕ
struct_member_name (stored.Stored x) = x.name.text
struct_member_name (stored.Computed x) = x.name.text
struct_member_name (stored.Func x) = x.name.text

abbrev pub struct_member_item : StructMember → Item
struct_member_item (stored.Stored x) = StoredItem x
struct_member_item (stored.Computed x) = ComputedItem x
struct_member_item (stored.Func x) = FuncItem x

abbrev pub struct_member_declaration : List ℕ → List ℕ → Option Access × StructMember → Declaration
struct_member_declaration path context m = member_declaration path context m.0 (struct_member_name m.1) (struct_member_item m.1)

abbrev pub extension_member_name : ExtensionMember → List ℕ
extension_member_name (extended.Computed x) = x.name.text
extension_member_name (extended.Func x) = x.name.text

abbrev pub extension_member_item : ExtensionMember → Item
extension_member_item (extended.Computed x) = ComputedItem x
extension_member_item (extended.Func x) = FuncItem x

abbrev pub extension_member_declaration : List ℕ → List ℕ → Option Access × ExtensionMember → Declaration
extension_member_declaration path context m = member_declaration path context m.0 (extension_member_name m.1) (extension_member_item m.1)

-- A struct and its members. Its context is the name by which it is known.
abbrev pub struct_declarations : List ℕ → Option Access → Struct → List Declaration
struct_declarations path access d =
    declared path access d.name.text (key_name path (is_private access) d.name.text) (struct_keys (key_name path (is_private access) d.name.text)) (StructItem d)
    ∷ map (struct_member_declaration path (key_name path (is_private access) d.name.text)) d.members

abbrev pub named_declarations : List ℕ → Option Access → NamedDecl → List Declaration
named_declarations path access (named.Global d) = global_declaration path access d.name.text (GlobalItem d) ∷ []
named_declarations path access (named.Func d) = global_declaration path access d.name.text (FuncItem d) ∷ []
named_declarations path access (named.Alias d) = global_declaration path access d.name.text (AliasItem d) ∷ []
named_declarations path access (named.Struct d) = struct_declarations path access d

-- the name of a struct
abbrev pub struct_name : NamedDecl → List (List ℕ)
struct_name (named.Struct d) = d.name.text ∷ []
struct_name (named.Global d) = []
struct_name (named.Func d) = []
struct_name (named.Alias d) = []

-- the name of a struct that its file alone sees
abbrev pub private_struct : Decl → List (List ℕ)
private_struct (Named access d) = if is_private access then struct_name d else []
private_struct (Extended d) = []

abbrev pub private_structs : List Decl → List (List ℕ)
private_structs = flat_map private_struct

abbrev pub is_among : List (List ℕ) → List ℕ → Bool
is_among names name = list_any (λ one. pointwise nat_eq one name) names

-- An extension of a struct that is private or not, and its members.
abbrev pub extension_declarations : List ℕ → Bool → Extension → List Declaration
extension_declarations path is_own d =
    declared path None d.name.text (key_name path is_own d.name.text) (extension_keys (key_name path is_own d.name.text)) (ExtensionItem d)
    ∷ map (extension_member_declaration path (key_name path is_own d.name.text)) d.members

-- A declaration and its members. An extension extends the struct of its name that its own file keeps to itself, where
-- `own` has one, and else the module's struct.
abbrev pub decl_declarations : List ℕ → List (List ℕ) → Decl → List Declaration
decl_declarations path own (Named access d) = named_declarations path access d
decl_declarations path own (Extended d) = extension_declarations path (is_among own d.name.text) d

-- The declarations of a file in the order of its text, where a struct and an extension are followed by their members.
abbrev pub declarations_in : FileTree → List Declaration
declarations_in file = flat_map (decl_declarations file.path (private_structs file.decls)) file.decls

-- the keys of each declaration
abbrev pub keys_of : List Declaration → List (List Key)
keys_of declarations = map (λ d. d.keys) declarations

-- The keys of each declaration of a file.
abbrev pub file_keys : FileTree → List (List Key)
file_keys file = keys_of (declarations_in file)
