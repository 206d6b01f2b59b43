-- What a file declares, as sets that answer at once.
use Rattle.std.specs.Prelude.{◌≡◌, ℕ, Bool, List, [], ◌∷◌, map, if◌then◌else◌, Option}
use Rattle.std.specs.List.{list_any}
use Rattle.std.specs.BTreeSet as sets
use Rattle.std.specs.BTreeSet.{BTreeSet}
use Rattle.std.specs.Ordering.{nat_cmp, eq_by_cmp}
use Rattle.std.specs.Cmp.Lexicographic.{slice_cmp}
use Rattle.dep_key.specs.declared.kind.Kind.TheVariants.{Member}
use Rattle.dep_key.specs.declared.kind.Aspect.{Aspect}
use Rattle.dep_key.specs.declared.kind.Aspect.TheVariants.{Interface, Implementation}
use Rattle.dep_key.specs.declared.key.Key.{Key}
use Rattle.dep_key.specs.KeyOrder.{key_order}
use Rattle.dep_key.specs.KeyBuilders.{key_name}
use Rattle.swift_ast.specs.declared.declarations.Access.{Access}
use Rattle.swift_ast.specs.declared.declarations.Decl.{Decl}
use Rattle.swift_ast.specs.declared.declarations.Decl.TheVariants.{Named, Extension as Extended}
use Rattle.swift_ast.specs.declared.declarations.NamedDecl.{NamedDecl}
use Rattle.swift_ast.specs.declared.declarations.NamedDecl.TheVariants as named
use Rattle.swift_ast.specs.declared.declarations.Extension.{Extension}
use Rattle.swift_ast.specs.declared.declarations.ExtensionMember.{ExtensionMember}
use Rattle.swift_ast.specs.declared.declarations.StructMember.{StructMember}
use Rattle.decl_index.specs.Declarations.{is_among, is_private, struct_member_name, extension_member_name}
use Rattle.body_check.specs.Declarations.{Declared, Site, member_declared, named_decl}

abbrev pub visibility : Bool → Aspect
visibility private = if private then Implementation else Interface

-- A name as it is declared, as a key: of the aspect implementation where its file keeps it to itself.
abbrev pub name_key : Declared → Key
name_key d = record { kind = Member; aspect = visibility d.private; context = d.context; name = d.name }

-- the names of members, of an extension and of a struct
abbrev pub struct_member_key : List ℕ → Option Access × StructMember → Key
struct_member_key context m = name_key (member_declared context (struct_member_name m.1) m.0)

abbrev pub extension_member_key : List ℕ → Option Access × ExtensionMember → Key
extension_member_key context m = name_key (member_declared context (extension_member_name m.1) m.0)

abbrev pub extension_keys : List ℕ → Bool → Extension → List Key
extension_keys path is_own d = map (extension_member_key (key_name path is_own d.name.text)) d.members

-- the names of a declaration and of its members
abbrev pub members_keys : List ℕ → NamedDecl → List Key
members_keys context (named.Struct d) = map (struct_member_key context) d.members
members_keys context _ = []

abbrev pub named_keys : List ℕ → Option Access → NamedDecl → List Key
named_keys path access d = name_key (member_declared [] (named_decl d).text access) ∷ members_keys (key_name path (is_private access) (named_decl d).text) d

abbrev pub decl_keys : List ℕ → List (List ℕ) → Decl → List Key
decl_keys path own (Named access d) = named_keys path access d
decl_keys path own (Extended d) = extension_keys path (is_among own d.name.text) d

-- The sets of a site: the structs that its file keeps to itself, and all names that it declares.
pub record IsIndexed (f : Site) (own_structs : BTreeSet (List ℕ)) (names : BTreeSet Key) : Type 0 where
  pub own : (name : List ℕ) → sets.contains (slice_cmp nat_cmp) own_structs name ≡ is_among f.own_structs name
  pub declared : (key : Key) → sets.contains key_order names key ≡ list_any (λ k. eq_by_cmp key_order k key) (map name_key f.names)
