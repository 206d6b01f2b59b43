-- A module of two files, worked: what its keys mean, and how they are printed.
use Rattle.std.specs.Prelude.{◌≡◌, ℕ, true, false, List, [], ◌∷◌, Option, Some, None, codes}
use Rattle.dep_key.specs.declared.key.Key.{Key}
use Rattle.dep_key.specs.KeyBuilders.{top_level, nominal, member, key_name}
use Rattle.swift_ast.specs.Leaves.{Leaf}
use Rattle.swift_ast.specs.declared.tokens.TokenKind.TheVariants.{Identifier}
use Rattle.swift_ast.specs.declared.statements.BindingSpecifier.{BindingSpecifier}
use Rattle.swift_ast.specs.declared.statements.BindingSpecifier.TheVariants.{Let, Var}
use Rattle.swift_ast.specs.declared.statements.TypeName.{TypeName}
use Rattle.swift_ast.specs.declared.declarations.Access.{Access}
use Rattle.swift_ast.specs.declared.declarations.Access.TheVariants.{Private, Public}
use Rattle.swift_ast.specs.declared.declarations.Decl.{Decl}
use Rattle.swift_ast.specs.declared.declarations.Decl.TheVariants.{Named}
use Rattle.swift_ast.specs.declared.declarations.FileTree.{FileTree}
use Rattle.swift_ast.specs.declared.declarations.NamedDecl.TheVariants as named
use Rattle.swift_ast.specs.declared.declarations.StoredValue.TheVariants.{Typed as Annotated}
use Rattle.swift_ast.specs.declared.declarations.StructMember.{StructMember}
use Rattle.swift_ast.specs.declared.declarations.StructMember.TheVariants as stored
use Rattle.type_rules.specs.declared.ty.Ty.TheVariants as ty
use Rattle.type_rules.specs.declared.meaning.Meaning.{Meaning}
use Rattle.type_rules.specs.declared.meaning.Meaning.TheVariants as means
use Rattle.type_infer.specs.Meanings.{meaning_in}
use Rattle.iface_print.specs.Prints.{print_in}
use Rattle.iface_print.specs.Partials.{partial_text}

abbrev pub word : List ℕ → Leaf
word text = record { kind = Identifier; text = text; first_on_line = false; line = 1; column = 1 }

abbrev pub named_type : List ℕ → TypeName
named_type name = record { name = word name }

abbrev pub alias : Option Access → List ℕ → List ℕ → Decl
alias access name of = Named access (named.Alias (record { keyword = word (codes "typealias"); name = word name; assign = word (codes "="); type_name = named_type of }))

abbrev pub stored_property : BindingSpecifier → List ℕ → List ℕ → Option Access × StructMember
stored_property specifier name of = (None, stored.Stored (record { specifier = specifier; name = word name; value = Annotated (word (codes ":")) (named_type of) None }))

abbrev pub struct_of : Option Access → List ℕ → List (Option Access × StructMember) → Decl
struct_of access name members = Named access (named.Struct (record { keyword = word (codes "struct"); name = word name; opening = word (codes "{"); members = members; closing = word (codes "}") }))

abbrev pub let_word : BindingSpecifier
let_word = Let (word (codes "let"))

abbrev pub var_word : BindingSpecifier
var_word = Var (word (codes "var"))

-- two aliases of one another; a struct that holds itself beside what isn't there; a struct with three fields, of which one is a struct that
-- the file keeps to itself
abbrev pub first_file : FileTree
first_file = record {
  path = codes "a.swift";
  decls =
      alias None (codes "A") (codes "B") ∷
      alias None (codes "B") (codes "A") ∷
      struct_of None (codes "S") (stored_property let_word (codes "a") (codes "Missing") ∷ stored_property let_word (codes "s") (codes "S") ∷ []) ∷
      struct_of None (codes "P") (stored_property let_word (codes "x") (codes "Int") ∷ stored_property var_word (codes "n") (codes "String") ∷ stored_property let_word (codes "t") (codes "T") ∷ []) ∷
      struct_of (Some (Private (word (codes "private")))) (codes "T") (stored_property let_word (codes "b") (codes "Bool") ∷ []) ∷
      [];
}

-- a struct of the same name as the private one, seen by all files, and an alias of it; an alias of what has an error
abbrev pub second_file : FileTree
second_file = record {
  path = codes "b.swift";
  decls =
      struct_of (Some (Public (word (codes "public")))) (codes "T") [] ∷
      alias None (codes "U") (codes "T") ∷
      alias None (codes "V") (codes "Missing") ∷
      alias None (codes "W") (codes "V") ∷
      [];
}

abbrev pub worked : List FileTree
worked = first_file ∷ second_file ∷ []

abbrev pub Means : Key → Meaning → Type 0
Means key m = meaning_in worked key ≡ m

abbrev pub Prints : List ℕ → Key → List ℕ → Type 0
Prints path key text = print_in worked path key ≡ Some text

-- aliases of one another are circular, and so is a struct that holds itself, though a field has an error
pub record CirclesAreCircular : Type 0 where
  pub alias_is : Means (top_level (codes "A")) means.Circular
  pub alias_print : Prints (codes "a.swift") (top_level (codes "A")) (codes "internal typealias A circular")
  pub struct_is : Means (top_level (codes "S")) (means.Struct (codes "S"))
  pub missing_is : Means (member (codes "S") (codes "a")) means.Broken
  pub fields_are : Means (nominal (codes "S")) means.Circular
  pub fields_print : Prints (codes "a.swift") (nominal (codes "S")) (codes "internal struct S circular")

-- what rests on what has an error is broken
pub record ErrorsAreBroken : Type 0 where
  pub missing_is : Means (top_level (codes "V")) means.Broken
  pub user_is : Means (top_level (codes "W")) means.Broken
  pub user_print : Prints (codes "b.swift") (top_level (codes "W")) (codes "internal typealias W broken")

-- fields lie one after another, and a name means what its own file keeps to itself
pub record FieldsAreLaidOut : Type 0 where
  pub fields_print : Prints (codes "a.swift") (nominal (codes "P")) (codes "internal struct P 4 | let x: Swift.Int 0 | var n: Swift.String 1 | let t: T@a.swift 3")
  pub own_is : Means (top_level (key_name (codes "a.swift") true (codes "T"))) (means.Struct (codes "T@a.swift"))
  pub own_print : Prints (codes "a.swift") (nominal (codes "T@a.swift")) (codes "private struct T 1 | let b: Swift.Bool 0")
  pub shared_print : Prints (codes "b.swift") (nominal (codes "T")) (codes "public struct T 0")
  pub alias_is : Means (top_level (codes "U")) (means.Alias (ty.Struct (codes "T")))

-- a struct with a field that is kept to the file, a struct that is, and an alias
abbrev pub third_file : FileTree
third_file = record {
  path = codes "c.swift";
  decls =
      struct_of (Some (Public (word (codes "public")))) (codes "P") (
      stored_property let_word (codes "x") (codes "Int") ∷
      (Some (Private (word (codes "private"))), (stored_property var_word (codes "h") (codes "String")).1) ∷
      stored_property var_word (codes "b") (codes "Bool") ∷
      []
      ) ∷
      struct_of (Some (Private (word (codes "private")))) (codes "T") (stored_property let_word (codes "b") (codes "Bool") ∷ []) ∷
      alias None (codes "U") (codes "P") ∷
      [];
}

-- what is kept to the file has no line, and takes its place among the fields all the same
pub record PartialTextsAreForOthers : Type 0 where
  pub text_is : partial_text (meaning_in (third_file ∷ [])) third_file ≡ codes "partial c.swift\npublic struct P 4\ninternal field P:x Int 0\ninternal field P:b Bool 3\ninternal alias U P\n"
