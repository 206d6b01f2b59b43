-- The rules of declarations, and the forms of their trees; the last is that of a file.
use Rattle.std.specs.Prelude.{Bool, true, false, cond, List, Option, Some, None}
use Rattle.grammar.specs.Forms.{Form, token, both, perhaps, many, chain, lines, beginning}
use Rattle.grammar.specs.Shows.{reading, seen, through}
use Rattle.swift_ast.specs.declared.terminals.Terminal.TheVariants as T
use Rattle.swift_ast.specs.declared.expressions.Expr.{Expr}
use Rattle.swift_ast.specs.declared.statements.BindingSpecifier.{BindingSpecifier}
use Rattle.swift_ast.specs.declared.statements.BindingSpecifier.TheVariants as specifier
use Rattle.swift_ast.specs.declared.statements.TypeName.{TypeName}
use Rattle.swift_ast.specs.declared.statements.Block.{Block}
use Rattle.swift_ast.specs.declared.declarations.FileTree.{FileTree}
use Rattle.swift_ast.specs.declared.declarations.Decl.{Decl}
use Rattle.swift_ast.specs.declared.declarations.Decl.TheVariants as decl
use Rattle.swift_ast.specs.declared.declarations.NamedDecl.{NamedDecl}
use Rattle.swift_ast.specs.declared.declarations.NamedDecl.TheVariants as named
use Rattle.swift_ast.specs.declared.declarations.Access.{Access}
use Rattle.swift_ast.specs.declared.declarations.Access.TheVariants.{Private, Fileprivate, Internal, Public}
use Rattle.swift_ast.specs.declared.declarations.Global.{Global}
use Rattle.swift_ast.specs.declared.declarations.Func.{Func}
use Rattle.swift_ast.specs.declared.declarations.Param.{Param}
use Rattle.swift_ast.specs.declared.declarations.Struct.{Struct}
use Rattle.swift_ast.specs.declared.declarations.StructMember.{StructMember}
use Rattle.swift_ast.specs.declared.declarations.StructMember.TheVariants as member
use Rattle.swift_ast.specs.declared.declarations.Stored.{Stored}
use Rattle.swift_ast.specs.declared.declarations.StoredValue.{StoredValue}
use Rattle.swift_ast.specs.declared.declarations.StoredValue.TheVariants.{Typed, Inferred}
use Rattle.swift_ast.specs.declared.declarations.Computed.{Computed}
use Rattle.swift_ast.specs.declared.declarations.Extension.{Extension}
use Rattle.swift_ast.specs.declared.declarations.ExtensionMember.{ExtensionMember}
use Rattle.swift_ast.specs.declared.declarations.ExtensionMember.TheVariants as extended
use Rattle.swift_ast.specs.declared.declarations.Alias.{Alias}
use Rattle.swift_ast.specs.Leaves.{Leaf}
use Rattle.swift_ast.specs.Tests.{on, is, or, is_access, is_label, begins_next_decl, begins_struct_member, begins_extension_member, on_new_line}
use Rattle.swift_ast.specs.Expressions.{word, R, expr_form}
use Rattle.swift_ast.specs.Statements.{type_form, specifier_form, binding_rule, block_form}

-- Who may see a declaration.
abbrev pub access_reading : Access → R
access_reading (Private t) = reading (word T.Private) t
access_reading (Fileprivate t) = reading (word T.Fileprivate) t
access_reading (Internal t) = reading (word T.Internal) t
access_reading (Public t) = reading (word T.Public) t

abbrev pub access_form : Form Leaf Access
access_form = seen access_reading

abbrev pub global_form : Form Leaf Global
global_form = through (λ g. (g.specifier, (g.name, (g.annotation, (g.assign, g.value))))) binding_rule

-- A label or `_` or neither, a name and a type.
abbrev pub param_rule : Form Leaf (Option Leaf × (Leaf × (Leaf × TypeName)))
param_rule = both (perhaps (on is_label) (token (on is_label))) (both (word T.Identifier) (both (word T.Colon) type_form))

abbrev pub param_form : Form Leaf Param
param_form = through (λ p. (p.label, (p.name, (p.colon, p.type_name)))) param_rule

-- Parameters with commas between them, or none.
abbrev pub params_rule : Form Leaf (Option (Param × List (Leaf × Param)))
params_rule = perhaps (on is_label) (chain (on (is T.Comma)) (word T.Comma) param_form)

-- An arrow and the type of the result, or nothing.
abbrev pub result_rule : Form Leaf (Option (Leaf × TypeName))
result_rule = perhaps (on (is T.Arrow)) (both (word T.Arrow) type_form)

abbrev pub func_rule : Form Leaf (Leaf × (Leaf × (Leaf × (Option (Param × List (Leaf × Param)) × (Leaf × (Option (Leaf × TypeName) × Block))))))
func_rule = both (word T.Func) (both (word T.Identifier) (both (word T.LeftParenthesis) (both params_rule (both (word T.RightParenthesis) (both result_rule block_form)))))

abbrev pub func_form : Form Leaf Func
func_form = through (λ f. (f.keyword, (f.name, (f.opening, (f.params, (f.closing, (f.result_type, f.body))))))) func_rule

-- An initial value, or nothing.
abbrev pub initial_rule : Form Leaf (Option (Leaf × Expr))
initial_rule = perhaps (on (is T.Assign)) (both (word T.Assign) expr_form)

-- A type, and an initial value or none.
abbrev pub typed_rule : Form Leaf (Leaf × (TypeName × Option (Leaf × Expr)))
typed_rule = both (word T.Colon) (both type_form initial_rule)

-- An initial value alone.
abbrev pub inferred_rule : Form Leaf (Leaf × Expr)
inferred_rule = both (word T.Assign) expr_form

abbrev pub stored_value_reading : StoredValue → R
stored_value_reading (Typed colon type_name value) = reading typed_rule (colon, (type_name, value))
stored_value_reading (Inferred assign value) = reading inferred_rule (assign, value)

abbrev pub stored_value_form : Form Leaf StoredValue
stored_value_form = seen stored_value_reading

abbrev pub stored_rule : Form Leaf (BindingSpecifier × (Leaf × StoredValue))
stored_rule = both specifier_form (both (word T.Identifier) stored_value_form)

abbrev pub stored_form : Form Leaf Stored
stored_form = through (λ s. (s.specifier, (s.name, s.value))) stored_rule

abbrev pub computed_rule : Form Leaf (Leaf × (Leaf × (Leaf × (TypeName × Block))))
computed_rule = both (word T.Var) (both (word T.Identifier) (both (word T.Colon) (both type_form block_form)))

abbrev pub computed_form : Form Leaf Computed
computed_form = through (λ c. (c.keyword, (c.name, (c.colon, (c.type_name, c.body))))) computed_rule

-- A stored property with a written type alone is the beginning of a computed one, where it is a `var`.
abbrev pub begins_computed : BindingSpecifier → StoredValue → Bool
begins_computed (specifier.Var t) (Typed colon type_name None) = true
begins_computed (specifier.Var t) (Typed colon type_name (Some value)) = false
begins_computed (specifier.Var t) (Inferred assign value) = false
begins_computed (specifier.Let t) value = false

abbrev pub stored_member_form : Form Leaf Stored
stored_member_form = record {
  tokens = stored_form.tokens;
  is_well_formed = stored_form.is_well_formed;
  continues = λ s. cond (begins_computed s.specifier s.value) (on (or (is T.Assign) (is T.LeftBrace))) (stored_form.continues s);
}

abbrev pub struct_member_reading : StructMember → R
struct_member_reading (member.Stored x) = reading stored_member_form x
struct_member_reading (member.Computed x) = reading computed_form x
struct_member_reading (member.Func x) = reading func_form x

abbrev pub struct_member_form : Form Leaf StructMember
struct_member_form = seen struct_member_reading

-- A member may have its access before it.
abbrev pub with_access : {X : Type 0} → Form Leaf X → Form Leaf (Option Access × X)
with_access f = both (perhaps (on is_access) access_form) f

abbrev pub struct_rule : Form Leaf (Leaf × (Leaf × (Leaf × (List (Option Access × StructMember) × Leaf))))
struct_rule = both (word T.Struct) (both (word T.Identifier) (both (word T.LeftBrace)
    (both (lines (on begins_struct_member) (on (on_new_line begins_struct_member)) (with_access struct_member_form)) (word T.RightBrace))))

abbrev pub struct_form : Form Leaf Struct
struct_form = through (λ s. (s.keyword, (s.name, (s.opening, (s.members, s.closing))))) struct_rule

abbrev pub extension_member_reading : ExtensionMember → R
extension_member_reading (extended.Computed x) = reading computed_form x
extension_member_reading (extended.Func x) = reading func_form x

abbrev pub extension_member_form : Form Leaf ExtensionMember
extension_member_form = seen extension_member_reading

abbrev pub extension_rule : Form Leaf (Leaf × (Leaf × (Leaf × (List (Option Access × ExtensionMember) × Leaf))))
extension_rule = both (word T.Extension) (both (word T.Identifier) (both (word T.LeftBrace)
    (both (lines (on begins_extension_member) (on (on_new_line begins_extension_member)) (with_access extension_member_form)) (word T.RightBrace))))

abbrev pub extension_form : Form Leaf Extension
extension_form = through (λ e. (e.keyword, (e.name, (e.opening, (e.members, e.closing))))) extension_rule

abbrev pub alias_rule : Form Leaf (Leaf × (Leaf × (Leaf × TypeName)))
alias_rule = both (word T.Typealias) (both (word T.Identifier) (both (word T.Assign) type_form))

abbrev pub alias_form : Form Leaf Alias
alias_form = through (λ a. (a.keyword, (a.name, (a.assign, a.type_name)))) alias_rule

abbrev pub named_reading : NamedDecl → R
named_reading (named.Global x) = reading global_form x
named_reading (named.Func x) = reading func_form x
named_reading (named.Struct x) = reading struct_form x
named_reading (named.Alias x) = reading alias_form x

abbrev pub named_form : Form Leaf NamedDecl
named_form = seen named_reading

abbrev pub decl_reading : Decl → R
decl_reading (decl.Named access x) = reading (with_access named_form) (access, x)
decl_reading (decl.Extension x) = reading extension_form x

abbrev pub decl_form : Form Leaf Decl
decl_form = seen decl_reading

-- Declarations, each of which is first on its line.
abbrev pub decls_form : Form Leaf (List Decl)
decls_form = many (on begins_next_decl) (beginning (on begins_next_decl) decl_form)

abbrev pub file_form : Form Leaf FileTree
file_form = through (λ f. f.decls) decls_form
