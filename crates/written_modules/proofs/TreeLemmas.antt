-- The names and the labels of trees whose tokens are good.
use Rattle.std.proofs.Common.{◌≡◌, ℕ, Bool, true, List, [], ◌∷◌, ◌++◌, map, Option, Some, None, subst, inl, inr}
use Rattle.std.specs.Prelude.{◌&&◌}
use Rattle.std.specs.List.{AllByRecursion}
use Rattle.std.proofs.lemmas.Bool.{and_parts}
use Rattle.queries.specs.Queries.{Among}
use Rattle.grammar.specs.Forms.{Form, token, both, beginning, in_row, begins_by, all_well_formed, perhaps_tokens, perhaps_well_formed, lines_well_formed}
use Rattle.swift_ast.specs.declared.terminals.Terminal.TheVariants as T
use Rattle.swift_ast.specs.declared.declarations.FileTree.{FileTree}
use Rattle.swift_ast.specs.declared.declarations.Access.{Access}
use Rattle.swift_ast.specs.declared.declarations.Decl.{Decl}
use Rattle.swift_ast.specs.declared.declarations.Decl.TheVariants.{Named, Extension as Extended}
use Rattle.swift_ast.specs.declared.declarations.NamedDecl.{NamedDecl}
use Rattle.swift_ast.specs.declared.declarations.NamedDecl.TheVariants as named
use Rattle.swift_ast.specs.declared.declarations.Func.{Func}
use Rattle.swift_ast.specs.declared.declarations.Param.{Param}
use Rattle.swift_ast.specs.declared.declarations.StructMember.{StructMember}
use Rattle.swift_ast.specs.declared.declarations.StructMember.TheVariants as member
use Rattle.swift_ast.specs.declared.declarations.ExtensionMember.{ExtensionMember}
use Rattle.swift_ast.specs.declared.declarations.ExtensionMember.TheVariants as extended
use Rattle.swift_ast.specs.Leaves.{Leaf}
use Rattle.swift_ast.specs.Tests.{on, on_new_line, is, is_label, begins_next_decl, begins_struct_member, begins_extension_member}
use Rattle.swift_ast.specs.Expressions.{word}
use Rattle.swift_ast.specs.Statements.{type_form, specifier_form}
use Rattle.swift_ast.specs.Declarations.{access_form, stored_value_form, param_form, params_rule, func_form, struct_member_form, extension_member_form, with_access, named_form, decl_form, decls_form}
use Rattle.dep_key.specs.KeyBuilders.{key_name}
use Rattle.decl_index.specs.Declarations.{Item, FuncItem, Declaration, decl_declarations, named_declarations, struct_member_declaration, extension_member_declaration, struct_member_name, struct_member_item, extension_member_name, extension_member_item, private_structs, is_private, is_among}
use Rattle.type_infer.specs.Readings.{label_in, label_of, params_in}
use Rattle.type_infer.specs.Plain.{is_word, is_name, AreLabels, IsWritten}
use Rattle.type_infer.proofs.ListFacts.{among-flat, among-map}
use Rattle.written_modules.specs.Written.{IsWrittenTree, WrittenTreesAreModules}
use Rattle.written_modules.proofs.WordLemmas.{name-word, path-word}
use Rattle.written_modules.proofs.LeafLemmas.{Good}

abbrev pub AreGood : List Leaf → Type 0
AreGood = AllByRecursion Good

good-left : (ts us : List Leaf) → AreGood (ts ++ us) → AreGood ts
good-left [] us h = tt
good-left (t ∷ ts) us h = (h.0, good-left ts us h.1)

good-right : (ts us : List Leaf) → AreGood (ts ++ us) → AreGood us
good-right [] us h = h
good-right (t ∷ ts) us h = good-right ts us h.1

-- each of trees in a row has good tokens, and is well-formed
row-reads : {X : Type 0} (f g : Form Leaf X) (xs : List X) → AreGood (in_row f xs) → all_well_formed g xs ≡ true → (x : X) → Among xs x → AreGood (f.tokens x) × (g.is_well_formed x ≡ true)
row-reads f g [] h w x m = absurd m
row-reads f g (y ∷ ys) h w x m =
    let parts = and_parts (g.is_well_formed y) (all_well_formed g ys) w in
    elim m [
      | inl e ↦ subst (λ z. AreGood (f.tokens z) × (g.is_well_formed z ≡ true)) e (good-left (f.tokens y) (in_row f ys) h, parts.0)
      | inr n ↦ row-reads f g ys (good-right (f.tokens y) (in_row f ys) h) parts.1 x n
    ]

lines-read : {X : Type 0} (test : Leaf → Bool) (f : Form Leaf X) (xs : List X) → AreGood (in_row f xs) → lines_well_formed test f xs ≡ true → (x : X) → Among xs x → AreGood (f.tokens x) × (f.is_well_formed x ≡ true)
lines-read test f [] h w x m = absurd m
lines-read {X} test f (y ∷ ys) h w x m =
    let parts = and_parts (f.is_well_formed y) (all_well_formed (beginning test f) ys) w in
    elim m [
      | inl e ↦ subst (λ z. AreGood (f.tokens z) × (f.is_well_formed z ≡ true)) e (good-left (f.tokens y) (in_row f ys) h, parts.0)
      | inr n ↦ (let r : AreGood (f.tokens x) × ((beginning test f).is_well_formed x ≡ true) = row-reads f (beginning test f) ys (good-right (f.tokens y) (in_row f ys) h) parts.1 x n in
          (r.0, (and_parts (f.is_well_formed x) (begins_by test (f.tokens x)) r.1).0))
    ]

-- Functions.

abbrev pub IsLabelled : Param → Type 0
IsLabelled p = is_word (label_of p) ≡ true

-- a label is a word, and so is the name in its place
label-word : (name : Leaf) (label : Option Leaf) (ts : List Leaf) (more : Bool) → AreGood (perhaps_tokens (token (on is_label)) label ++ (name ∷ ts)) →
    (perhaps_well_formed (token (on is_label)) label && (on (is T.Identifier) name && more)) ≡ true → is_word (label_in name label) ≡ true
label-word name None ts more h w = name-word name.text (h.0.name (and_parts (on (is T.Identifier) name) more w).0)
label-word name (Some label) ts more h w = h.0.label (and_parts (on is_label label) (on (is T.Identifier) name && more) w).0

param-word : (p : Param) → AreGood (param_form.tokens p) → param_form.is_well_formed p ≡ true → IsLabelled p
param-word p h w = label-word p.name p.label (p.colon ∷ type_form.tokens p.type_name) (on (is T.Colon) p.colon && type_form.is_well_formed p.type_name) h w

more-words : (ps : List (Leaf × Param)) → AreGood (in_row (both (word T.Comma) param_form) ps) → all_well_formed (both (word T.Comma) param_form) ps ≡ true → AllByRecursion IsLabelled (map (λ p. p.1) ps)
more-words [] h w = tt
more-words (p ∷ ps) h w =
    let parts = and_parts (on (is T.Comma) p.0 && param_form.is_well_formed p.1) (all_well_formed (both (word T.Comma) param_form) ps) w in (
      param-word p.1 (good-left (param_form.tokens p.1) (in_row (both (word T.Comma) param_form) ps) h.1) (and_parts (on (is T.Comma) p.0) (param_form.is_well_formed p.1) parts.0).1,
      more-words ps (good-right (param_form.tokens p.1) (in_row (both (word T.Comma) param_form) ps) h.1) parts.1,
    )

params-words : (ps : Option (Param × List (Leaf × Param))) → AreGood (params_rule.tokens ps) → params_rule.is_well_formed ps ≡ true → AllByRecursion IsLabelled (params_in ps)
params-words None h w = tt
params-words (Some l) h w =
    let parts = and_parts (param_form.is_well_formed l.0) (all_well_formed (both (word T.Comma) param_form) l.1) w in (
      param-word l.0 (good-left (param_form.tokens l.0) (in_row (both (word T.Comma) param_form) l.1) h) parts.0,
      more-words l.1 (good-right (param_form.tokens l.0) (in_row (both (word T.Comma) param_form) l.1) h) parts.1,
    )

-- the name behind a keyword is an identifier
second : (a b c : Bool) → (a && (b && c)) ≡ true → b ≡ true
second a b c w = (and_parts b c (and_parts a (b && c) w).1).0

-- A declaration's own name is a name, and its labels are words.
abbrev pub AreNames : List ℕ → Item → Type 0
AreNames name item = (is_name name ≡ true) × AreLabels item

func-names : (f : Func) → AreGood (func_form.tokens f) → func_form.is_well_formed f ≡ true → AreNames f.name.text (FuncItem f)
func-names f h w =
    let name = and_parts (on (is T.Identifier) f.name) _ (and_parts (on (is T.Func) f.keyword) _ w).1 in
    let opened = and_parts (on (is T.LeftParenthesis) f.opening) _ name.1 in
    (h.1.0.name name.0, params-words f.params (good-left (params_rule.tokens f.params) _ h.1.1.1) (and_parts (params_rule.is_well_formed f.params) _ opened.1).0)

struct-member-names : (x : StructMember) → AreGood (struct_member_form.tokens x) → struct_member_form.is_well_formed x ≡ true → AreNames (struct_member_name x) (struct_member_item x)
struct-member-names (member.Stored x) h w =
    let name = (and_parts (specifier_form.is_well_formed x.specifier) _ w).1 in
    let good : AreGood (x.name ∷ stored_value_form.tokens x.value) = good-right (specifier_form.tokens x.specifier) (x.name ∷ stored_value_form.tokens x.value) h in
    (good.0.name (and_parts (on (is T.Identifier) x.name) _ name).0, tt)
struct-member-names (member.Computed x) h w = (h.1.0.name (second (on (is T.Var) x.keyword) (on (is T.Identifier) x.name) _ w), tt)
struct-member-names (member.Func x) h w = func-names x h w

extension-member-names : (x : ExtensionMember) → AreGood (extension_member_form.tokens x) → extension_member_form.is_well_formed x ≡ true → AreNames (extension_member_name x) (extension_member_item x)
extension-member-names (extended.Computed x) h w = (h.1.0.name (second (on (is T.Var) x.keyword) (on (is T.Identifier) x.name) _ w), tt)
extension-member-names (extended.Func x) h w = func-names x h w

-- what stands behind its access
behind-access : {X : Type 0} (f : Form Leaf X) (access : Option Access) (x : X) → AreGood ((with_access f).tokens (access, x)) → (with_access f).is_well_formed (access, x) ≡ true → AreGood (f.tokens x) × (f.is_well_formed x ≡ true)
behind-access f access x h w =
    (good-right (perhaps_tokens access_form access) (f.tokens x) h, (and_parts (perhaps_well_formed access_form access) (f.is_well_formed x) w).1)

written : (d : Declaration) → AreNames d.name d.item → IsWritten d
written d h = record { name = h.0; labels = h.1 }

struct-members-written : (path context : List ℕ) (ms : List (Option Access × StructMember)) → AreGood (in_row (with_access struct_member_form) ms) →
    lines_well_formed (on (on_new_line begins_struct_member)) (with_access struct_member_form) ms ≡ true → (d : Declaration) → Among (map (struct_member_declaration path context) ms) d → IsWritten d
struct-members-written path context ms h w d m =
    let r = among-map (struct_member_declaration path context) ms d m in
    let read = lines-read (on (on_new_line begins_struct_member)) (with_access struct_member_form) ms h w r.0 r.1 in
    let own = behind-access struct_member_form r.0.0 r.0.1 read.0 read.1 in
    subst IsWritten r.2 (written (struct_member_declaration path context r.0) (struct-member-names r.0.1 own.0 own.1))

extension-members-written : (path context : List ℕ) (ms : List (Option Access × ExtensionMember)) → AreGood (in_row (with_access extension_member_form) ms) →
    lines_well_formed (on (on_new_line begins_extension_member)) (with_access extension_member_form) ms ≡ true → (d : Declaration) → Among (map (extension_member_declaration path context) ms) d → IsWritten d
extension-members-written path context ms h w d m =
    let r = among-map (extension_member_declaration path context) ms d m in
    let read = lines-read (on (on_new_line begins_extension_member)) (with_access extension_member_form) ms h w r.0 r.1 in
    let own = behind-access extension_member_form r.0.0 r.0.1 read.0 read.1 in
    subst IsWritten r.2 (written (extension_member_declaration path context r.0) (extension-member-names r.0.1 own.0 own.1))

-- the members between the braces behind a keyword and a name
braced : {X : Type 0} (test : Leaf → Bool) (f : Form Leaf X) (keyword name opening closing : Leaf) (xs : List X) (is_keyword is_named is_opening is_closing : Bool) →
    AreGood (keyword ∷ name ∷ opening ∷ (in_row f xs ++ (closing ∷ []))) → (is_keyword && (is_named && (is_opening && (lines_well_formed test f xs && is_closing)))) ≡ true →
    AreGood (in_row f xs) × (lines_well_formed test f xs ≡ true)
braced test f keyword name opening closing xs is_keyword is_named is_opening is_closing h w =
    let named = (and_parts is_keyword (is_named && (is_opening && (lines_well_formed test f xs && is_closing))) w).1 in
    let opened = (and_parts is_named (is_opening && (lines_well_formed test f xs && is_closing)) named).1 in
    let inside = (and_parts is_opening (lines_well_formed test f xs && is_closing) opened).1 in
    (good-left (in_row f xs) (closing ∷ []) h.1.1.1, (and_parts (lines_well_formed test f xs) is_closing inside).0)

named-written : (path : List ℕ) (access : Option Access) (x : NamedDecl) → AreGood (named_form.tokens x) → named_form.is_well_formed x ≡ true → (d : Declaration) → Among (named_declarations path access x) d → IsWritten d
named-written path access (named.Global x) h w d m = elim m [
  | inl e ↦ subst IsWritten e (
      let good : AreGood (x.name ∷ _) = good-right (specifier_form.tokens x.specifier) _ h in
      let name = (and_parts (specifier_form.is_well_formed x.specifier) _ w).1 in
      written _ (good.0.name (and_parts (on (is T.Identifier) x.name) _ name).0, tt))
  | inr n ↦ absurd n
]
named-written path access (named.Func x) h w d m = elim m [
  | inl e ↦ subst IsWritten e (written _ (func-names x h w))
  | inr n ↦ absurd n
]
named-written path access (named.Alias x) h w d m = elim m [
  | inl e ↦ subst IsWritten e (written _ (h.1.0.name (second (on (is T.Typealias) x.keyword) (on (is T.Identifier) x.name) _ w), tt))
  | inr n ↦ absurd n
]
named-written path access (named.Struct x) h w d m = elim m [
  | inl e ↦ subst IsWritten e (written _ (h.1.0.name (second (on (is T.Struct) x.keyword) (on (is T.Identifier) x.name) _ w), tt))
  | inr n ↦ (let inside = braced (on (on_new_line begins_struct_member)) (with_access struct_member_form) x.keyword x.name x.opening x.closing x.members
      (on (is T.Struct) x.keyword) (on (is T.Identifier) x.name) (on (is T.LeftBrace) x.opening) (on (is T.RightBrace) x.closing) h w in
      struct-members-written path (key_name path (is_private access) x.name.text) x.members inside.0 inside.1 d n)
]

decl-written : (path : List ℕ) (own : List (List ℕ)) (x : Decl) → AreGood (decl_form.tokens x) → decl_form.is_well_formed x ≡ true → (d : Declaration) → Among (decl_declarations path own x) d → IsWritten d
decl-written path own (Named access x) h w d m = let read = behind-access named_form access x h w in named-written path access x read.0 read.1 d m
decl-written path own (Extended x) h w d m = elim m [
  | inl e ↦ subst IsWritten e (written _ (h.1.0.name (second (on (is T.Extension) x.keyword) (on (is T.Identifier) x.name) _ w), tt))
  | inr n ↦ (let inside = braced (on (on_new_line begins_extension_member)) (with_access extension_member_form) x.keyword x.name x.opening x.closing x.members
      (on (is T.Extension) x.keyword) (on (is T.Identifier) x.name) (on (is T.LeftBrace) x.opening) (on (is T.RightBrace) x.closing) h w in
      extension-members-written path (key_name path (is_among own x.name.text) x.name.text) x.members inside.0 inside.1 d n)
]

-- A well-formed tree whose tokens are good is written.
pub tree-written : (tree : FileTree) → AreGood (decls_form.tokens tree.decls) → decls_form.is_well_formed tree.decls ≡ true → IsWrittenTree tree
tree-written tree h w d m =
    let r = among-flat (decl_declarations tree.path (private_structs tree.decls)) tree.decls d m in
    let read = row-reads (beginning (on begins_next_decl) decl_form) (beginning (on begins_next_decl) decl_form) tree.decls h w r.0 r.1 in
    decl-written tree.path (private_structs tree.decls) r.0 read.0 (and_parts (decl_form.is_well_formed r.0) (begins_by (on begins_next_decl) (decl_form.tokens r.0)) read.1).0 d r.2

-- Files at plain paths with written trees are a written module.
pub modules-written : WrittenTreesAreModules
modules-written files h = record { paths = λ f m. path-word f.path (h f m).0; written = λ f m. (h f m).1 }
