-- A module that is written with names and words has plain names.
use Rattle.std.proofs.Common.{◌≡◌, ℕ, suc, ◌+◌, take, arith, Bool, true, false, List, [], ◌∷◌, ◌++◌, map, Option, refl, ap, sym, ◌∙◌, subst, inl, inr}
use Rattle.std.specs.Prelude.{not, ◌&&◌, ◌==◌, codes}
use Rattle.std.specs.List.{list_all, AllByRecursion}
use Rattle.dep_key.specs.declared.key.Key.{Key}
use Rattle.dep_key.specs.KeyBuilders.{key_name, top_level, potential_member, member}
use Rattle.queries.specs.Queries.{Among}
use Rattle.swift_ast.specs.declared.declarations.FileTree.{FileTree}
use Rattle.swift_ast.specs.declared.declarations.Access.{Access}
use Rattle.swift_ast.specs.declared.declarations.Decl.{Decl}
use Rattle.swift_ast.specs.declared.declarations.Decl.TheVariants.{Named, Extension as Extended}
use Rattle.swift_ast.specs.declared.declarations.NamedDecl.{NamedDecl}
use Rattle.swift_ast.specs.declared.declarations.NamedDecl.TheVariants as named
use Rattle.swift_ast.specs.declared.declarations.StructMember.{StructMember}
use Rattle.swift_ast.specs.declared.declarations.StructMember.TheVariants as stored
use Rattle.swift_ast.specs.declared.declarations.ExtensionMember.{ExtensionMember}
use Rattle.swift_ast.specs.declared.declarations.ExtensionMember.TheVariants as extended
use Rattle.decl_index.specs.Declarations.{Declaration, declarations_in, decl_declarations, named_declarations, struct_member_declaration, extension_member_declaration, struct_member_name, extension_member_name, struct_member_item, extension_member_item, private_structs, is_private, is_among}
use Rattle.type_rules.specs.Shown.{before_path}
use Rattle.type_infer.specs.Readings.{StoredName, stored_of, stored_in}
use Rattle.type_infer.specs.Plain.{is_separator, is_word, is_context, is_name, IsPlainKey, IsPlainItem, IsPlainDeclaration, HasPlainNames, AreLabels, IsWritten, IsWrittenModule}
use Rattle.type_infer.proofs.ListFacts.{both-true, among-flat, among-map, flat-among}

abbrev has_no_stop : List ℕ → Bool
has_no_stop text = list_all (λ byte. not (byte == 46)) text

both-make : (a b : Bool) → a ≡ true → b ≡ true → a && b ≡ true
both-make a b h g = rw h g

name-word : (n : List ℕ) → is_name n ≡ true → is_word n ≡ true
name-word n h = (both-true _ _ h).0

no-stop : (n : List ℕ) → list_all (λ byte. not (byte == 46) && not (byte == 64)) n ≡ true → has_no_stop n ≡ true
no-stop [] h = refl
no-stop (b ∷ n) h =
    let here : not (b == 46) && not (b == 64) ≡ true = (both-true _ _ h).0 in
    let stop : not (b == 46) ≡ true = (both-true _ _ here).0 in
    rw stop (no-stop n (both-true _ _ h).1)

not-true : (b : Bool) → not b ≡ true → b ≡ false
not-true true h = absurd cc
not-true false h = refl

take-one : (p b : ℕ) (l : List ℕ) → take (1 + p) (b ∷ l) ≡ b ∷ take p l
take-one p b l = (let e : 1 + p ≡ suc p = omega arith in ap (λ n. take n (b ∷ l)) e)

-- a name with a path behind it has the name before its `@`
before-name : (n path : List ℕ) → list_all (λ byte. not (byte == 46) && not (byte == 64)) n ≡ true → before_path (n ++ (64 ∷ path)) ≡ n
before-name [] path h = refl
before-name (b ∷ n) path h =
    let here : not (b == 46) && not (b == 64) ≡ true = (both-true _ _ h).0 in
    let at : (b == 64) ≡ false = not-true _ (both-true _ _ here).1 in
    rw at (take-one _ b (n ++ (64 ∷ path)) ∙ ap (λ l. b ∷ l) (before-name n path (both-true _ _ h).1))

before-all : (n : List ℕ) → list_all (λ byte. not (byte == 46) && not (byte == 64)) n ≡ true → before_path n ≡ n
before-all [] h = refl
before-all (b ∷ n) h =
    let here : not (b == 46) && not (b == 64) ≡ true = (both-true _ _ h).0 in
    let at : (b == 64) ≡ false = not-true _ (both-true _ _ here).1 in
    rw at (take-one _ b n ∙ ap (λ l. b ∷ l) (before-all n (both-true _ _ h).1))

word-at : (n path : List ℕ) → is_word n ≡ true → is_word path ≡ true → is_word (n ++ (64 ∷ path)) ≡ true
word-at [] path h g = g
word-at (b ∷ n) path h g =
    let here : not (is_separator b) ≡ true = (both-true _ _ h).0 in
    rw here (word-at n path (both-true _ _ h).1 g)

at-path : (n path : List ℕ) → (n ++ codes "@") ++ path ≡ n ++ (64 ∷ path)
at-path [] path = refl
at-path (b ∷ n) path = ap (λ l. b ∷ l) (at-path n path)

-- A name in keys is a context.
key-context : (path : List ℕ) (p : Bool) (n : List ℕ) → is_word path ≡ true → is_name n ≡ true → is_context (key_name path p n) ≡ true
key-context path true n w h =
    subst (λ l. is_context l ≡ true) (sym (at-path n path)) (both-make (is_word (n ++ (64 ∷ path))) (has_no_stop (before_path (n ++ (64 ∷ path)))) (word-at n path (name-word n h) w)
    (ap has_no_stop (before-name n path (both-true _ _ h).1) ∙ no-stop n (both-true _ _ h).1))
key-context path false n w h = both-make (is_word n) (has_no_stop (before_path n)) (name-word n h) (ap has_no_stop (before-all n (both-true _ _ h).1) ∙ no-stop n (both-true _ _ h).1)

context-word : (c : List ℕ) → is_context c ≡ true → is_word c ≡ true
context-word c h = (both-true _ _ h).0

-- a member is plain by its labels
member-item : (path : List ℕ) (m : StructMember) → AreLabels (struct_member_item m) → IsPlainItem path (struct_member_item m)
member-item path (stored.Stored x) h = tt
member-item path (stored.Computed x) h = tt
member-item path (stored.Func x) h = h

extension-item : (path : List ℕ) (m : ExtensionMember) → AreLabels (extension_member_item m) → IsPlainItem path (extension_member_item m)
extension-item path (extended.Computed x) h = tt
extension-item path (extended.Func x) h = h

one-key : (key : Key) → IsPlainKey key → (k : Key) → Among (key ∷ []) k → IsPlainKey k
one-key key h k (inl e) = subst IsPlainKey e h
one-key key h k (inr m) = absurd m

member-plain : (path context : List ℕ) (m : Option Access × StructMember) → is_word path ≡ true → is_context context ≡ true → IsWritten (struct_member_declaration path context m) → IsPlainDeclaration (struct_member_declaration path context m)
member-plain path context m w c h = record {
  name = name-word (struct_member_name m.1) h.name;
  keys = one-key (member context (key_name path (is_private m.0) (struct_member_name m.1))) (c, key-context path (is_private m.0) (struct_member_name m.1) w h.name);
  item = member-item path m.1 h.labels;
}

extended-plain : (path context : List ℕ) (m : Option Access × ExtensionMember) → is_word path ≡ true → is_context context ≡ true → IsWritten (extension_member_declaration path context m) → IsPlainDeclaration (extension_member_declaration path context m)
extended-plain path context m w c h = record {
  name = name-word (extension_member_name m.1) h.name;
  keys = one-key (member context (key_name path (is_private m.0) (extension_member_name m.1))) (c, key-context path (is_private m.0) (extension_member_name m.1) w h.name);
  item = extension-item path m.1 h.labels;
}

-- the names of stored properties are words
stored-word : (path : List ℕ) (access : Option Access) (m : StructMember) (more : List StoredName) → is_word (key_name path (is_private access) (struct_member_name m)) ≡ true → AllByRecursion (λ (s : StoredName). is_word s.name ≡ true) more →
    AllByRecursion (λ (s : StoredName). is_word s.name ≡ true) (stored_of path access m ++ more)
stored-word path access (stored.Stored x) more h r = (h, r)
stored-word path access (stored.Computed x) more h r = r
stored-word path access (stored.Func x) more h r = r

stored-words : (path context : List ℕ) (ms : List (Option Access × StructMember)) → is_word path ≡ true → ((d : Declaration) → Among (map (struct_member_declaration path context) ms) d → IsWritten d) →
    AllByRecursion (λ (s : StoredName). is_word s.name ≡ true) (stored_in path ms)
stored-words path context [] w h = tt
stored-words path context (m ∷ ms) w h =
    stored-word path m.0 m.1 (stored_in path ms)
    (context-word (key_name path (is_private m.0) (struct_member_name m.1)) (key-context path (is_private m.0) (struct_member_name m.1) w (h (struct_member_declaration path context m) (inl refl)).name))
    (stored-words path context ms w (λ d n. h d (inr n)))

named-plain : (path : List ℕ) (access : Option Access) (x : NamedDecl) → is_word path ≡ true → ((d : Declaration) → Among (named_declarations path access x) d → IsWritten d) → (d : Declaration) → Among (named_declarations path access x) d → IsPlainDeclaration d
named-plain path access (named.Global x) w h d m = elim m [
  | inl e ↦ subst IsPlainDeclaration e (let o : IsWritten _ = h _ (inl refl) in record { name = name-word x.name.text o.name; keys = one-key (top_level (key_name path (is_private access) x.name.text)) (refl, key-context path (is_private access) x.name.text w o.name); item = tt })
  | inr n ↦ absurd n
]
named-plain path access (named.Func x) w h d m = elim m [
  | inl e ↦ subst IsPlainDeclaration e (let o : IsWritten _ = h _ (inl refl) in record { name = name-word x.name.text o.name; keys = one-key (top_level (key_name path (is_private access) x.name.text)) (refl, key-context path (is_private access) x.name.text w o.name); item = o.labels })
  | inr n ↦ absurd n
]
named-plain path access (named.Alias x) w h d m = elim m [
  | inl e ↦ subst IsPlainDeclaration e (let o : IsWritten _ = h _ (inl refl) in record { name = name-word x.name.text o.name; keys = one-key (top_level (key_name path (is_private access) x.name.text)) (refl, key-context path (is_private access) x.name.text w o.name); item = tt })
  | inr n ↦ absurd n
]
named-plain path access (named.Struct x) w h d m =
    let o = h _ (inl refl) in
    let c : is_context (key_name path (is_private access) x.name.text) ≡ true = key-context path (is_private access) x.name.text w o.name in
    elim m [
      | inl e ↦ subst IsPlainDeclaration e (record {
        name = name-word x.name.text o.name;
        keys = λ k n. elim n [
          | inl e ↦ subst IsPlainKey e (refl, c)
          | inr n ↦ elim n [ inl e ↦ subst IsPlainKey e (c, refl) | inr n ↦ one-key (potential_member (key_name path (is_private access) x.name.text)) (c, refl) k n ]
        ];
        item = stored-words path (key_name path (is_private access) x.name.text) x.members w (λ d n. h d (inr n));
      })
      | inr n ↦ (let r = among-map (struct_member_declaration path (key_name path (is_private access) x.name.text)) x.members d n in
          subst IsPlainDeclaration r.2 (member-plain path (key_name path (is_private access) x.name.text) r.0 w c (subst IsWritten (sym r.2) (h d (inr n)))))
    ]

decl-plain : (path : List ℕ) (own : List (List ℕ)) (x : Decl) → is_word path ≡ true → ((d : Declaration) → Among (decl_declarations path own x) d → IsWritten d) → (d : Declaration) → Among (decl_declarations path own x) d → IsPlainDeclaration d
decl-plain path own (Named access x) w h d m = named-plain path access x w h d m
decl-plain path own (Extended x) w h d m =
    let o = h _ (inl refl) in
    let c : is_context (key_name path (is_among own x.name.text) x.name.text) ≡ true = key-context path (is_among own x.name.text) x.name.text w o.name in
    elim m [
      | inl e ↦ subst IsPlainDeclaration e (record { name = name-word x.name.text o.name; keys = one-key (potential_member (key_name path (is_among own x.name.text) x.name.text)) (c, refl); item = tt })
      | inr n ↦ (let r = among-map (extension_member_declaration path (key_name path (is_among own x.name.text) x.name.text)) x.members d n in
          subst IsPlainDeclaration r.2 (extended-plain path (key_name path (is_among own x.name.text) x.name.text) r.0 w c (subst IsWritten (sym r.2) (h d (inr n)))))
    ]

file-plain : (f : FileTree) → is_word f.path ≡ true → ((d : Declaration) → Among (declarations_in f) d → IsWritten d) → (d : Declaration) → Among (declarations_in f) d → IsPlainDeclaration d
file-plain f w h d m =
    let r = among-flat (decl_declarations f.path (private_structs f.decls)) f.decls d m in
    decl-plain f.path (private_structs f.decls) r.0 w (λ e n. h e (flat-among (decl_declarations f.path (private_structs f.decls)) f.decls r.0 e r.1 n)) d r.2

-- A module that is written with names has plain names.
pub written-plain : (files : List FileTree) → IsWrittenModule files → HasPlainNames files
written-plain files h = record {
  each = λ d m.
      let r = among-flat declarations_in files d m in
      file-plain r.0 (h.paths r.0 r.1) (λ e n. h.written r.0 r.1 e n) d r.2;
}
