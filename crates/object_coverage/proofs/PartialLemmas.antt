-- The partial text of a file asks keys of the file's own, which are uses of its definitions.
use Rattle.std.proofs.Common.{◌≡◌, ℕ, Bool, true, false, List, [], ◌∷◌, ◌++◌, Option, None, refl, ap, sym, ◌∙◌, subst, inl, inr}
use Rattle.std.specs.Prelude.{flat_map, codes, if◌then◌else◌}
use Rattle.queries.specs.Queries.{Among, dependencies}
use Rattle.dep_key.specs.declared.key.Key.{Key}
use Rattle.dep_key.specs.KeyBuilders.{top_level, nominal, potential_member, member, key_name}
use Rattle.type_rules.specs.declared.meaning.Meaning.{Meaning}
use Rattle.swift_ast.specs.declared.declarations.Access.{Access}
use Rattle.swift_ast.specs.declared.declarations.Decl.{Decl}
use Rattle.swift_ast.specs.declared.declarations.Decl.TheVariants.{Named as NamedAs, Extension as Extended}
use Rattle.swift_ast.specs.declared.declarations.Extension.{Extension}
use Rattle.swift_ast.specs.declared.declarations.ExtensionMember.{ExtensionMember}
use Rattle.swift_ast.specs.declared.declarations.ExtensionMember.TheVariants as extended
use Rattle.swift_ast.specs.declared.declarations.FileTree.{FileTree}
use Rattle.swift_ast.specs.declared.declarations.NamedDecl.TheVariants as named
use Rattle.swift_ast.specs.declared.declarations.Struct.{Struct}
use Rattle.swift_ast.specs.declared.declarations.StructMember.{StructMember}
use Rattle.swift_ast.specs.declared.declarations.StructMember.TheVariants as part
use Rattle.decl_index.specs.Declarations.{Item, Declaration, GlobalItem, FuncItem, AliasItem, StructItem, StoredItem, ComputedItem, ExtensionItem, declared, struct_keys, extension_keys, global_declaration, is_private, is_among, private_structs, struct_member_declaration, extension_member_declaration, struct_declarations, extension_declarations, decl_declarations, declarations_in}
use Rattle.type_infer.specs.Meanings.{meaning_in}
use Rattle.type_infer.specs.Sound.{is_asked_kind}
use Rattle.type_infer.proofs.ListFacts.{among-append, among-left, among-right, among-flat, among-map}
use Rattle.iface_print.specs.Nodes.{node_query}
use Rattle.iface_print.specs.Partials.{is_kept, item_line, line_by_keys, partial_line}
use Rattle.object_coverage.specs.Texts.{item_asks, line_asks, partial_asks, MeanTheSame, EqualAnswersGiveEqualPartials, PartialsAskUses}

-- Equal answers.

module _ (m o : Key → Meaning) where
  item-same : (d : Declaration) (key : Key) (x : Item) → MeanTheSame m o (item_asks key x) → item_line m d key x ≡ item_line o d key x
  item-same d key (GlobalItem x) h = ap (λ a. item_line (λ k. a) d key (GlobalItem x)) (h key (inl refl))
  item-same d key (ComputedItem x) h = ap (λ a. item_line (λ k. a) d key (ComputedItem x)) (h key (inl refl))
  item-same d key (FuncItem x) h = ap (λ a. item_line (λ k. a) d key (FuncItem x)) (h key (inl refl))
  item-same d key (AliasItem x) h = ap (λ a. item_line (λ k. a) d key (AliasItem x)) (h key (inl refl))
  item-same d key (StructItem x) h = ap (λ a. item_line (λ k. a) d key (StructItem x)) (h (nominal key.name) (inl refl))
  item-same d key (StoredItem x) h = ap (λ a. item_line (λ k. a) d key (StoredItem x)) (h (nominal key.context) (inl refl))
  item-same d key (ExtensionItem x) h = refl

  line-same : (d : Declaration) (keys : List Key) → MeanTheSame m o (line_asks d keys) → line_by_keys m d keys ≡ line_by_keys o d keys
  line-same d [] h = refl
  line-same d (key ∷ keys) h =
      (elim (is_kept d key) as (λ b. MeanTheSame m o (if b then [] else item_asks key d.item) → (if b then [] else item_line m d key d.item) ≡ (if b then [] else item_line o d key d.item))
      [ true ↦ λ h. refl | false ↦ λ h. item-same d key d.item h ]) h

  lines-same : (ds : List Declaration) → MeanTheSame m o (flat_map (λ (d : Declaration). line_asks d d.keys) ds) → flat_map (partial_line m) ds ≡ flat_map (partial_line o) ds
  unfolding partial_line
  lines-same [] h = refl
  lines-same (d ∷ ds) h =
      ap (λ t. t ++ flat_map (partial_line m) ds) (line-same d d.keys (λ key w. h key (among-left (line_asks d d.keys) (flat_map (λ (d : Declaration). line_asks d d.keys) ds) key w)))
      ∙ ap (λ t. partial_line o d ++ t) (lines-same ds (λ key w. h key (among-right (line_asks d d.keys) (flat_map (λ (d : Declaration). line_asks d d.keys) ds) key w)))

pub partials-same : EqualAnswersGiveEqualPartials
partials-same m o f h = ap (λ t. codes "partial " ++ (f.path ++ (10 ∷ t))) (lines-same m o (declarations_in f) h)

-- Uses.

-- A key of some declaration among these, which asks it.
pub record IsOwnKey (m : Key → Meaning) (ds : List Declaration) (u : Key) : Type 0 where
  pub declaration : Declaration
  pub declared : Among ds declaration
  pub key : Key
  pub has : Among declaration.keys key
  pub uses : Among (dependencies m (node_query key declaration)) u
  pub asked : is_asked_kind u.kind ≡ true

module _ (m : Key → Meaning) where
  -- what is asked for the line of a declaration, where it is asked at all
  from-line : (d : Declaration) (key : Key) (keys : List Key) (u : Key) → Among (if is_kept d key then [] else item_asks key d.item) u → Among (item_asks key d.item) u
  from-line d key keys u w = (elim (is_kept d key) as (λ b. Among (if b then [] else item_asks key d.item) u → Among (item_asks key d.item) u) [ true ↦ λ w. absurd w | false ↦ λ w. w ]) w

  abbrev Owns : List Declaration → Declaration → Type 0
  Owns ds d = (u : Key) → Among (line_asks d d.keys) u → IsOwnKey m ds u

  -- a key of its own, of one key
  one-own : (ds : List Declaration) (d : Declaration) (key u : Key) → Among ds d → Among d.keys key → Among (dependencies m (node_query key d)) key → is_asked_kind key.kind ≡ true → key ≡ u → IsOwnKey m ds u
  one-own ds d key u md mk uses asked e = subst (IsOwnKey m ds) e (record { declaration = d; declared = md; key = key; has = mk; uses = uses; asked = asked })

  struct-own : (ds : List Declaration) (path : List ℕ) (access : Option Access) (d : Struct) → ((x : Declaration) → Among (struct_declarations path access d) x → Among ds x) → (u : Key) → nominal (key_name path (is_private access) d.name.text) ≡ u → IsOwnKey m ds u
  struct-own ds path access d sub u e =
      let context = key_name path (is_private access) d.name.text in
      one-own ds (declared path access d.name.text context (struct_keys context) (StructItem d)) (nominal context) u (sub (declared path access d.name.text context (struct_keys context) (StructItem d)) (inl refl)) (inr (inl refl)) (inl refl) refl e

  -- members of a struct whose stored properties are a key of its file
  struct-member-own : (ds : List Declaration) (path context : List ℕ) (x : Option Access × StructMember) → Among ds (struct_member_declaration path context x) → ((u : Key) → nominal context ≡ u → IsOwnKey m ds u) → Owns ds (struct_member_declaration path context x)
  struct-member-own ds path context (access, part.Stored d) md n = λ u w.
      elim (from-line (struct_member_declaration path context (access, part.Stored d)) (member context (key_name path (is_private access) d.name.text)) [] u w) [ inl e ↦ n u e | inr z ↦ absurd z ]
  struct-member-own ds path context (access, part.Computed d) md n = λ u w.
      elim (from-line (struct_member_declaration path context (access, part.Computed d)) (member context (key_name path (is_private access) d.name.text)) [] u w)
      [ inl e ↦ one-own ds (struct_member_declaration path context (access, part.Computed d)) (member context (key_name path (is_private access) d.name.text)) u md (inl refl) (inl refl) refl e | inr z ↦ absurd z ]
  struct-member-own ds path context (access, part.Func d) md n = λ u w.
      elim (from-line (struct_member_declaration path context (access, part.Func d)) (member context (key_name path (is_private access) d.name.text)) [] u w)
      [ inl e ↦ one-own ds (struct_member_declaration path context (access, part.Func d)) (member context (key_name path (is_private access) d.name.text)) u md (inl refl) (inl refl) refl e | inr z ↦ absurd z ]

  extension-member-own : (ds : List Declaration) (path context : List ℕ) (x : Option Access × ExtensionMember) → Among ds (extension_member_declaration path context x) → Owns ds (extension_member_declaration path context x)
  extension-member-own ds path context (access, extended.Computed d) md = λ u w.
      elim (from-line (extension_member_declaration path context (access, extended.Computed d)) (member context (key_name path (is_private access) d.name.text)) [] u w)
      [ inl e ↦ one-own ds (extension_member_declaration path context (access, extended.Computed d)) (member context (key_name path (is_private access) d.name.text)) u md (inl refl) (inl refl) refl e | inr z ↦ absurd z ]
  extension-member-own ds path context (access, extended.Func d) md = λ u w.
      elim (from-line (extension_member_declaration path context (access, extended.Func d)) (member context (key_name path (is_private access) d.name.text)) [] u w)
      [ inl e ↦ one-own ds (extension_member_declaration path context (access, extended.Func d)) (member context (key_name path (is_private access) d.name.text)) u md (inl refl) (inl refl) refl e | inr z ↦ absurd z ]

  abbrev AllOwn : List Declaration → List Declaration → Type 0
  AllOwn ds es = (e : Declaration) → Among es e → Owns ds e

  struct-all : (ds : List Declaration) (path : List ℕ) (access : Option Access) (d : Struct) → ((x : Declaration) → Among (struct_declarations path access d) x → Among ds x) → AllOwn ds (struct_declarations path access d)
  struct-all ds path access d sub e w =
      let context = key_name path (is_private access) d.name.text in
      let own = declared path access d.name.text context (struct_keys context) (StructItem d) in
      elim w [
        | inl i ↦ subst (Owns ds) i (λ u v. elim (from-line own (top_level context) (struct_keys context) u v) [ inl i ↦ struct-own ds path access d sub u i | inr z ↦ absurd z ])
        | inr n ↦ (let r : (x : Option Access × StructMember) × Among d.members x × (struct_member_declaration path context x ≡ e) = among-map (struct_member_declaration path context) d.members e n in
            subst (Owns ds) r.2 (struct-member-own ds path context r.0 (subst (Among ds) (sym r.2) (sub e (inr n))) (struct-own ds path access d sub)))
      ]

  extension-all : (ds : List Declaration) (path : List ℕ) (is_own : Bool) (d : Extension) → ((x : Declaration) → Among (extension_declarations path is_own d) x → Among ds x) → AllOwn ds (extension_declarations path is_own d)
  extension-all ds path is_own d sub e w =
      let context = key_name path is_own d.name.text in
      let own = declared path None d.name.text context (extension_keys context) (ExtensionItem d) in
      elim w [
        | inl i ↦ subst (Owns ds) i (λ u v. absurd (from-line own (potential_member context) [] u v))
        | inr n ↦ (let r : (x : Option Access × ExtensionMember) × Among d.members x × (extension_member_declaration path context x ≡ e) = among-map (extension_member_declaration path context) d.members e n in
            subst (Owns ds) r.2 (extension-member-own ds path context r.0 (subst (Among ds) (sym r.2) (sub e (inr n)))))
      ]

  global-all : (ds : List Declaration) (path : List ℕ) (access : Option Access) (name : List ℕ) (x : Item) → Among ds (global_declaration path access name x) → ((key u : Key) → Among (item_asks key x) u → key ≡ u) → AllOwn ds (global_declaration path access name x ∷ [])
  global-all ds path access name x md one e w = elim w [
    | inl i ↦ subst (Owns ds) i (λ u v.
        one-own ds (global_declaration path access name x) (top_level (key_name path (is_private access) name)) u md (inl refl) (inl refl) refl
        (one (top_level (key_name path (is_private access) name)) u (from-line (global_declaration path access name x) (top_level (key_name path (is_private access) name)) [] u v)))
    | inr z ↦ absurd z
  ]

  only : (key u : Key) → Among (key ∷ []) u → key ≡ u
  only key u w = elim w [ inl e ↦ e | inr z ↦ absurd z ]

  decl-all : (ds : List Declaration) (path : List ℕ) (own : List (List ℕ)) (x : Decl) → ((d : Declaration) → Among (decl_declarations path own x) d → Among ds d) → AllOwn ds (decl_declarations path own x)
  decl-all ds path own (NamedAs access (named.Global d)) sub = global-all ds path access d.name.text (GlobalItem d) (sub (global_declaration path access d.name.text (GlobalItem d)) (inl refl)) only
  decl-all ds path own (NamedAs access (named.Func d)) sub = global-all ds path access d.name.text (FuncItem d) (sub (global_declaration path access d.name.text (FuncItem d)) (inl refl)) only
  decl-all ds path own (NamedAs access (named.Alias d)) sub = global-all ds path access d.name.text (AliasItem d) (sub (global_declaration path access d.name.text (AliasItem d)) (inl refl)) only
  decl-all ds path own (NamedAs access (named.Struct d)) sub = struct-all ds path access d sub
  decl-all ds path own (Extended d) sub = extension-all ds path (is_among own d.name.text) d sub

  decls-all : (ds : List Declaration) (path : List ℕ) (own : List (List ℕ)) (xs : List Decl) → ((d : Declaration) → Among (flat_map (decl_declarations path own) xs) d → Among ds d) → AllOwn ds (flat_map (decl_declarations path own) xs)
  decls-all ds path own [] sub e w = absurd w
  decls-all ds path own (x ∷ xs) sub e w = elim (among-append (decl_declarations path own x) (flat_map (decl_declarations path own) xs) e w) [
    | inl a ↦ decl-all ds path own x (λ d n. sub d (among-left (decl_declarations path own x) (flat_map (decl_declarations path own) xs) d n)) e a
    | inr b ↦ decls-all ds path own xs (λ d n. sub d (among-right (decl_declarations path own x) (flat_map (decl_declarations path own) xs) d n)) e b
  ]

  own-keys : (f : FileTree) (u : Key) → Among (partial_asks f) u → IsOwnKey m (declarations_in f) u
  own-keys f u w =
      let r : (d : Declaration) × Among (declarations_in f) d × Among (line_asks d d.keys) u = among-flat (λ (d : Declaration). line_asks d d.keys) (declarations_in f) u w in
      decls-all (declarations_in f) f.path (private_structs f.decls) f.decls (λ d n. n) r.0 r.1 u r.2

pub partials-ask : PartialsAskUses
partials-ask files f key w =
    let r = own-keys (meaning_in files) f key w in
    (r.asked, inl (record { declaration = r.declaration; declared = r.declared; key = r.key; has = r.has; uses = r.uses }))
