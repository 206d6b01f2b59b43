-- Checking a file asks keys of the kinds that look-ups ask, and of its own keys only what its definitions use.
use Rattle.std.proofs.Common.{◌≡◌, ℕ, Bool, true, false, List, [], ◌∷◌, map, length, Option, Some, None, refl, sym, subst, inl, inr}
use Rattle.std.specs.Prelude.{flat_map}
use Rattle.std.specs.List.{AllByRecursion}
use Rattle.queries.specs.Queries.{Among, dependencies}
use Rattle.queries.proofs.Values.{dependencies-bind}
use Rattle.dep_key.specs.declared.key.Key.{Key}
use Rattle.dep_key.specs.KeyBuilders.{top_level, nominal, potential_member, member, key_name}
use Rattle.swift_ast.specs.Leaves.{Leaf}
use Rattle.swift_ast.specs.declared.statements.Block.{Block}
use Rattle.swift_ast.specs.declared.statements.TypeName.{TypeName}
use Rattle.swift_ast.specs.declared.declarations.Access.{Access}
use Rattle.swift_ast.specs.declared.declarations.Alias.{Alias}
use Rattle.swift_ast.specs.declared.declarations.Computed.{Computed}
use Rattle.swift_ast.specs.declared.declarations.Decl.{Decl}
use Rattle.swift_ast.specs.declared.declarations.Decl.TheVariants.{Named as NamedAs, Extension as Extended}
use Rattle.swift_ast.specs.declared.declarations.Extension.{Extension}
use Rattle.swift_ast.specs.declared.declarations.ExtensionMember.{ExtensionMember}
use Rattle.swift_ast.specs.declared.declarations.ExtensionMember.TheVariants as extended
use Rattle.swift_ast.specs.declared.declarations.FileTree.{FileTree}
use Rattle.swift_ast.specs.declared.declarations.Func.{Func}
use Rattle.swift_ast.specs.declared.declarations.NamedDecl.TheVariants as named
use Rattle.swift_ast.specs.declared.declarations.Param.{Param}
use Rattle.swift_ast.specs.declared.declarations.StoredValue.{StoredValue}
use Rattle.swift_ast.specs.declared.declarations.StoredValue.TheVariants.{Typed as WithType, Inferred}
use Rattle.swift_ast.specs.declared.declarations.Struct.{Struct}
use Rattle.swift_ast.specs.declared.declarations.StructMember.{StructMember}
use Rattle.swift_ast.specs.declared.declarations.StructMember.TheVariants as part
use Rattle.decl_index.specs.Declarations.{Declaration, declarations_in, decl_declarations, named_declarations, struct_member_declaration, extension_member_declaration, struct_declarations, declared, global_declaration, struct_keys, AliasItem, StructItem, is_among}
use Rattle.type_rules.specs.declared.ty.Ty.{Ty}
use Rattle.type_rules.specs.declared.ty.Ty.TheVariants as ty
use Rattle.type_rules.specs.declared.meaning.Meaning.{Meaning}
use Rattle.type_rules.specs.declared.meaning.Meaning.TheVariants as means
use Rattle.typed_code.specs.declared.step.Step.{Step}
use Rattle.checks.specs.Checks.{both, tried, hushed, noting, go_on, all, sure}
use Rattle.checks.specs.OwnKeys.{answering, used, owned}
use Rattle.expr_check.specs.declared.scope.Scope.{Scope}
use Rattle.expr_check.specs.Message as is
use Rattle.expr_check.specs.Messages.{line, place_of}
use Rattle.expr_check.specs.Scopes.{declaring}
use Rattle.expr_check.specs.Types.{CheckOf, type_named, type_written, laid_out}
use Rattle.expr_check.specs.Phrases.{Phrase, expr_phrase}
use Rattle.body_check.specs.Statements.{falls_through, in_block, annotated, not_declared, block_statements}
use Rattle.body_check.specs.Declarations.{FileCheck, UnitCheck, in_order, used_meaning, Declared, declared as told, Site, circle, lines_of, standing, outside, inside, params_of, params_read, result_type, function_end, function_check, unless_circular, fitting_value, value_check, stored_check, name_in_keys, alias_check, method_check, computed_check, struct_member_check, words, property_words, member_words, stored_words, too_large, size_check, struct_units, struct_check, extension_member_check, extension_members, extension_as, decl_check, site, file_check}
use Rattle.type_infer.specs.Readings.{written_type, all_measured, stored_in, stored_name, StoredName, measured_query, words_query}
use Rattle.type_infer.specs.Plain.{is_context, IsPlain, IsPlainType, IsPlainDeclaration}
use Rattle.type_infer.specs.Sound.{Anything, IfThere, OfValue, SoundCheck, PlainTyped, IsPlainScope}
use Rattle.type_infer.proofs.Combining.{sound-bind, sound-tried, sound-hushed}
use Rattle.type_infer.proofs.ListFacts.{among-left, among-right}
use Rattle.type_infer.proofs.Sounding.{type-sound, laid-out-sound}
use Rattle.iface_print.specs.Nodes.{node_query}
use Rattle.iface_print.proofs.Covering.{reading-used}
use Rattle.file_coverage.proofs.Asking.{Asks, IsAsked, IsAllowed, asks-bind, asks-both, asks-noting, asks-hushed, asks-all, asks-sound, asks-used, asks-owned, asks-within}
use Rattle.file_coverage.proofs.StatementLemmas.{SoundPhrase, PlainBeside, declaring-plain, block-sound, written-sound, annotated-sound, fitting-sound, not-declared-sound, expr-sound, statements-sound}

-- Functions.

params-sound : (ps : List Param) (s : Scope) → IsPlainScope s → SoundCheck IsPlainScope (params_read ps s)
params-sound [] s p = p
params-sound (x ∷ ps) s p =
    sound-bind (IfThere IsPlainType) IsPlainScope (tried (type_written s x.type_name.name)) _ (sound-tried IsPlainType (type_written s x.type_name.name) (written-sound s x.type_name.name)) (λ of po.
    sound-bind (IfThere Anything) IsPlainScope (tried (not_declared s x.name)) _ (sound-tried Anything (not_declared s x.name) (not-declared-sound s x.name)) (λ _ _.
    params-sound ps (declaring s x.name.text of false) (declaring-plain s x.name.text of false p po)))

result-sound : (s : Scope) (o : Option (Leaf × TypeName)) → SoundCheck IsPlainType (result_type s o)
result-sound s None = tt
result-sound s (Some (arrow, t)) = written-sound s t.name

end-sound : (s : Scope) (symbol : List ℕ) (name : Leaf) (params : ℕ) (falls : Bool) (gives : Option Ty) (r : Scope × Option (List Step)) → SoundCheck Anything (function_end s symbol name params falls gives r)
end-sound s symbol name params falls gives (inner, code) = tt

function-sound : (s : Scope) (symbol : List ℕ) (name : Leaf) (ps : List Param) (result : CheckOf Ty) (body : Block) → SoundCheck IsPlainType result → IsPlainScope s → SoundCheck Anything (function_check s symbol name ps result body)
function-sound s symbol name ps result body h p =
    sound-bind (IfThere IsPlainType) Anything (tried result) _ (sound-tried IsPlainType result h) (λ gives _.
    sound-bind IsPlainScope Anything (params_read ps (record s { result = gives; blocks = [] ∷ [] })) _ (params-sound ps (record s { result = gives; blocks = [] ∷ [] }) (record { self = p.self; locals = (tt, tt) })) (λ front pf.
    sound-bind PlainBeside Anything (in_block (block_statements body) front) _ (block-sound (block_statements body) front (statements-sound body) pf) (λ inner _.
    end-sound s symbol name (length ps) (falls_through (block_statements body)) gives inner)))

-- Initial values.

unless-sound : {X : Type 0} (m : Meaning) (c : CheckOf X) → SoundCheck Anything c → SoundCheck Anything (unless_circular m c)
unless-sound means.Circular c h = sound-hushed Anything c h
unless-sound means.NoProvider c h = h
unless-sound means.Ambiguous c h = h
unless-sound means.Broken c h = h
unless-sound (means.Value mutable of) c h = h
unless-sound (means.Function ps r) c h = h
unless-sound (means.Struct context) c h = h
unless-sound (means.Alias of) c h = h
unless-sound (means.Fields fs w) c h = h

fitting-value-sound : (s : Scope) (wanted : Option (Option Ty)) (value : Phrase) → SoundPhrase value → IsPlainScope s → SoundCheck Anything (fitting_value s wanted value)
fitting-value-sound s wanted value h p = sound-bind (IfThere PlainTyped) Anything (tried (value.check s)) _ (sound-tried PlainTyped (value.check s) (h s p)) (λ v _. fitting-sound value.first wanted v)

outside-plain : (f : Site) → IsPlainScope (outside f)
outside-plain f = record { self = tt; locals = tt }

inside-plain : (f : Site) (context : List ℕ) (of : Option Ty) → IfThere IsPlainType of → IsPlainScope (inside f context of)
inside-plain f context of h = record { self = h; locals = tt }

-- With the answers of a module with plain meanings, and for keys of the file's own that are uses of its definitions.
module _ (m : Key → Meaning) (plain : (k : Key) → IsPlain (m k)) (O : Key → Type 0) where
  abbrev Fine : {X : Type 0} → FileCheck X → Type 0
  Fine check = Asks (answering m) (IsAllowed O) check

  -- what the nodes of a declaration use is allowed
  abbrev Declares : Declaration → Type 0
  Declares d = (key : Key) → Among d.keys key → (u : Key) → Among (dependencies m (node_query key d)) u → O u

  uses-fine : {X : Type 0} (R : X → Type 0) (q : CheckOf X) → SoundCheck R q → Fine (used q)
  uses-fine R q h = asks-used m O q (asks-sound m plain (OfValue R) q h)

  standing-fine : (f : Site) (d : Declared) (key : Key) (name : Leaf) → IsAsked key → O key → Fine (standing f d key name)
  standing-fine f d key name a o = ((a, o), tt)

  value-fine : (f : Site) (key : Key) (annotation : Option (Leaf × TypeName)) (value : Phrase) → IsAsked key → O key → SoundPhrase value → Fine (value_check f key annotation value)
  value-fine f key annotation value a o h =
      asks-bind (answering m) (IsAllowed O) (used (tried (annotated (outside f) annotation))) _ (uses-fine (IfThere (IfThere IsPlainType)) _ (sound-tried (IfThere IsPlainType) (annotated (outside f) annotation) (annotated-sound (outside f) annotation))) (λ wanted.
      ((a, o), uses-fine (IfThere Anything) _ (sound-tried Anything _ (unless-sound (m key) _ (fitting-value-sound (outside f) wanted value h (outside-plain f))))))

  stored-fine : (f : Site) (key : Key) (value : StoredValue) → IsAsked key → O key → Fine (stored_check f key value)
  stored-fine f key (WithType colon t None) a o =
      asks-bind (answering m) (IsAllowed O) (used (tried (type_written (outside f) t.name))) _ (uses-fine (IfThere IsPlainType) _ (sound-tried IsPlainType (type_written (outside f) t.name) (written-sound (outside f) t.name))) (λ of. tt)
  stored-fine f key (WithType colon t (Some (assign, value))) a o = asks-bind (answering m) (IsAllowed O) (value_check f key (Some (colon, t)) (expr_phrase value)) _ (value-fine f key (Some (colon, t)) (expr_phrase value) a o (expr-sound value)) (λ v. tt)
  stored-fine f key (Inferred assign value) a o = asks-bind (answering m) (IsAllowed O) (value_check f key None (expr_phrase value)) _ (value-fine f key None (expr_phrase value) a o (expr-sound value)) (λ v. tt)

  -- members

  method-fine : (f : Site) (context : List ℕ) (of : Option Ty) (access : Option Access) (d : Func) → IfThere IsPlainType of → O (member context (name_in_keys f access d.name)) → Fine (method_check f context of access d)
  method-fine f context of access d h o =
      asks-noting (answering m) (IsAllowed O) (standing f (told context access d.name) (member context (name_in_keys f access d.name)) d.name) _ (standing-fine f (told context access d.name) (member context (name_in_keys f access d.name)) d.name refl o)
      (uses-fine Anything _ (function-sound (inside f context of) _ d.name (params_of d.params) (result_type (inside f context of) d.result_type) d.body (result-sound (inside f context of) d.result_type) (inside-plain f context of h)))

  computed-fine : (f : Site) (context : List ℕ) (of : Option Ty) (access : Option Access) (d : Computed) → IfThere IsPlainType of → O (member context (name_in_keys f access d.name)) → Fine (computed_check f context of access d)
  computed-fine f context of access d h o =
      asks-noting (answering m) (IsAllowed O) (standing f (told context access d.name) (member context (name_in_keys f access d.name)) d.name) _ (standing-fine f (told context access d.name) (member context (name_in_keys f access d.name)) d.name refl o)
      (uses-fine Anything _ (function-sound (inside f context of) _ d.name [] (type_written (inside f context of) d.type_name.name) d.body (written-sound (inside f context of) d.type_name.name) (inside-plain f context of h)))

  struct-member-fine : (f : Site) (context : List ℕ) (x : Option Access × StructMember) → is_context context ≡ true → Declares (struct_member_declaration f.path context x) → Fine (struct_member_check f context x)
  struct-member-fine f context (access, part.Stored d) c h =
      asks-noting (answering m) (IsAllowed O) (standing f (told context access d.name) (member context (name_in_keys f access d.name)) d.name) _ (standing-fine f (told context access d.name) (member context (name_in_keys f access d.name)) d.name refl (h (member context (name_in_keys f access d.name)) (inl refl) (member context (name_in_keys f access d.name)) (inl refl)))
      (asks-bind (answering m) (IsAllowed O) (stored_check f (member context (name_in_keys f access d.name)) d.value) _ (stored-fine f (member context (name_in_keys f access d.name)) d.value refl (h (member context (name_in_keys f access d.name)) (inl refl) (member context (name_in_keys f access d.name)) (inl refl))) (λ initial. tt))
  struct-member-fine f context (access, part.Computed d) c h = asks-bind (answering m) (IsAllowed O) (computed_check f context (Some (ty.Struct context)) access d) _ (computed-fine f context (Some (ty.Struct context)) access d c (h (member context (name_in_keys f access d.name)) (inl refl) (member context (name_in_keys f access d.name)) (inl refl))) (λ units. tt)
  struct-member-fine f context (access, part.Func d) c h = asks-bind (answering m) (IsAllowed O) (method_check f context (Some (ty.Struct context)) access d) _ (method-fine f context (Some (ty.Struct context)) access d c (h (member context (name_in_keys f access d.name)) (inl refl) (member context (name_in_keys f access d.name)) (inl refl))) (λ units. tt)

  struct-members-fine : (f : Site) (context : List ℕ) (xs : List (Option Access × StructMember)) → is_context context ≡ true → ((d : Declaration) → Among (map (struct_member_declaration f.path context) xs) d → Declares d) →
      AllByRecursion (λ c. Fine c) (map (struct_member_check f context) xs)
  struct-members-fine f context [] c h = tt
  struct-members-fine f context (x ∷ xs) c h = (struct-member-fine f context x c (h (struct_member_declaration f.path context x) (inl refl)), struct-members-fine f context xs c (λ d n. h d (inr n)))

  -- sizes

  abbrev Owned : Key → Type 0
  Owned u = IsAsked u × O u

  type-words-fine : (of : Ty) → ((u : Key) → Among (dependencies m (words_query of)) u → O u) → Asks m Owned (words of)
  unfolding words_query
  type-words-fine ty.Int o = tt
  type-words-fine ty.String o = tt
  type-words-fine ty.Bool o = tt
  type-words-fine ty.Void o = tt
  type-words-fine (ty.Struct c) o = ((refl, o (nominal c) (inl refl)), tt)

  property-words-fine : (s : StoredName) (x : Meaning) → ((u : Key) → Among (dependencies m (measured_query s x)) u → O u) → Asks m Owned (property_words x)
  property-words-fine s (means.Value mutable of) o = type-words-fine of (λ u w. o u (subst (λ l. Among l u) (sym (dependencies-bind m (words_query of) _)) (among-left (dependencies m (words_query of)) _ u w)))
  property-words-fine s means.NoProvider o = tt
  property-words-fine s means.Ambiguous o = tt
  property-words-fine s means.Broken o = tt
  property-words-fine s means.Circular o = tt
  property-words-fine s (means.Function ps r) o = tt
  property-words-fine s (means.Struct c) o = tt
  property-words-fine s (means.Alias of) o = tt
  property-words-fine s (means.Fields fs w) o = tt

  stored-words-fine : (f : Site) (context : List ℕ) (xs : List (Option Access × StructMember)) → ((u : Key) → Among (dependencies m (all_measured context (stored_in f.path xs))) u → O u) → Asks m Owned (stored_words f context xs)
  stored-words-fine f context [] o = tt
  stored-words-fine f context ((access, part.Stored d) ∷ xs) o =
      let key = member context (name_in_keys f access d.name) in
      let s : StoredName = stored_name f.path access d.name.text d.value in
      asks-bind m Owned (both (member_words f context (access, part.Stored d)) (stored_words f context xs)) _
      (asks-both m Owned (member_words f context (access, part.Stored d)) (stored_words f context xs)
      ((refl, o key (inl refl)), property-words-fine s (m key) (λ u w. o u (inr (subst (λ l. Among l u) (sym (dependencies-bind m (measured_query s (m key)) _)) (among-left (dependencies m (measured_query s (m key))) _ u w)))))
      (stored-words-fine f context xs (λ u w. o u (inr (subst (λ l. Among l u) (sym (dependencies-bind m (measured_query s (m key)) _))
      (among-right (dependencies m (measured_query s (m key))) _ u (subst (λ l. Among l u) (sym (dependencies-bind m (all_measured context (stored_in f.path xs)) _)) (among-left (dependencies m (all_measured context (stored_in f.path xs))) _ u w))))))))
      (λ _. tt)
  stored-words-fine f context ((access, part.Computed d) ∷ xs) o =
      asks-bind m Owned (both (member_words f context (access, part.Computed d)) (stored_words f context xs)) _ (asks-both m Owned (member_words f context (access, part.Computed d)) (stored_words f context xs) tt (stored-words-fine f context xs o)) (λ _. tt)
  stored-words-fine f context ((access, part.Func d) ∷ xs) o =
      asks-bind m Owned (both (member_words f context (access, part.Func d)) (stored_words f context xs)) _ (asks-both m Owned (member_words f context (access, part.Func d)) (stored_words f context xs) tt (stored-words-fine f context xs o)) (λ _. tt)

  sized : (f : Site) (context : List ℕ) (d : Struct) → ((u : Key) → Among (dependencies m (all_measured context (stored_in f.path d.members))) u → O u) → Fine (go_on (owned (stored_words f context d.members)) (λ words. lines_of (too_large d.name words)))
  sized f context d o = asks-bind (answering m) (IsAllowed O) (owned (stored_words f context d.members)) _ (asks-owned m O (stored_words f context d.members) (stored-words-fine f context d.members o)) (λ _. tt)

  size-fine : (f : Site) (context : List ℕ) (d : Struct) (x : Meaning) → ((u : Key) → Among (dependencies m (all_measured context (stored_in f.path d.members))) u → O u) → Fine (size_check f context d x)
  size-fine f context d means.Ambiguous o = tt
  size-fine f context d means.NoProvider o = sized f context d o
  size-fine f context d means.Broken o = sized f context d o
  size-fine f context d means.Circular o = sized f context d o
  size-fine f context d (means.Value mutable of) o = sized f context d o
  size-fine f context d (means.Function ps r) o = sized f context d o
  size-fine f context d (means.Struct c) o = sized f context d o
  size-fine f context d (means.Alias of) o = sized f context d o
  size-fine f context d (means.Fields fs w) o = sized f context d o

  -- declarations

  written-among : (path : List ℕ) (t : TypeName) (u : Key) → Among (dependencies m (type_named path t.name)) u → Among (dependencies m (written_type path t)) u
  unfolding written_type
  written-among path t u w = subst (λ l. Among l u) (sym (dependencies-bind m (type_named path t.name) _)) (among-left (dependencies m (type_named path t.name)) _ u w)

  alias-fine : (f : Site) (access : Option Access) (d : Alias) → ((x : Declaration) → Among (named_declarations f.path access (named.Alias d)) x → Declares x) → Fine (alias_check f access d)
  alias-fine f access d h =
      let key = top_level (name_in_keys f access d.name) in
      let own = global_declaration f.path access d.name.text (AliasItem d) in
      asks-noting (answering m) (IsAllowed O) (standing f (told [] access d.name) key d.name) _ (standing-fine f (told [] access d.name) key d.name refl (h own (inl refl) key (inl refl) key (inl refl)))
      (asks-noting (answering m) (IsAllowed O) (owned (type_named f.path d.type_name.name)) _
      (asks-owned m O (type_named f.path d.type_name.name) (asks-within m plain O (OfValue IsPlainType) (type_named f.path d.type_name.name) (type-sound f.path d.type_name.name) (λ u w. h own (inl refl) key (inl refl) u
      (reading-used m key own u (subst (λ l. Among l u) (sym (dependencies-bind m (written_type f.path d.type_name) _)) (among-left (dependencies m (written_type f.path d.type_name)) _ u (written-among f.path d.type_name u w)))))))
      tt)

  struct-fine : (f : Site) (access : Option Access) (d : Struct) → ((x : Declaration) → Among (struct_declarations f.path access d) x → Declares x) → ((x : Declaration) → Among (struct_declarations f.path access d) x → IsPlainDeclaration x) → Fine (struct_check f access d)
  struct-fine f access d h pl =
      let context = name_in_keys f access d.name in
      let own = declared f.path access d.name.text context (struct_keys context) (StructItem d) in
      let c : is_context context ≡ true = ((pl own (inl refl)).keys (top_level context) (inl refl)).1 in
      let members = go_on (all (map (struct_member_check f context) d.members)) (λ members. sure (struct_units context members)) in
      let inside_is : Fine (noting (lines_of (circle d.name (m (nominal context)))) (noting (size_check f context d (m (nominal context))) members)) =
      asks-noting (answering m) (IsAllowed O) (lines_of (circle d.name (m (nominal context)))) _ tt
      (asks-noting (answering m) (IsAllowed O) (size_check f context d (m (nominal context))) _
      (size-fine f context d (m (nominal context)) (λ u w. h own (inl refl) (nominal context) (inr (inl refl)) u
      (reading-used m (nominal context) own u (subst (λ l. Among l u) (sym (dependencies-bind m (all_measured context (stored_in f.path d.members)) _)) (among-left (dependencies m (all_measured context (stored_in f.path d.members))) _ u w)))))
      (asks-bind (answering m) (IsAllowed O) (all (map (struct_member_check f context) d.members)) _
      (asks-all (answering m) (IsAllowed O) (map (struct_member_check f context) d.members) (struct-members-fine f context d.members c (λ x n. h x (inr n)))) (λ members. tt))) in
      let fields_check : UnitCheck = used_meaning (nominal context) (λ fields. noting (lines_of (circle d.name fields)) (noting (size_check f context d fields) members)) in
      let rest_is : Fine fields_check = (refl, inside_is) in
      asks-noting (answering m) (IsAllowed O) (standing f (told [] access d.name) (top_level context) d.name) fields_check (standing-fine f (told [] access d.name) (top_level context) d.name refl (h own (inl refl) (top_level context) (inl refl) (top_level context) (inl refl)))
      rest_is

  in-order-fine : (cs : List UnitCheck) → AllByRecursion (λ c. Fine c) cs → Fine (in_order cs)
  in-order-fine cs h = asks-bind (answering m) (IsAllowed O) (all cs) _ (asks-all (answering m) (IsAllowed O) cs h) (λ units. tt)

  extension-members-fine : (f : Site) (context : List ℕ) (of : Option Ty) (xs : List (Option Access × ExtensionMember)) → IfThere IsPlainType of → ((d : Declaration) → Among (map (extension_member_declaration f.path context) xs) d → Declares d) →
      AllByRecursion (λ c. Fine c) (map (extension_member_check f context of) xs)
  extension-members-fine f context of [] c h = tt
  extension-members-fine f context of ((access, extended.Computed d) ∷ xs) c h = (computed-fine f context of access d c (h _ (inl refl) _ (inl refl) _ (inl refl)), extension-members-fine f context of xs c (λ x n. h x (inr n)))
  extension-members-fine f context of ((access, extended.Func d) ∷ xs) c h = (method-fine f context of access d c (h _ (inl refl) _ (inl refl) _ (inl refl)), extension-members-fine f context of xs c (λ x n. h x (inr n)))

  no-struct : (f : Site) (context : List ℕ) (d : Extension) → ((x : Declaration) → Among (map (extension_member_declaration f.path context) d.members) x → Declares x) → Fine (noting {X = _} (lines_of (line (place_of d.name) (is.NotAStruct d.name.text) ∷ [])) (hushed (extension_members f context None d)))
  no-struct f context d h =
      asks-noting (answering m) (IsAllowed O) (lines_of (line (place_of d.name) (is.NotAStruct d.name.text) ∷ [])) _ tt (asks-hushed (answering m) (IsAllowed O) (extension_members f context None d) (in-order-fine (map (extension_member_check f context None) d.members) (extension-members-fine f context None d.members tt h)))

  extension-as-fine : (f : Site) (context : List ℕ) (d : Extension) (x : Meaning) → is_context context ≡ true → ((x : Declaration) → Among (map (extension_member_declaration f.path context) d.members) x → Declares x) → Fine (extension_as f context d x)
  extension-as-fine f context d (means.Struct other) c h =
      asks-noting (answering m) (IsAllowed O) (used (laid_out (place_of d.name) (ty.Struct context))) _ (uses-fine IsPlainType (laid_out (place_of d.name) (ty.Struct context)) (laid-out-sound (place_of d.name) (ty.Struct context) c))
      (in-order-fine (map (extension_member_check f context (Some (ty.Struct context))) d.members) (extension-members-fine f context (Some (ty.Struct context)) d.members c h))
  extension-as-fine f context d means.NoProvider c h = no-struct f context d h
  extension-as-fine f context d means.Ambiguous c h = no-struct f context d h
  extension-as-fine f context d means.Broken c h = no-struct f context d h
  extension-as-fine f context d means.Circular c h = no-struct f context d h
  extension-as-fine f context d (means.Value mutable of) c h = no-struct f context d h
  extension-as-fine f context d (means.Function ps r) c h = no-struct f context d h
  extension-as-fine f context d (means.Alias of) c h = no-struct f context d h
  extension-as-fine f context d (means.Fields fs w) c h = no-struct f context d h

  decl-fine : (f : Site) (x : Decl) → ((d : Declaration) → Among (decl_declarations f.path f.own_structs x) d → Declares d) → ((d : Declaration) → Among (decl_declarations f.path f.own_structs x) d → IsPlainDeclaration d) → Fine (decl_check f x)
  decl-fine f (NamedAs access (named.Global d)) h pl =
      let key = top_level (name_in_keys f access d.name) in
      asks-noting (answering m) (IsAllowed O) (standing f (told [] access d.name) key d.name) _ (standing-fine f (told [] access d.name) key d.name refl (h _ (inl refl) key (inl refl) key (inl refl)))
      (asks-bind (answering m) (IsAllowed O) (value_check f key d.annotation (expr_phrase d.value)) _ (value-fine f key d.annotation (expr_phrase d.value) refl (h _ (inl refl) key (inl refl) key (inl refl)) (expr-sound d.value)) (λ v. tt))
  decl-fine f (NamedAs access (named.Func d)) h pl =
      let key = top_level (name_in_keys f access d.name) in
      asks-noting (answering m) (IsAllowed O) (standing f (told [] access d.name) key d.name) _ (standing-fine f (told [] access d.name) key d.name refl (h _ (inl refl) key (inl refl) key (inl refl)))
      (uses-fine Anything _ (function-sound (outside f) _ d.name (params_of d.params) (result_type (outside f) d.result_type) d.body (result-sound (outside f) d.result_type) (outside-plain f)))
  decl-fine f (NamedAs access (named.Alias d)) h pl = alias-fine f access d h
  decl-fine f (NamedAs access (named.Struct d)) h pl = struct-fine f access d h pl
  decl-fine f (Extended d) h pl =
      let context = key_name f.path (is_among f.own_structs d.name.text) d.name.text in
      (refl, extension-as-fine f context d (m (top_level context)) ((pl _ (inl refl)).keys (potential_member context) (inl refl)).0 (λ x n. h x (inr n)))

  decls-fine : (f : Site) (xs : List Decl) → ((d : Declaration) → Among (flat_map (decl_declarations f.path f.own_structs) xs) d → Declares d) → ((d : Declaration) → Among (flat_map (decl_declarations f.path f.own_structs) xs) d → IsPlainDeclaration d) →
      AllByRecursion (λ c. Fine c) (map (decl_check f) xs)
  decls-fine f [] h pl = tt
  decls-fine f (x ∷ xs) h pl = (
    decl-fine f x (λ d n. h d (among-left (decl_declarations f.path f.own_structs x) _ d n)) (λ d n. pl d (among-left (decl_declarations f.path f.own_structs x) _ d n)),
    decls-fine f xs (λ d n. h d (among-right (decl_declarations f.path f.own_structs x) _ d n)) (λ d n. pl d (among-right (decl_declarations f.path f.own_structs x) _ d n)),
  )

  pub file-fine : (file : FileTree) → ((d : Declaration) → Among (declarations_in file) d → Declares d) → ((d : Declaration) → Among (declarations_in file) d → IsPlainDeclaration d) → Fine (file_check file)
  unfolding file_check
  file-fine file h pl = in-order-fine (map (decl_check (site file)) file.decls) (decls-fine (site file) file.decls h pl)
