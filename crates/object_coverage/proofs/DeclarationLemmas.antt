-- The structs in the code of a file were asked when the file was checked.
use Rattle.std.proofs.Common.{ℕ, Bool, true, false, List, [], ◌∷◌, ◌++◌, map, length, Option, Some, None, refl, subst, inl, inr}
use Rattle.std.specs.Prelude.{flat_map}
use Rattle.std.specs.List.{AllByRecursion}
use Rattle.queries.specs.Queries.{Among, value_with}
use Rattle.dep_key.specs.declared.key.Key.{Key}
use Rattle.dep_key.specs.KeyBuilders.{top_level, nominal, member, key_name}
use Rattle.swift_ast.specs.Leaves.{Leaf}
use Rattle.swift_ast.specs.declared.statements.Block.{Block}
use Rattle.swift_ast.specs.declared.statements.TypeName.{TypeName}
use Rattle.swift_ast.specs.declared.declarations.Access.{Access}
use Rattle.swift_ast.specs.declared.declarations.Computed.{Computed}
use Rattle.swift_ast.specs.declared.declarations.Decl.{Decl}
use Rattle.swift_ast.specs.declared.declarations.Decl.TheVariants.{Named as NamedAs, Extension as Extended}
use Rattle.swift_ast.specs.declared.declarations.Extension.{Extension}
use Rattle.swift_ast.specs.declared.declarations.ExtensionMember.{ExtensionMember}
use Rattle.swift_ast.specs.declared.declarations.ExtensionMember.TheVariants as extended
use Rattle.swift_ast.specs.declared.declarations.FileTree.{FileTree}
use Rattle.swift_ast.specs.declared.declarations.Func.{Func}
use Rattle.swift_ast.specs.declared.declarations.NamedDecl.TheVariants as named
use Rattle.swift_ast.specs.declared.declarations.Param.{Param}
use Rattle.swift_ast.specs.declared.declarations.StoredValue.{StoredValue}
use Rattle.swift_ast.specs.declared.declarations.StoredValue.TheVariants.{Typed as WithType, Inferred}
use Rattle.swift_ast.specs.declared.declarations.Struct.{Struct}
use Rattle.swift_ast.specs.declared.declarations.StructMember.{StructMember}
use Rattle.swift_ast.specs.declared.declarations.StructMember.TheVariants as part
use Rattle.decl_index.specs.Declarations.{is_among}
use Rattle.type_rules.specs.declared.ty.Ty.{Ty}
use Rattle.type_rules.specs.declared.ty.Ty.TheVariants as ty
use Rattle.type_rules.specs.declared.meaning.Meaning.{Meaning}
use Rattle.type_rules.specs.declared.meaning.Meaning.TheVariants as means
use Rattle.typed_code.specs.declared.step.Step.{Step}
use Rattle.typed_code.specs.declared.step.Step.TheVariants as step
use Rattle.typed_code.specs.declared.units.Initial.{Initial}
use Rattle.typed_code.specs.declared.units.Unit.{Unit as CodeUnit}
use Rattle.checks.specs.Checks.{tried, hushed, noting, go_on, all, sure}
use Rattle.checks.specs.OwnKeys.{answering, used, owned}
use Rattle.expr_check.specs.declared.typed.Typed.{Typed}
use Rattle.expr_check.specs.declared.scope.Scope.{Scope}
use Rattle.expr_check.specs.Message as is
use Rattle.expr_check.specs.Messages.{line, place_of}
use Rattle.expr_check.specs.Scopes.{declaring}
use Rattle.expr_check.specs.Types.{CheckOf, type_named, type_written, laid_out}
use Rattle.expr_check.specs.Expressions.{member_symbol}
use Rattle.expr_check.specs.Phrases.{Phrase, expr_phrase}
use Rattle.body_check.specs.Statements.{falls_through, in_block, annotated, not_declared, block_statements}
use Rattle.body_check.specs.Declarations.{FileCheck, UnitCheck, in_order, used_meaning, declared as told, Site, circle, lines_of, standing, outside, inside, params_of, params_read, result_type, ended, all_there, consed, function_units, function_end, in_function, function_check, unless_circular, fitting_value, value_check, global_units, own_code, handed_in, stored_check, name_in_keys, method_check, computed_check, MemberCode, struct_member_check, initializer_units, struct_units, size_check, struct_check, extension_member_check, extension_members, extension_as, decl_check, site, file_check}
use Rattle.body_check.specs.Files.{units_or_none, file_units, file_asks}
use Rattle.type_infer.specs.Sound.{Anything, IfThere}
use Rattle.object_coverage.specs.CodeKeys.{type_keys, types_keys, receiver_keys, initial_keys, steps_keys, unit_keys}
use Rattle.object_coverage.proofs.Giving.{HasValue, Gives, KeyIs, all-append, gives-any, gives-bind, gives-noting, gives-noting-what, gives-tried, gives-hushed, gives-all, ends-used, value-is}
use Rattle.object_coverage.proofs.CodeLemmas.{LaidType, LaidCode, LaidTyped, LaidInitial, LaidUnit, all-flat, laid-return, laid-behind, steps-laid}
use Rattle.object_coverage.proofs.ExpressionLemmas.{IsLaidScope, SelfIs, laid-out-asks, written-laid}
use Rattle.object_coverage.proofs.TreeLemmas.{expression-laid}
use Rattle.object_coverage.proofs.StatementLemmas.{LaidRead, declaring-laid, block-laid, fitting-laid, statements-laid}

module _ (m : Key → Meaning) (K : Key → Type 0) where
  abbrev Fine : {X : Type 0} → (X → Type 0) → CheckOf X → Type 0
  Fine R c = Gives m K R c

  -- a check of a file
  abbrev Whole : {X : Type 0} → (X → Type 0) → FileCheck X → Type 0
  Whole R c = Gives (answering m) (KeyIs K) R c

  abbrev LaidUnits : List CodeUnit → Type 0
  LaidUnits units = AllByRecursion (LaidUnit K) units

  whole : {X : Type 0} (R : X → Type 0) (c : CheckOf X) → Fine R c → Whole R (used c)
  whole R c h = ends-used m K (HasValue R) c h

  -- Functions.

  all-there-laid : {X : Type 0} (R : X → Type 0) (os : List (Option X)) → AllByRecursion (IfThere R) os → IfThere (AllByRecursion R) (all_there os)
  all-there-laid R [] h = tt
  all-there-laid R (None ∷ os) h = tt
  all-there-laid R (Some x ∷ os) h = consed-laid R x (all_there os) h.0 (all-there-laid R os h.1)
    where
      consed-laid : {X : Type 0} (R : X → Type 0) (x : X) (xs : Option (List X)) → R x → IfThere (AllByRecursion R) xs → IfThere (AllByRecursion R) (consed x xs)
      consed-laid R x None h g = tt
      consed-laid R x (Some xs) h g = (h, g)

  params-laid : (ps : List Param) (s : Scope) → IsLaidScope K s → Fine (IsLaidScope K) (params_read ps s)
  params-laid [] s p = p
  params-laid (x ∷ ps) s p =
      gives-bind m K (IfThere (LaidType K)) (IsLaidScope K) (tried (type_written s x.type_name.name)) _ (gives-tried m K (LaidType K) (type_written s x.type_name.name) (written-laid m K s p x.type_name.name)) (λ of h.
      gives-bind m K (IfThere Anything) (IsLaidScope K) (tried (not_declared s x.name)) _ (gives-tried m K Anything (not_declared s x.name) (gives-any m K (not_declared s x.name))) (λ _ _.
      params-laid ps (declaring s x.name.text of false) (declaring-laid m K s x.name.text of false p h)))

  result-laid : (s : Scope) → IsLaidScope K s → (o : Option (Leaf × TypeName)) → Fine (LaidType K) (result_type s o)
  result-laid s p None = tt
  result-laid s p (Some (arrow, t)) = written-laid m K s p t.name

  ended-laid : (falls : Bool) (code : List Step) → LaidCode K code → LaidCode K (ended falls code)
  ended-laid true code h = laid-behind K code (step.Return ty.Void) h (laid-return K ty.Void tt)
  ended-laid false code h = h

  receiver-laid : (o : Option Ty) → IfThere (LaidType K) o → AllByRecursion K (receiver_keys o)
  receiver-laid None h = tt
  receiver-laid (Some of) h = h

  units-laid : (symbol : List ℕ) (receiver : Option Ty) (params : ℕ) (falls : Bool) (types : Option (List Ty)) (result : Option Ty) (code : Option (List Step)) →
      IfThere (LaidType K) receiver → IfThere (AllByRecursion (LaidType K)) types → IfThere (LaidType K) result → IfThere (LaidCode K) code → LaidUnits (function_units symbol receiver params falls types result code)
  units-laid symbol receiver params falls None result code r t g c = tt
  units-laid symbol receiver params falls (Some types) None code r t g c = tt
  units-laid symbol receiver params falls (Some types) (Some result) None r t g c = tt
  units-laid symbol receiver params falls (Some types) (Some result) (Some code) r t g c = (
    all-append K (receiver_keys receiver) (types_keys types ++ (type_keys result ++ steps_keys (ended falls code))) (receiver-laid receiver r)
        (all-append K (types_keys types) (type_keys result ++ steps_keys (ended falls code)) (all-flat K type_keys types t)
        (all-append K (type_keys result) (steps_keys (ended falls code)) g (steps-laid K (ended falls code) (ended-laid falls code c)))),
    tt,
  )

  end-laid : (s : Scope) (symbol : List ℕ) (name : Leaf) (params : ℕ) (falls : Bool) (gives : Option Ty) (r : Scope × Option (List Step)) →
      IsLaidScope K s → IfThere (LaidType K) gives → LaidRead m K r → Fine LaidUnits (function_end s symbol name params falls gives r)
  end-laid s symbol name params falls gives (inner, code) p g l = units-laid symbol s.self_type params falls (all_there inner.types) gives code p.receiver (all-there-laid (LaidType K) inner.types l.0.types) g l.1

  function-laid : (s : Scope) (symbol : List ℕ) (name : Leaf) (ps : List Param) (result : CheckOf Ty) (body : Block) → IsLaidScope K s → Fine (LaidType K) result → Fine LaidUnits (function_check s symbol name ps result body)
  function-laid s symbol name ps result body p h =
      gives-bind m K (IfThere (LaidType K)) LaidUnits (tried result) _ (gives-tried m K (LaidType K) result h) (λ gives g.
      gives-bind m K (IsLaidScope K) LaidUnits (params_read ps (in_function s gives)) _ (params-laid ps (in_function s gives) (record { emits = p.emits; self = p.self; receiver = p.receiver; locals = (tt, tt); types = p.types })) (λ front f.
      gives-bind m K (LaidRead m K) LaidUnits (in_block (block_statements body) front) _ (block-laid m K (block_statements body) front (statements-laid m K body) f) (λ r l.
      end-laid s symbol name (length ps) (falls_through (block_statements body)) gives r p g l)))

  -- Initial values.

  outside-laid : (f : Site) → IsLaidScope K (outside f)
  outside-laid f = record { emits = refl; self = tt; receiver = tt; locals = tt; types = tt }

  -- the type of `self` in a struct, or none
  abbrev IsSelf : List ℕ → Option Ty → Type 0
  IsSelf context of = SelfIs (Some context) of × IfThere (LaidType K) of

  inside-laid : (f : Site) (context : List ℕ) (of : Option Ty) → IsSelf context of → IsLaidScope K (inside f context of)
  inside-laid f context of h = record { emits = refl; self = h.0; receiver = h.1; locals = tt; types = tt }

  unless-laid : (x : Meaning) (c : CheckOf Typed) → Fine (LaidTyped K) c → Fine (LaidTyped K) (unless_circular x c)
  unless-laid means.Circular c h = gives-hushed m K (LaidTyped K) c h
  unless-laid means.NoProvider c h = h
  unless-laid means.Ambiguous c h = h
  unless-laid means.Broken c h = h
  unless-laid (means.Value mutable of) c h = h
  unless-laid (means.Function ps r) c h = h
  unless-laid (means.Struct context) c h = h
  unless-laid (means.Alias of) c h = h
  unless-laid (means.Fields fs w) c h = h

  abbrev LaidPhraseAt : Phrase → Type 0
  LaidPhraseAt v = (s : Scope) → IsLaidScope K s → Fine (LaidTyped K) (v.check s)

  fitting-value-laid : (s : Scope) (wanted : Option (Option Ty)) (value : Phrase) → LaidPhraseAt value → IsLaidScope K s → Fine (LaidTyped K) (fitting_value s wanted value)
  fitting-value-laid s wanted value h p = gives-bind m K (IfThere (LaidTyped K)) (LaidTyped K) (tried (value.check s)) _ (gives-tried m K (LaidTyped K) (value.check s) (h s p)) (λ v l. fitting-laid m K value.first wanted v l)

  value-laid : (f : Site) (key : Key) (annotation : Option (Leaf × TypeName)) (value : Phrase) → LaidPhraseAt value → Whole (IfThere (LaidTyped K)) (value_check f key annotation value)
  value-laid f key annotation value h =
      gives-bind (answering m) (KeyIs K) Anything (IfThere (LaidTyped K)) (used (tried (annotated (outside f) annotation))) _ (gives-any (answering m) (KeyIs K) (used (tried (annotated (outside f) annotation)))) (λ wanted _.
      λ _. whole (IfThere (LaidTyped K)) (tried (unless_circular (m key) (fitting_value (outside f) wanted value)))
      (gives-tried m K (LaidTyped K) (unless_circular (m key) (fitting_value (outside f) wanted value)) (unless-laid (m key) (fitting_value (outside f) wanted value) (fitting-value-laid (outside f) wanted value h (outside-laid f)))))

  global-units-laid : (symbol : List ℕ) (o : Option Typed) → IfThere (LaidTyped K) o → LaidUnits (global_units symbol o)
  global-units-laid symbol None h = tt
  global-units-laid symbol (Some v) h = (all-append K (type_keys v.ty) (steps_keys v.code) h.0 (steps-laid K v.code h.1), tt)

  own-laid : (o : Option Typed) → IfThere (LaidTyped K) o → IfThere (LaidInitial K) (own_code o)
  own-laid None h = tt
  own-laid (Some v) h = steps-laid K v.code h.1

  handed-laid : (o : Option Ty) → IfThere (LaidType K) o → IfThere (LaidInitial K) (handed_in o)
  handed-laid None h = tt
  handed-laid (Some of) h = h

  stored-laid : (f : Site) (key : Key) (value : StoredValue) → Whole (IfThere (LaidInitial K)) (stored_check f key value)
  stored-laid f key (WithType colon t None) =
      gives-bind (answering m) (KeyIs K) (IfThere (LaidType K)) (IfThere (LaidInitial K)) (used (tried (type_written (outside f) t.name))) _
      (whole (IfThere (LaidType K)) (tried (type_written (outside f) t.name)) (gives-tried m K (LaidType K) (type_written (outside f) t.name) (written-laid m K (outside f) (outside-laid f) t.name))) (λ of h. handed-laid of h)
  stored-laid f key (WithType colon t (Some (assign, value))) =
      gives-bind (answering m) (KeyIs K) (IfThere (LaidTyped K)) (IfThere (LaidInitial K)) (value_check f key (Some (colon, t)) (expr_phrase value)) _ (value-laid f key (Some (colon, t)) (expr_phrase value) (expression-laid m K value)) (λ v h. own-laid v h)
  stored-laid f key (Inferred assign value) =
      gives-bind (answering m) (KeyIs K) (IfThere (LaidTyped K)) (IfThere (LaidInitial K)) (value_check f key None (expr_phrase value)) _ (value-laid f key None (expr_phrase value) (expression-laid m K value)) (λ v h. own-laid v h)

  -- Members.

  method-laid : (f : Site) (context : List ℕ) (of : Option Ty) (access : Option Access) (d : Func) → IsSelf context of → Whole LaidUnits (method_check f context of access d)
  method-laid f context of access d h =
      gives-noting (answering m) (KeyIs K) LaidUnits (standing f (told context access d.name) (member context (name_in_keys f access d.name)) d.name) _
      (whole LaidUnits _ (function-laid (inside f context of) (member_symbol (member context (name_in_keys f access d.name))) d.name (params_of d.params) (result_type (inside f context of) d.result_type) d.body
      (inside-laid f context of h) (result-laid (inside f context of) (inside-laid f context of h) d.result_type)))

  computed-laid : (f : Site) (context : List ℕ) (of : Option Ty) (access : Option Access) (d : Computed) → IsSelf context of → Whole LaidUnits (computed_check f context of access d)
  computed-laid f context of access d h =
      gives-noting (answering m) (KeyIs K) LaidUnits (standing f (told context access d.name) (member context (name_in_keys f access d.name)) d.name) _
      (whole LaidUnits _ (function-laid (inside f context of) (member_symbol (member context (name_in_keys f access d.name))) d.name [] (type_written (inside f context of) d.type_name.name) d.body
      (inside-laid f context of h) (written-laid m K (inside f context of) (inside-laid f context of h) d.type_name.name)))

  abbrev LaidMember : MemberCode → Type 0
  LaidMember x = AllByRecursion (IfThere (LaidInitial K)) x.initials × LaidUnits x.units

  struct-member-laid : (f : Site) (context : List ℕ) → K (nominal context) → (x : Option Access × StructMember) → Whole LaidMember (struct_member_check f context x)
  struct-member-laid f context k (access, part.Stored d) =
      gives-noting (answering m) (KeyIs K) LaidMember (standing f (told context access d.name) (member context (name_in_keys f access d.name)) d.name) _
      (gives-bind (answering m) (KeyIs K) (IfThere (LaidInitial K)) LaidMember (stored_check f (member context (name_in_keys f access d.name)) d.value) _ (stored-laid f (member context (name_in_keys f access d.name)) d.value) (λ initial h. ((h, tt), tt)))
  struct-member-laid f context k (access, part.Computed d) =
      gives-bind (answering m) (KeyIs K) LaidUnits LaidMember (computed_check f context (Some (ty.Struct context)) access d) _ (computed-laid f context (Some (ty.Struct context)) access d (refl, (k, tt))) (λ units h. (tt, h))
  struct-member-laid f context k (access, part.Func d) =
      gives-bind (answering m) (KeyIs K) LaidUnits LaidMember (method_check f context (Some (ty.Struct context)) access d) _ (method-laid f context (Some (ty.Struct context)) access d (refl, (k, tt))) (λ units h. (tt, h))

  struct-members-laid : (f : Site) (context : List ℕ) → K (nominal context) → (xs : List (Option Access × StructMember)) → AllByRecursion (λ c. Whole LaidMember c) (map (struct_member_check f context) xs)
  struct-members-laid f context k [] = tt
  struct-members-laid f context k (x ∷ xs) = (struct-member-laid f context k x, struct-members-laid f context k xs)

  all-initials : (ms : List MemberCode) → AllByRecursion LaidMember ms → AllByRecursion (IfThere (LaidInitial K)) (flat_map (λ (x : MemberCode). x.initials) ms)
  all-initials [] h = tt
  all-initials (x ∷ ms) h = all-append (IfThere (LaidInitial K)) x.initials (flat_map (λ (x : MemberCode). x.initials) ms) h.0.0 (all-initials ms h.1)

  all-units : (ms : List MemberCode) → AllByRecursion LaidMember ms → LaidUnits (flat_map (λ (x : MemberCode). x.units) ms)
  all-units [] h = tt
  all-units (x ∷ ms) h = all-append (LaidUnit K) x.units (flat_map (λ (x : MemberCode). x.units) ms) h.0.1 (all-units ms h.1)

  initializer-laid : (context : List ℕ) (o : Option (List Initial)) → K (nominal context) → IfThere (AllByRecursion (LaidInitial K)) o → LaidUnits (initializer_units context o)
  initializer-laid context None k h = tt
  initializer-laid context (Some initials) k h = ((k, all-flat K initial_keys initials h), tt)

  struct-units-laid : (context : List ℕ) (ms : List MemberCode) → K (nominal context) → AllByRecursion LaidMember ms → LaidUnits (struct_units context ms)
  struct-units-laid context ms k h =
      all-append (LaidUnit K) (initializer_units context (all_there (flat_map (λ (x : MemberCode). x.initials) ms))) (flat_map (λ (x : MemberCode). x.units) ms)
      (initializer-laid context (all_there (flat_map (λ (x : MemberCode). x.initials) ms)) k (all-there-laid (LaidInitial K) (flat_map (λ (x : MemberCode). x.initials) ms) (all-initials ms h))) (all-units ms h)

  struct-inside-laid : (f : Site) (context : List ℕ) (d : Struct) (fields : Meaning) → K (nominal context) →
      Whole LaidUnits (noting (lines_of (circle d.name fields)) (noting (size_check f context d fields) (go_on (all (map (struct_member_check f context) d.members)) (λ members. sure (struct_units context members)))))
  struct-inside-laid f context d fields k =
      gives-noting (answering m) (KeyIs K) LaidUnits (lines_of (circle d.name fields)) _
      (gives-noting (answering m) (KeyIs K) LaidUnits (size_check f context d fields) _
      (gives-bind (answering m) (KeyIs K) (AllByRecursion LaidMember) LaidUnits (all (map (struct_member_check f context) d.members)) _
      (gives-all (answering m) (KeyIs K) LaidMember (map (struct_member_check f context) d.members) (struct-members-laid f context k d.members)) (λ members h. struct-units-laid context members k h)))

  struct-laid : (f : Site) (access : Option Access) (d : Struct) → Whole LaidUnits (struct_check f access d)
  struct-laid f access d =
      let context = name_in_keys f access d.name in
      let members = go_on (all (map (struct_member_check f context) d.members)) (λ members. sure (struct_units context members)) in
      let inside_check : UnitCheck = used_meaning (nominal context) (λ fields. noting (lines_of (circle d.name fields)) (noting (size_check f context d fields) members)) in
      let inside_is : Whole LaidUnits inside_check = (λ k. struct-inside-laid f context d (m (nominal context)) k) in
      gives-noting (answering m) (KeyIs K) LaidUnits (standing f (told [] access d.name) (top_level context) d.name) inside_check inside_is

  -- Files.

  all-joined : (us : List (List CodeUnit)) → AllByRecursion LaidUnits us → LaidUnits (flat_map (λ us. us) us)
  all-joined us h = all-flat (LaidUnit K) (λ us. us) us h

  in-order-laid : (cs : List UnitCheck) → AllByRecursion (λ c. Whole LaidUnits c) cs → Whole LaidUnits (in_order cs)
  in-order-laid cs h = gives-bind (answering m) (KeyIs K) (AllByRecursion LaidUnits) LaidUnits (all cs) _ (gives-all (answering m) (KeyIs K) LaidUnits cs h) (λ us l. all-joined us l)

  extension-members-laid : (f : Site) (context : List ℕ) (of : Option Ty) (xs : List (Option Access × ExtensionMember)) → IsSelf context of → AllByRecursion (λ c. Whole LaidUnits c) (map (extension_member_check f context of) xs)
  extension-members-laid f context of [] h = tt
  extension-members-laid f context of ((access, extended.Computed d) ∷ xs) h = (computed-laid f context of access d h, extension-members-laid f context of xs h)
  extension-members-laid f context of ((access, extended.Func d) ∷ xs) h = (method-laid f context of access d h, extension-members-laid f context of xs h)

  extension-laid : (f : Site) (context : List ℕ) (of : Option Ty) (d : Extension) → IsSelf context of → Whole LaidUnits (extension_members f context of d)
  extension-laid f context of d h = in-order-laid (map (extension_member_check f context of) d.members) (extension-members-laid f context of d.members h)

  no-struct : (f : Site) (context : List ℕ) (d : Extension) → Whole LaidUnits (noting {X = _} (lines_of (line (place_of d.name) (is.NotAStruct d.name.text) ∷ [])) (hushed (extension_members f context None d)))
  no-struct f context d =
      gives-noting (answering m) (KeyIs K) LaidUnits (lines_of (line (place_of d.name) (is.NotAStruct d.name.text) ∷ [])) _
      (gives-hushed (answering m) (KeyIs K) LaidUnits (extension_members f context None d) (extension-laid f context None d (tt, tt)))

  extension-as-laid : (f : Site) (context : List ℕ) (d : Extension) (x : Meaning) → Whole LaidUnits (extension_as f context d x)
  extension-as-laid f context d (means.Struct other) =
      gives-noting-what (answering m) (KeyIs K) (LaidType K (ty.Struct context)) LaidUnits (used (laid_out (place_of d.name) (ty.Struct context))) (extension_members f context (Some (ty.Struct context)) d)
      (ends-used m K (λ r. LaidType K (ty.Struct context)) (laid_out (place_of d.name) (ty.Struct context)) (laid-out-asks m K (place_of d.name) (ty.Struct context)))
      (λ k. extension-laid f context (Some (ty.Struct context)) d (refl, k))
  extension-as-laid f context d means.NoProvider = no-struct f context d
  extension-as-laid f context d means.Ambiguous = no-struct f context d
  extension-as-laid f context d means.Broken = no-struct f context d
  extension-as-laid f context d means.Circular = no-struct f context d
  extension-as-laid f context d (means.Value mutable of) = no-struct f context d
  extension-as-laid f context d (means.Function ps r) = no-struct f context d
  extension-as-laid f context d (means.Alias of) = no-struct f context d
  extension-as-laid f context d (means.Fields fs w) = no-struct f context d

  decl-laid : (f : Site) (x : Decl) → Whole LaidUnits (decl_check f x)
  decl-laid f (NamedAs access (named.Global d)) =
      gives-noting (answering m) (KeyIs K) LaidUnits (standing f (told [] access d.name) (top_level (name_in_keys f access d.name)) d.name) _
      (gives-bind (answering m) (KeyIs K) (IfThere (LaidTyped K)) LaidUnits (value_check f (top_level (name_in_keys f access d.name)) d.annotation (expr_phrase d.value)) _
      (value-laid f (top_level (name_in_keys f access d.name)) d.annotation (expr_phrase d.value) (expression-laid m K d.value)) (λ v h. global-units-laid (name_in_keys f access d.name) v h))
  decl-laid f (NamedAs access (named.Func d)) =
      gives-noting (answering m) (KeyIs K) LaidUnits (standing f (told [] access d.name) (top_level (name_in_keys f access d.name)) d.name) _
      (whole LaidUnits _ (function-laid (outside f) (name_in_keys f access d.name) d.name (params_of d.params) (result_type (outside f) d.result_type) d.body (outside-laid f) (result-laid (outside f) (outside-laid f) d.result_type)))
  decl-laid f (NamedAs access (named.Alias d)) =
      gives-noting (answering m) (KeyIs K) LaidUnits (standing f (told [] access d.name) (top_level (name_in_keys f access d.name)) d.name) _
      (gives-noting (answering m) (KeyIs K) LaidUnits (owned (type_named f.path d.type_name.name)) (sure []) tt)
  decl-laid f (NamedAs access (named.Struct d)) = struct-laid f access d
  decl-laid f (Extended d) = λ _. extension-as-laid f (key_name f.path (is_among f.own_structs d.name.text) d.name.text) d (m (top_level (key_name f.path (is_among f.own_structs d.name.text) d.name.text)))

  decls-laid : (f : Site) (xs : List Decl) → AllByRecursion (λ c. Whole LaidUnits c) (map (decl_check f) xs)
  decls-laid f [] = tt
  decls-laid f (x ∷ xs) = (decl-laid f x, decls-laid f xs)

  file-laid : (f : FileTree) → Whole LaidUnits (file_check f)
  unfolding file_check
  file-laid f = in-order-laid (map (decl_check (site f)) f.decls) (decls-laid (site f) f.decls)

  or-none : (o : Option (List CodeUnit)) → IfThere LaidUnits o → LaidUnits (units_or_none o)
  or-none None h = tt
  or-none (Some units) h = h

  units-of-file : (f : FileTree) → ((key : Key) → Among (file_asks m f) key → K key) → LaidUnits (file_units m f)
  unfolding file_units file_asks
  units-of-file f h = or-none (value_with (answering m) (file_check f)).value (value-is m K (HasValue LaidUnits) (file_check f) (file-laid f) h)

all-among : {X : Type 0} (R : X → Type 0) (xs : List X) → AllByRecursion R xs → (x : X) → Among xs x → R x
all-among R [] h x w = absurd w
all-among R (y ∷ xs) h x w = elim w [ inl e ↦ subst R e h.0 | inr n ↦ all-among R xs h.1 x n ]

-- The keys that the code of a file is laid out by were asked when the file was checked.
pub layouts-asked : (m : Key → Meaning) (f : FileTree) (key : Key) → Among (flat_map unit_keys (file_units m f)) key → Among (file_asks m f) key
layouts-asked m f key w =
    all-among (λ k. Among (file_asks m f) k) (flat_map unit_keys (file_units m f)) (all-flat (λ k. Among (file_asks m f) k) unit_keys (file_units m f) (units-of-file m (λ k. Among (file_asks m f) k) f (λ k h. h))) key w
