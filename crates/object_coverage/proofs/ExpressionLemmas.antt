-- Where all that is asked is among some keys, the structs in the code of names, members, operators and calls are laid out by these.
use Rattle.std.proofs.Common.{◌≡◌, ℕ, Bool, true, false, List, [], ◌∷◌, ◌++◌, map, Option, Some, None, refl, sym, subst}
use Rattle.std.specs.Prelude.{codes, flat_map, if◌then◌else◌}
use Rattle.std.specs.List.{AllByRecursion}
use Rattle.dep_key.specs.declared.key.Key.{Key}
use Rattle.dep_key.specs.declared.kind.Kind.{Kind}
use Rattle.dep_key.specs.declared.kind.Kind.TheVariants as kind
use Rattle.dep_key.specs.KeyBuilders.{nominal}
use Rattle.swift_ast.specs.Leaves.{Leaf}
use Rattle.type_rules.specs.Operators.{Row, result_in, is_about, binary_rows, unary_rows, binary_type, unary_type}
use Rattle.type_rules.specs.Sameness.{same_type}
use Rattle.type_rules.specs.declared.ty.Ty.{Ty}
use Rattle.type_rules.specs.declared.ty.Ty.TheVariants as ty
use Rattle.type_rules.specs.declared.meaning.Meaning.{Meaning}
use Rattle.type_rules.specs.declared.meaning.Meaning.TheVariants as means
use Rattle.type_rules.specs.declared.meaning.Parameter.{Parameter}
use Rattle.typed_code.specs.declared.step.Step.{Step}
use Rattle.typed_code.specs.declared.step.Step.TheVariants as step
use Rattle.checks.specs.Checks.{sure}
use Rattle.expr_check.specs.declared.place.Place.{Place}
use Rattle.expr_check.specs.declared.typed.Typed.{Typed}
use Rattle.expr_check.specs.declared.named.Named.{Named}
use Rattle.expr_check.specs.declared.named.Named.TheVariants as named
use Rattle.expr_check.specs.declared.scope.Local.{Local}
use Rattle.expr_check.specs.declared.scope.Scope.{Scope}
use Rattle.expr_check.specs.Messages.{place_of}
use Rattle.expr_check.specs.Scopes.{local_named, named_in, or_else, same_text}
use Rattle.expr_check.specs.Types.{CheckOf, Found, provided, look_up, member_keys, usable, type_named, laid_out_as, laid_out, valued, type_written}
use Rattle.expr_check.specs.Expressions.{converted, keys_in, value_keys, by_kind, value_of, value_meant, is_print, value_found, named_beyond, name_of, value_by, self_in, self_value, property, local_value, name_value, name_check, member_there, member_named, member_value, operator_of, operator_code, binary_as, binary, prefix_step, unary_as, unary, Given, Callee, Takes, Prints, IsValue, same_labels, fitted, received, call_code, is_printed, printed, print_call, call, initializer_of, type_callee, function_callee, value_callee, callee_meant, callee_found, callee_beyond, callee_named, method_meant, method_named}
use Rattle.type_infer.specs.Sound.{Anything, IfThere}
use Rattle.object_coverage.proofs.Giving.{EndsIn, HasValue, Gives, BothAre, all-append, ends-weaker, gives-any, gives-bind, gives-noting-what, gives-all, gives-choice}
use Rattle.object_coverage.proofs.CodeLemmas.{LaidType, LaidStep, LaidCode, LaidTyped, laid-local, laid-self, laid-global, laid-property, laid-call, laid-print, laid-operate, laid-negate, laid-not, laid-and, laid-or, laid-behind}

-- `self` has the type of the struct whose member it stands in
abbrev pub SelfIs : Option (List ℕ) → Option Ty → Type 0
SelfIs (Some context) (Some of) = of ≡ ty.Struct context
SelfIs (Some context) None = Unit {0}
SelfIs None of = Unit {0}

-- The types of `self`, of the locals and of all locals so far are laid out, and what is read is emitted.
pub record IsLaidScope (K : Key → Type 0) (s : Scope) : Type 0 where
  pub emits : s.emits ≡ true
  pub self : SelfIs s.context s.self_type
  pub receiver : IfThere (LaidType K) s.self_type
  pub locals : AllByRecursion (λ block. AllByRecursion (λ (l : Local). IfThere (LaidType K) l.ty) block) s.blocks
  pub types : AllByRecursion (IfThere (LaidType K)) s.types

-- a member of a context that is in scope
abbrev pub InContext : Option (List ℕ) → Kind → Key → Type 0
InContext context kind.Member key = context ≡ Some key.context
InContext context kind.TopLevel key = Unit {0}
InContext context kind.Nominal key = Unit {0}
InContext context kind.PotentialMember key = Unit {0}
InContext context kind.DynamicLookup key = Unit {0}
InContext context kind.ExternalDepend key = Unit {0}
InContext context kind.SourceFileProvide key = Unit {0}

abbrev pub IsInContext : Scope → Key → Type 0
IsInContext s key = InContext s.context key.kind key

module _ (m : Key → Meaning) (K : Key → Type 0) where
  -- A check whose value, where it has one, is so.
  abbrev Fine : {X : Type 0} → (X → Type 0) → CheckOf X → Type 0
  Fine R c = Gives m K R c

  -- Look-ups.

  provided-laid : (Q : Key → Type 0) (key : Key) (x : Meaning) (others : CheckOf (Option Found)) → Q key → Fine (IfThere (λ f. Q f.0)) others → Fine (IfThere (λ f. Q f.0)) (provided key x others)
  provided-laid Q key means.NoProvider others h s = s
  provided-laid Q key means.Ambiguous others h s = h
  provided-laid Q key means.Broken others h s = h
  provided-laid Q key means.Circular others h s = h
  provided-laid Q key (means.Value mutable of) others h s = h
  provided-laid Q key (means.Function ps r) others h s = h
  provided-laid Q key (means.Struct c) others h s = h
  provided-laid Q key (means.Alias of) others h s = h
  provided-laid Q key (means.Fields fs w) others h s = h

  -- what is found is one of the keys
  look-laid : (Q : Key → Type 0) (keys : List Key) → AllByRecursion Q keys → Fine (IfThere (λ f. Q f.0)) (look_up keys)
  unfolding look_up
  look-laid Q [] h = tt
  look-laid Q (key ∷ keys) h = λ _. provided-laid Q key (m key) (look_up keys) h.0 (look-laid Q keys h.1)

  -- Types.

  -- whatever the layout of a type is, it was asked
  abbrev pub Laid : Ty → Ty → Type 0
  Laid of u = LaidType K of × LaidType K u

  laid-out-as : (at : Place) (c : List ℕ) (x : Meaning) → K (nominal c) → EndsIn m K (λ r. LaidType K (ty.Struct c) × HasValue (Laid (ty.Struct c)) r) (laid_out_as at c x)
  laid-out-as at c means.Broken k = ((k, tt), tt)
  laid-out-as at c means.Circular k = ((k, tt), tt)
  laid-out-as at c means.NoProvider k = ((k, tt), ((k, tt), (k, tt)))
  laid-out-as at c means.Ambiguous k = ((k, tt), ((k, tt), (k, tt)))
  laid-out-as at c (means.Value mutable of) k = ((k, tt), ((k, tt), (k, tt)))
  laid-out-as at c (means.Function ps r) k = ((k, tt), ((k, tt), (k, tt)))
  laid-out-as at c (means.Struct d) k = ((k, tt), ((k, tt), (k, tt)))
  laid-out-as at c (means.Alias of) k = ((k, tt), ((k, tt), (k, tt)))
  laid-out-as at c (means.Fields fs w) k = ((k, tt), ((k, tt), (k, tt)))

  laid-out-ends : (at : Place) (of : Ty) → EndsIn m K (λ r. LaidType K of × HasValue (Laid of) r) (laid_out at of)
  laid-out-ends at (ty.Struct c) = λ k. laid-out-as at c (m (nominal c)) k
  laid-out-ends at ty.Int = (tt, (tt, tt))
  laid-out-ends at ty.String = (tt, (tt, tt))
  laid-out-ends at ty.Bool = (tt, (tt, tt))
  laid-out-ends at ty.Void = (tt, (tt, tt))

  pub laid-out-asks : (at : Place) (of : Ty) → EndsIn m K (λ r. LaidType K of) (laid_out at of)
  laid-out-asks at of = ends-weaker m K (λ r. LaidType K of × HasValue (Laid of) r) (λ r. LaidType K of) (laid_out at of) (λ r h. h.0) (laid-out-ends at of)

  pub valued-asks : (s : Scope) → IsLaidScope K s → (at : Place) (of : Ty) → EndsIn m K (λ r. LaidType K of) (valued s at of)
  valued-asks s p at of = subst (λ b. EndsIn m K (λ r. LaidType K of) (if b then laid_out at of else sure of)) (sym p.emits) (laid-out-asks at of)

  pub valued-laid : (s : Scope) → IsLaidScope K s → (at : Place) (of : Ty) → Fine (Laid of) (valued s at of)
  valued-laid s p at of =
      subst (λ b. Fine (Laid of) (if b then laid_out at of else sure of)) (sym p.emits)
      (ends-weaker m K (λ r. LaidType K of × HasValue (Laid of) r) (HasValue (Laid of)) (laid_out at of) (λ r h. h.1) (laid-out-ends at of))

  pub written-laid : (s : Scope) → IsLaidScope K s → (t : Leaf) → Fine (LaidType K) (type_written s t)
  written-laid s p t =
      gives-bind m K Anything (LaidType K) (type_named s.path t) _ (gives-any m K (type_named s.path t)) (λ of _.
      gives-noting-what m K (LaidType K of) (LaidType K) (valued s (place_of t) of) (sure of) (valued-asks s p (place_of t) of) (λ h. h))

  -- Names.

  abbrev pub LaidNamed : Scope → Named → Type 0
  LaidNamed s (named.Local l) = IfThere (LaidType K) l.ty
  LaidNamed s (named.Global key mutable of) = Unit {0}
  LaidNamed s (named.OfSelf key mutable of) = s.context ≡ Some key.context

  keys-in-context : (c : Option (List ℕ)) (path name : List ℕ) → AllByRecursion (λ key. InContext c key.kind key) (keys_in c path name)
  keys-in-context None path name = (tt, (tt, tt))
  keys-in-context (Some c) path name = (refl, (refl, (tt, (tt, tt))))

  name-chosen : (s : Scope) (kind : Kind) (key : Key) (mutable : Bool) (of : Ty) → InContext s.context kind key → LaidNamed s (by_kind kind (named.OfSelf key mutable of) (named.Global key mutable of))
  name-chosen s kind.Member key mutable of h = h
  name-chosen s kind.TopLevel key mutable of h = tt
  name-chosen s kind.Nominal key mutable of h = tt
  name-chosen s kind.PotentialMember key mutable of h = tt
  name-chosen s kind.DynamicLookup key mutable of h = tt
  name-chosen s kind.ExternalDepend key mutable of h = tt
  name-chosen s kind.SourceFileProvide key mutable of h = tt

  value-meant-laid : (s : Scope) (t : Leaf) (key : Key) (x : Meaning) → IsInContext s key → Fine (LaidNamed s) (value_meant t key x)
  value-meant-laid s t key (means.Value mutable of) h = name-chosen s key.kind key mutable of h
  value-meant-laid s t key means.NoProvider h = tt
  value-meant-laid s t key means.Ambiguous h = tt
  value-meant-laid s t key means.Broken h = tt
  value-meant-laid s t key means.Circular h = tt
  value-meant-laid s t key (means.Function ps r) h = tt
  value-meant-laid s t key (means.Struct c) h = tt
  value-meant-laid s t key (means.Alias of) h = tt
  value-meant-laid s t key (means.Fields fs w) h = tt

  value-found-laid : (s : Scope) (t : Leaf) (o : Option Found) → IfThere (λ f. IsInContext s f.0) o → Fine (LaidNamed s) (value_found t o)
  value-found-laid s t None h = gives-choice m K (LaidNamed s) (is_print t) _ _ tt tt
  value-found-laid s t (Some f) h = gives-bind m K Anything (LaidNamed s) (usable t f.1) _ (gives-any m K (usable t f.1)) (λ x _. value-meant-laid s t f.0 x h)

  abbrev LaidLocal : Local → Type 0
  LaidLocal l = IfThere (LaidType K) l.ty

  beyond-laid : (s : Scope) (t : Leaf) (o : Option Local) → IfThere LaidLocal o → Fine (LaidNamed s) (named_beyond s t o)
  beyond-laid s t (Some l) h = h
  beyond-laid s t None h =
      gives-bind m K (IfThere (λ f. IsInContext s f.0)) (LaidNamed s) (look_up (value_keys s t.text)) _ (look-laid (IsInContext s) (value_keys s t.text) (keys-in-context s.context s.path t.text)) (λ o g. value-found-laid s t o g)

  named-laid : (ls : List Local) (name : List ℕ) → AllByRecursion LaidLocal ls → IfThere LaidLocal (named_in ls name)
  named-laid [] name h = tt
  named-laid (l ∷ ls) name h = elim (same_text l.name name) as (λ v. IfThere LaidLocal (if v then Some l else named_in ls name)) [ true ↦ h.0 | false ↦ named-laid ls name h.1 ]

  else-laid : (o p : Option Local) → IfThere LaidLocal o → IfThere LaidLocal p → IfThere LaidLocal (or_else o p)
  else-laid (Some l) p h g = h
  else-laid None p h g = g

  local-laid : (bs : List (List Local)) (name : List ℕ) → AllByRecursion (λ b. AllByRecursion LaidLocal b) bs → IfThere LaidLocal (local_named bs name)
  local-laid [] name h = tt
  local-laid (b ∷ bs) name h = else-laid (local_named bs name) (named_in b name) (local-laid bs name h.1) (named-laid b name h.0)

  pub name-of-laid : (s : Scope) (t : Leaf) → IsLaidScope K s → Fine (LaidNamed s) (name_of s t)
  name-of-laid s t p = beyond-laid s t (local_named s.blocks t.text) (local-laid s.blocks t.text p.locals)

  value-by-laid : (s : Scope) → IsLaidScope K s → (at : Place) (of : Ty) (made : Ty → Step) → ((u : Ty) → LaidType K u → LaidStep K (made u)) → Fine (LaidTyped K) (value_by s at of made)
  value-by-laid s p at of made h = gives-bind m K (Laid of) (LaidTyped K) (valued s at of) _ (valued-laid s p at of) (λ u g. (g.1, (h u g.1, tt)))

  -- `self`, where the struct is laid out
  abbrev pub LaidSelf : Option (List ℕ) → Typed → Type 0
  LaidSelf c v = LaidTyped K v × IfThere (λ context. K (nominal context)) c

  self-in-laid : (s : Scope) → IsLaidScope K s → (t : Leaf) (c : Option (List ℕ)) (of : Option Ty) → SelfIs c of → Fine (LaidSelf c) (self_in s t c of)
  self-in-laid s p t None of h = tt
  self-in-laid s p t (Some c) None h = tt
  self-in-laid s p t (Some c) (Some of) h =
      gives-bind m K (Laid of) (LaidSelf (Some c)) (valued s (place_of t) of) _ (valued-laid s p (place_of t) of) (λ u g. ((g.1, (laid-self K u g.1, tt)), (subst (LaidType K) h g.0).0))

  pub self-laid : (s : Scope) (t : Leaf) → IsLaidScope K s → Fine (LaidSelf s.context) (self_value s t)
  self-laid s t p = self-in-laid s p t s.context s.self_type p.self

  property-laid : (s : Scope) → IsLaidScope K s → (first : Place) (base : Typed) (key : Key) (of : Ty) → LaidTyped K base → K (nominal key.context) → Fine (LaidTyped K) (property s first base key of)
  property-laid s p first base key of h k =
      gives-bind m K (Laid of) (LaidTyped K) (valued s first of) _ (valued-laid s p first of) (λ u g. (g.1, laid-behind K base.code (step.Property key.context key.name u) h.1 (laid-property K key.context key.name u k g.1)))

  local-value-laid : (s : Scope) → IsLaidScope K s → (t : Leaf) (n : ℕ) (o : Option Ty) → Fine (LaidTyped K) (local_value s t n o)
  local-value-laid s p t n None = tt
  local-value-laid s p t n (Some of) = value-by-laid s p (place_of t) of _ (λ u g. laid-local K n u g)

  pub name-value-laid : (s : Scope) (t : Leaf) (n : Named) → IsLaidScope K s → LaidNamed s n → Fine (LaidTyped K) (name_value s t n)
  name-value-laid s t (named.Local l) p h = local-value-laid s p t l.number l.ty
  name-value-laid s t (named.Global key mutable of) p h = value-by-laid s p (place_of t) of _ (λ u g. laid-global K key.name u g)
  name-value-laid s t (named.OfSelf key mutable of) p h =
      gives-bind m K (LaidSelf s.context) (LaidTyped K) (self_value s t) _ (self-laid s t p) (λ base g.
      property-laid s p (place_of t) base key of g.0 (subst (λ c. IfThere (λ context. K (nominal context)) c) h g.1))

  pub name-laid : (s : Scope) (t : Leaf) → IsLaidScope K s → Fine (LaidTyped K) (name_check s t)
  name-laid s t p = gives-bind m K (LaidNamed s) (LaidTyped K) (name_of s t) _ (name-of-laid s t p) (λ n h. name-value-laid s t n p h)

  -- Members.

  -- a member of a struct that is laid out
  abbrev pub LaidFound : Found → Type 0
  LaidFound f = K (nominal f.0.context)

  member-there-laid : (of : Ty) (t : Leaf) (o : Option Found) → IfThere LaidFound o → Fine LaidFound (member_there of t o)
  member-there-laid of t None h = tt
  member-there-laid of t (Some f) h = gives-bind m K Anything LaidFound (usable t f.1) _ (gives-any m K (usable t f.1)) (λ x _. h)

  pub member-named-laid : (s : Scope) (of : Ty) (t : Leaf) → LaidType K of → Fine LaidFound (member_named s of t)
  member-named-laid s (ty.Struct c) t h =
      gives-bind m K (IfThere LaidFound) LaidFound (look_up (member_keys s.path c t.text)) _ (look-laid (λ key. K (nominal key.context)) (member_keys s.path c t.text) (h.0, (h.0, tt))) (λ o g. member-there-laid (ty.Struct c) t o g)
  member-named-laid s ty.Int t h = tt
  member-named-laid s ty.String t h = tt
  member-named-laid s ty.Bool t h = tt
  member-named-laid s ty.Void t h = tt

  pub member-value-laid : (s : Scope) → IsLaidScope K s → (first : Place) (t : Leaf) (base : Typed) (f : Found) → LaidTyped K base → LaidFound f → Fine (LaidTyped K) (member_value s first t base f)
  member-value-laid s p first t base (key, means.Value mutable of) h k = property-laid s p first base key of h k
  member-value-laid s p first t base (key, means.NoProvider) h k = tt
  member-value-laid s p first t base (key, means.Ambiguous) h k = tt
  member-value-laid s p first t base (key, means.Broken) h k = tt
  member-value-laid s p first t base (key, means.Circular) h k = tt
  member-value-laid s p first t base (key, means.Function ps r) h k = tt
  member-value-laid s p first t base (key, means.Struct c) h k = tt
  member-value-laid s p first t base (key, means.Alias of) h k = tt
  member-value-laid s p first t base (key, means.Fields fs w) h k = tt

  -- Operators.

  rows-laid : (rows : List Row) (operator : List ℕ) (of : Ty) → AllByRecursion (λ r. LaidType K r.result) rows → IfThere (LaidType K) (result_in rows operator of)
  rows-laid [] operator of h = tt
  rows-laid (r ∷ rows) operator of h = elim (is_about operator of r) as (λ v. IfThere (LaidType K) (if v then Some r.result else result_in rows operator of)) [ true ↦ h.0 | false ↦ rows-laid rows operator of h.1 ]

  binary-rows : AllByRecursion (λ (r : Row). LaidType K r.result) binary_rows
  unfolding binary_rows
  binary-rows = (tt, (tt, (tt, (tt, (tt, (tt, (tt, (tt, (tt, (tt, (tt, (tt, (tt, (tt, (tt, (tt, (tt, (tt, (tt, (tt, (tt, (tt, tt))))))))))))))))))))))

  unary-rows : AllByRecursion (λ (r : Row). LaidType K r.result) unary_rows
  unfolding unary_rows
  unary-rows = (tt, (tt, tt))

  binary-type-laid : (operator : List ℕ) (left right : Ty) → IfThere (LaidType K) (binary_type operator left right)
  binary-type-laid operator left right =
      elim (same_type left right) as (λ v. IfThere (LaidType K) (if v then result_in binary_rows operator left else None)) [ true ↦ rows-laid binary_rows operator left binary-rows | false ↦ tt ]

  code-choice : (b : Bool) (one other : List Step) → LaidCode K one → LaidCode K other → LaidCode K (if b then one else other)
  code-choice true one other h g = h
  code-choice false one other h g = g

  operator-laid : (text : List ℕ) (of : Ty) (right : List Step) → LaidCode K right → LaidCode K (operator_code text of right)
  operator-laid text of right h =
      code-choice (same_text text (codes "&&")) _ _ (laid-and K right h, tt)
      (code-choice (same_text text (codes "||")) (step.Or right ∷ []) (right ++ step.Operate (operator_of text) of ∷ []) (laid-or K right h, tt) (laid-behind K right (step.Operate (operator_of text) of) h (laid-operate K (operator_of text) of)))

  binary-as-laid : (t : Leaf) (left right : Typed) (o : Option Ty) → LaidTyped K left → LaidTyped K right → IfThere (LaidType K) o → Fine (LaidTyped K) (binary_as t left right o)
  binary-as-laid t left right None h g k = tt
  binary-as-laid t left right (Some of) h g k = (k, all-append (LaidStep K) left.code (operator_code t.text left.ty right.code) h.1 (operator-laid t.text left.ty right.code g.1))

  pub binary-laid : (t : Leaf) (p : Typed × Typed) → BothAre (LaidTyped K) (LaidTyped K) p → Fine (LaidTyped K) (binary t p)
  binary-laid t (left, right) h = binary-as-laid t left right (binary_type t.text left.ty right.ty) h.0 h.1 (binary-type-laid t.text left.ty right.ty)

  prefix-laid : (text : List ℕ) → LaidStep K (prefix_step text)
  prefix-laid text = elim (same_text text (codes "-")) as (λ b. LaidStep K (if b then step.Negate else step.Not)) [ true ↦ laid-negate K | false ↦ laid-not K ]

  unary-as-laid : (t : Leaf) (v : Typed) (o : Option Ty) → LaidTyped K v → IfThere (LaidType K) o → Fine (LaidTyped K) (unary_as t v o)
  unary-as-laid t v None h k = tt
  unary-as-laid t v (Some of) h k = (k, laid-behind K v.code (prefix_step t.text) h.1 (prefix-laid t.text))

  pub unary-laid : (t : Leaf) (v : Typed) → LaidTyped K v → Fine (LaidTyped K) (unary t v)
  unary-laid t v h = unary-as-laid t v (unary_type t.text v.ty) h (rows-laid unary_rows t.text v.ty unary-rows)

  -- Calls.

  abbrev pub LaidGiven : Given → Type 0
  LaidGiven g = LaidTyped K g.value

  abbrev pub LaidCallee : Callee → Type 0
  LaidCallee (Takes receiver symbol params result) = IfThere (LaidTyped K) receiver
  LaidCallee Prints = Unit {0}
  LaidCallee (IsValue of) = Unit {0}

  pub converted-laid : (first : Place) (wanted : Ty) (v : Typed) → LaidTyped K v → Fine (LaidTyped K) (converted first wanted v)
  converted-laid first wanted v h = gives-choice m K (LaidTyped K) (same_type v.ty wanted) (sure v) _ h tt

  fitted-laid : (ps : List Parameter) (gs : List Given) → AllByRecursion LaidGiven gs → AllByRecursion (λ c. Fine (LaidTyped K) c) (fitted ps gs)
  fitted-laid (p ∷ ps) (g ∷ gs) h = (converted-laid g.first p.ty g.value h.0, fitted-laid ps gs h.1)
  fitted-laid (p ∷ ps) [] h = tt
  fitted-laid [] gs h = tt

  printed-laid : (g : Given) → LaidGiven g → Fine (LaidTyped K) (printed g)
  printed-laid g h = gives-choice m K (LaidTyped K) (is_printed g.value.ty) _ _ (tt, laid-behind K g.value.code (step.Print g.value.ty) h.1 (laid-print K g.value.ty)) tt

  print-call-laid : (t : Leaf) (gs : List Given) → AllByRecursion LaidGiven gs → Fine (LaidTyped K) (print_call t gs)
  print-call-laid t [] h = tt
  print-call-laid t (g ∷ h ∷ gs) l = tt
  print-call-laid t (g ∷ []) h = gives-choice m K (LaidTyped K) (same_text g.label (codes "_")) (printed g) _ (printed-laid g h.0) tt

  received-laid : (receiver : Option Typed) (values : List Typed) → IfThere (LaidTyped K) receiver → AllByRecursion (LaidTyped K) values → AllByRecursion (LaidTyped K) (received receiver ++ values)
  received-laid None values h g = g
  received-laid (Some v) values h g = (h, g)

  codes-laid : (values : List Typed) → AllByRecursion (LaidTyped K) values → LaidCode K (flat_map (λ (v : Typed). v.code) values)
  codes-laid [] h = tt
  codes-laid (v ∷ values) h = all-append (LaidStep K) v.code (flat_map (λ (v : Typed). v.code) values) h.0.1 (codes-laid values h.1)

  types-laid : (values : List Typed) → AllByRecursion (LaidTyped K) values → AllByRecursion (LaidType K) (map (λ (v : Typed). v.ty) values)
  types-laid [] h = tt
  types-laid (v ∷ values) h = (h.0.0, types-laid values h.1)

  call-code-laid : (values : List Typed) (symbol : List ℕ) (of : Ty) → AllByRecursion (LaidTyped K) values → LaidType K of → LaidCode K (call_code values symbol of)
  call-code-laid values symbol of h g =
      laid-behind K (flat_map (λ (v : Typed). v.code) values) (step.Call symbol (map (λ (v : Typed). v.ty) values) of) (codes-laid values h) (laid-call K symbol (map (λ (v : Typed). v.ty) values) of (types-laid values h) g)

  pub call-laid : (s : Scope) → IsLaidScope K s → (first : Place) (name : Leaf) (p : Callee × List Given) → BothAre LaidCallee (AllByRecursion LaidGiven) p → Fine (LaidTyped K) (call s first name p)
  call-laid s p first name (IsValue of, gs) h = tt
  call-laid s p first name (Prints, gs) h = print-call-laid name gs h.1
  call-laid s p first name (Takes receiver symbol ps result, gs) h =
      gives-choice m K (LaidTyped K) (same_labels ps gs) _ _
      (gives-bind m K (AllByRecursion (LaidTyped K)) (LaidTyped K) _ _ (gives-all m K (LaidTyped K) (fitted ps gs) (fitted-laid ps gs h.1)) (λ values l.
      gives-bind m K (Laid result) (LaidTyped K) (valued s first result) _ (valued-laid s p first result) (λ of g. (g.1, call-code-laid (received receiver ++ values) symbol of (received-laid receiver values h.0 l) g.1)))) tt

  initializer-laid : (t : Leaf) (c : List ℕ) (x : Meaning) → Fine LaidCallee (initializer_of t c x)
  initializer-laid t c (means.Fields fs w) = tt
  initializer-laid t c means.Broken = tt
  initializer-laid t c means.Circular = tt
  initializer-laid t c means.NoProvider = tt
  initializer-laid t c means.Ambiguous = tt
  initializer-laid t c (means.Value mutable of) = tt
  initializer-laid t c (means.Function ps r) = tt
  initializer-laid t c (means.Struct d) = tt
  initializer-laid t c (means.Alias of) = tt

  type-callee-laid : (t : Leaf) (of : Ty) → Fine LaidCallee (type_callee t of)
  type-callee-laid t (ty.Struct c) = λ _. initializer-laid t c (m (nominal c))
  type-callee-laid t ty.Int = tt
  type-callee-laid t ty.String = tt
  type-callee-laid t ty.Bool = tt
  type-callee-laid t ty.Void = tt

  chosen : {X : Type 0} (R : X → Type 0) (k : Kind) (x y : X) → R x → R y → R (by_kind k x y)
  chosen R kind.Member x y h g = h
  chosen R kind.TopLevel x y h g = g
  chosen R kind.Nominal x y h g = g
  chosen R kind.PotentialMember x y h g = g
  chosen R kind.DynamicLookup x y h g = g
  chosen R kind.ExternalDepend x y h g = g
  chosen R kind.SourceFileProvide x y h g = g

  function-callee-laid : (s : Scope) (t : Leaf) (key : Key) (ps : List Parameter) (r : Ty) → IsLaidScope K s → Fine LaidCallee (function_callee s t key ps r)
  function-callee-laid s t key ps r p = chosen (λ c. Fine LaidCallee c) key.kind _ _ (gives-bind m K (LaidSelf s.context) LaidCallee (self_value s t) _ (self-laid s t p) (λ base h. h.0)) tt

  pub value-callee-laid : (c : CheckOf Typed) → Fine LaidCallee (value_callee c)
  value-callee-laid c = gives-bind m K Anything LaidCallee c _ (gives-any m K c) (λ v _. tt)

  callee-meant-laid : (s : Scope) (t : Leaf) (key : Key) (x : Meaning) → IsLaidScope K s → Fine LaidCallee (callee_meant s t key x)
  callee-meant-laid s t key (means.Function ps r) p = function-callee-laid s t key ps r p
  callee-meant-laid s t key (means.Struct c) p = type-callee-laid t (ty.Struct c)
  callee-meant-laid s t key (means.Alias of) p = type-callee-laid t of
  callee-meant-laid s t key (means.Value mutable of) p = value-callee-laid (name_value s t (value_of key mutable of))
  callee-meant-laid s t key means.NoProvider p = tt
  callee-meant-laid s t key means.Ambiguous p = tt
  callee-meant-laid s t key means.Broken p = tt
  callee-meant-laid s t key means.Circular p = tt
  callee-meant-laid s t key (means.Fields fs w) p = tt

  callee-found-laid : (s : Scope) (t : Leaf) (o : Option Found) → IsLaidScope K s → Fine LaidCallee (callee_found s t o)
  callee-found-laid s t None p = gives-choice m K LaidCallee (is_print t) (sure Prints) _ tt tt
  callee-found-laid s t (Some f) p = gives-bind m K Anything LaidCallee (usable t f.1) _ (gives-any m K (usable t f.1)) (λ x _. callee-meant-laid s t f.0 x p)

  callee-beyond-laid : (s : Scope) (t : Leaf) (o : Option Local) → IsLaidScope K s → Fine LaidCallee (callee_beyond s t o)
  callee-beyond-laid s t (Some l) p = value-callee-laid (local_value s t l.number l.ty)
  callee-beyond-laid s t None p = gives-bind m K Anything LaidCallee (look_up (value_keys s t.text)) _ (gives-any m K (look_up (value_keys s t.text))) (λ o _. callee-found-laid s t o p)

  pub callee-laid : (s : Scope) (t : Leaf) → IsLaidScope K s → Fine LaidCallee (callee_named s t)
  callee-laid s t p = callee-beyond-laid s t (local_named s.blocks t.text) p

  method-meant-laid : (s : Scope) (first : Place) (base : Typed) (f : Found) → LaidTyped K base → Fine LaidCallee (method_meant s first base f)
  method-meant-laid s first base (key, means.Function ps r) h = h
  method-meant-laid s first base (key, means.Value mutable of) h = value-callee-laid (property s first base key of)
  method-meant-laid s first base (key, means.NoProvider) h = tt
  method-meant-laid s first base (key, means.Ambiguous) h = tt
  method-meant-laid s first base (key, means.Broken) h = tt
  method-meant-laid s first base (key, means.Circular) h = tt
  method-meant-laid s first base (key, means.Struct c) h = tt
  method-meant-laid s first base (key, means.Alias of) h = tt
  method-meant-laid s first base (key, means.Fields fs w) h = tt

  pub method-laid : (s : Scope) (first : Place) (t : Leaf) (value : CheckOf Typed) → Fine (LaidTyped K) value → Fine LaidCallee (method_named s first t value)
  method-laid s first t value h =
      gives-bind m K (LaidTyped K) LaidCallee value _ h (λ base l. gives-bind m K Anything LaidCallee (member_named s base.ty t) _ (gives-any m K (member_named s base.ty t)) (λ f _. method-meant-laid s first base f l))
