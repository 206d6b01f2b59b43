-- What reading a declaration asks with few answers, it needs.
use Rattle.std.proofs.Common.{◌≡◌, ℕ, List, [], ◌∷◌, Option, Some, None, Ok, Err, refl, sym, subst, ◌⊎◌, inl, inr}
use Rattle.std.specs.Prelude.{◌≢◌}
use Rattle.dep_key.specs.declared.key.Key.{Key}
use Rattle.dep_key.specs.declared.kind.Kind.{Kind}
use Rattle.dep_key.specs.declared.kind.Kind.TheVariants.{TopLevel, Nominal, PotentialMember, Member, DynamicLookup, ExternalDepend, SourceFileProvide}
use Rattle.dep_key.specs.KeyBuilders.{member}
use Rattle.queries.specs.Queries.{Done, Fetch, run_on, run, ok_of, Among, IsBelow, Agree, Needs, known_or, dependencies, value_with}
use Rattle.queries.proofs.Growth.{run-grows}
use Rattle.swift_ast.specs.Leaves.{Leaf}
use Rattle.swift_ast.specs.declared.expressions.Expr.{Expr}
use Rattle.swift_ast.specs.declared.statements.TypeName.{TypeName}
use Rattle.swift_ast.specs.declared.declarations.Access.{Access}
use Rattle.swift_ast.specs.declared.declarations.Param.{Param}
use Rattle.swift_ast.specs.declared.declarations.StoredValue.{StoredValue}
use Rattle.swift_ast.specs.declared.declarations.StoredValue.TheVariants.{Typed as Annotated, Inferred}
use Rattle.swift_ast.specs.declared.declarations.StructMember.{StructMember}
use Rattle.decl_index.specs.Declarations.{Item, GlobalItem, FuncItem, AliasItem, StructItem, StoredItem, ComputedItem, ExtensionItem}
use Rattle.type_rules.specs.declared.ty.Ty.{Ty}
use Rattle.type_rules.specs.declared.ty.Ty.TheVariants as ty
use Rattle.type_rules.specs.declared.meaning.Meaning.{Meaning}
use Rattle.type_rules.specs.declared.meaning.Meaning.TheVariants as means
use Rattle.expr_check.specs.Scopes.{or_else}
use Rattle.expr_check.specs.Types.{type_named}
use Rattle.expr_check.specs.Phrases.{expr_phrase}
use Rattle.type_infer.specs.Readings.{Query, at_file, written_type, value_type, global_type, stored_type, params_query, params_in, result_query, StoredName, stored_in, words_query, measured_query, all_measured, struct_query, definition_query, query_by_kind, item_query}
use Rattle.type_infer.specs.Demand.{or_circular, AskedIsNeeded, AllKnownEnds}
use Rattle.type_infer.proofs.Monotonicity.{Approximation, AsksLess, asks-nothing, asks-then}
use Rattle.type_infer.proofs.MonotoneExpressions.{type-monotone}
use Rattle.type_infer.proofs.MonotoneTrees.{expr-monotone}

-- With more answers a reading asks no less.

abbrev KeepsAsking : {X : Type 0} → Query X → Type 0
KeepsAsking q = AsksLess q q

written-asks : (path : List ℕ) (t : TypeName) → KeepsAsking (written_type path t)
unfolding written_type
written-asks path t = asks-then (type_named path t.name) (type_named path t.name) _ _ (type-monotone path t.name).asks (λ c d. asks-nothing _ _)

value-asks : (path : List ℕ) (value : Expr) → KeepsAsking (value_type path value)
unfolding value_type
value-asks path value = asks-then ((expr_phrase value).check (at_file path)) ((expr_phrase value).check (at_file path)) _ _ (expr-monotone (at_file path) value).asks (λ c d. asks-nothing _ _)

global-asks : (path : List ℕ) (annotation : Option (Leaf × TypeName)) (value : Expr) → KeepsAsking (global_type path annotation value)
global-asks path (Some annotation) value = written-asks path annotation.1
global-asks path None value = value-asks path value

stored-asks : (path : List ℕ) (value : StoredValue) → KeepsAsking (stored_type path value)
stored-asks path (Annotated colon type_name value) = written-asks path type_name
stored-asks path (Inferred assign value) = value-asks path value

params-ask : (path : List ℕ) (params : List Param) → KeepsAsking (params_query path params)
params-ask path [] = asks-nothing _ _
params-ask path (p ∷ more) = asks-then (written_type path p.type_name) (written_type path p.type_name) _ _ (written-asks path p.type_name)
    (λ c d. asks-then (params_query path more) (params_query path more) _ _ (params-ask path more) (λ rest others. asks-nothing _ _))

result-asks : (path : List ℕ) (written : Option (Leaf × TypeName)) → KeepsAsking (result_query path written)
result-asks path None = asks-nothing _ _
result-asks path (Some written) = written-asks path written.1

-- a key, and then what its meaning gives, where Circular asks no more than any other
asks-fetch : {X Y : Type 0} (k : Key) (g : Meaning → Query X) (h : Meaning → Query Y) → ((m n : Meaning) → (m ≡ n) ⊎ (m ≡ means.Circular) → AsksLess (g m) (h n)) → AsksLess (Fetch k g) (Fetch k h)
asks-fetch k g h s = record { at = λ b u m. elim m [ inl same ↦ inl same | inr n ↦ inr ((s (b.few k) (b.more k) (b.same k)).at b u n) ] }

words-ask : (of : Ty) → KeepsAsking (words_query of)
unfolding words_query
words-ask (ty.Struct context) = asks-fetch _ _ _ (λ m n same. asks-nothing _ _)
words-ask ty.Int = asks-nothing _ _
words-ask ty.String = asks-nothing _ _
words-ask ty.Bool = asks-nothing _ _
words-ask ty.Void = asks-nothing _ _

measured-asks : (s : StoredName) (m : Meaning) → KeepsAsking (measured_query s m)
measured-asks s (means.Value mutable of) = asks-then (words_query of) (words_query of) _ _ (words-ask of) (λ c d. asks-nothing _ _)
measured-asks s means.NoProvider = asks-nothing _ _
measured-asks s means.Ambiguous = asks-nothing _ _
measured-asks s means.Broken = asks-nothing _ _
measured-asks s means.Circular = asks-nothing _ _
measured-asks s (means.Function ps r) = asks-nothing _ _
measured-asks s (means.Struct c) = asks-nothing _ _
measured-asks s (means.Alias of) = asks-nothing _ _
measured-asks s (means.Fields fs w) = asks-nothing _ _

measured-more : (s : StoredName) (m n : Meaning) → (m ≡ n) ⊎ (m ≡ means.Circular) → AsksLess (measured_query s m) (measured_query s n)
measured-more s m n (inl e) = subst (λ z. AsksLess (measured_query s m) (measured_query s z)) e (measured-asks s m)
measured-more s m n (inr e) = subst (λ z. AsksLess (measured_query s z) (measured_query s n)) (sym e) (asks-nothing _ (measured_query s n))

all-ask : (context : List ℕ) (names : List StoredName) → KeepsAsking (all_measured context names)
all-ask context [] = asks-nothing _ _
all-ask context (s ∷ more) = asks-fetch (member context s.name) _ _ (λ m n same. asks-then (measured_query s m) (measured_query s n) _ _ (measured-more s m n same)
    (λ c d. asks-then (all_measured context more) (all_measured context more) _ _ (all-ask context more) (λ rest others. asks-nothing _ _)))

struct-asks : (path : List ℕ) (kind : Kind) (key : Key) (members : List (Option Access × StructMember)) → KeepsAsking (struct_query path kind key members)
struct-asks path Nominal key members = asks-then (all_measured key.context (stored_in path members)) (all_measured key.context (stored_in path members)) _ _ (all-ask key.context (stored_in path members)) (λ c d. asks-nothing _ _)
struct-asks path TopLevel key members = asks-nothing _ _
struct-asks path PotentialMember key members = asks-nothing _ _
struct-asks path Member key members = asks-nothing _ _
struct-asks path DynamicLookup key members = asks-nothing _ _
struct-asks path ExternalDepend key members = asks-nothing _ _
struct-asks path SourceFileProvide key members = asks-nothing _ _

definition-asks : (path : List ℕ) (key : Key) (item : Item) → KeepsAsking (definition_query path key item)
definition-asks path key (GlobalItem d) = asks-then (global_type path d.annotation d.value) (global_type path d.annotation d.value) _ _ (global-asks path d.annotation d.value) (λ c e. asks-nothing _ _)
definition-asks path key (StoredItem d) = asks-then (stored_type path d.value) (stored_type path d.value) _ _ (stored-asks path d.value) (λ c e. asks-nothing _ _)
definition-asks path key (ComputedItem d) = asks-then (written_type path d.type_name) (written_type path d.type_name) _ _ (written-asks path d.type_name) (λ c e. asks-nothing _ _)
definition-asks path key (FuncItem d) = asks-then (params_query path (params_in d.params)) (params_query path (params_in d.params)) _ _ (params-ask path (params_in d.params))
    (λ c e. asks-then (result_query path d.result_type) (result_query path d.result_type) _ _ (result-asks path d.result_type) (λ r s. asks-nothing _ _))
definition-asks path key (AliasItem d) = asks-then (written_type path d.type_name) (written_type path d.type_name) _ _ (written-asks path d.type_name) (λ c e. asks-nothing _ _)
definition-asks path key (StructItem d) = struct-asks path key.kind key d.members
definition-asks path key (ExtensionItem d) = asks-nothing _ _

asks-by-kind : (kind : Kind) (path : List ℕ) (key : Key) (item : Item) → KeepsAsking (query_by_kind kind path key item)
asks-by-kind TopLevel path key item = definition-asks path key item
asks-by-kind Nominal path key item = definition-asks path key item
asks-by-kind Member path key item = definition-asks path key item
asks-by-kind PotentialMember path key item = asks-nothing _ _
asks-by-kind DynamicLookup path key item = asks-nothing _ _
asks-by-kind ExternalDepend path key item = asks-nothing _ _
asks-by-kind SourceFileProvide path key item = asks-nothing _ _

item-asks : (path : List ℕ) (key : Key) (item : Item) → KeepsAsking (item_query path key item)
item-asks path key item = asks-by-kind key.kind path key item

-- What a task that ends has asked is known.
asked-known : {X : Type 0} (known : Key → Option Meaning) (q : Query X) (x : X) → run known q ≡ Ok x → (k : Key) → Among (dependencies (or_circular known) q) k → known k ≢ None
asked-known known (Done y) x h k m = absurd m
asked-known {X} known (Fetch u g) x h k m =
    (elim (known u) as (λ o. known u ≡ o → run_on u o (λ a. run known (g a)) ≡ Ok x → Among (u ∷ dependencies (or_circular known) (g (known_or means.Circular o))) k → known k ≢ None) [
      | None ↦ λ e h m. absurd cc
      | Some a ↦ λ e h m. elim m [
        | inl same ↦ λ none. (let there : known k ≡ Some a = subst (λ v. known v ≡ Some a) same e in cc)
        | inr n ↦ asked-known known (g a) x h k n
      ]
    ]) refl h m

-- Where all that it asks is known, a task ends.
known-ends : {X : Type 0} (known : Key → Option Meaning) (q : Query X) → ((k : Key) → Among (dependencies (or_circular known) q) k → known k ≢ None) → run known q ≡ Ok (value_with (or_circular known) q)
known-ends known (Done x) h = refl
known-ends {X} known (Fetch u g) h =
    (elim (known u) as (λ o. known u ≡ o → ((k : Key) → Among (u ∷ dependencies (or_circular known) (g (known_or means.Circular o))) k → known k ≢ None) →
    run_on u o (λ a. run known (g a)) ≡ Ok (value_with (or_circular known) (g (known_or means.Circular o)))) [
      | None ↦ λ e h. absurd (h u (inl refl) e)
      | Some a ↦ λ e h. known-ends known (g a) (λ k m. h k (inr m))
    ]) refl h

-- what either knows
abbrev joined : (Key → Option Meaning) → (Key → Option Meaning) → Key → Option Meaning
joined later known k = or_else (later k) (known k)

joined-below : (later known : Key → Option Meaning) → IsBelow later (joined later known)
joined-below later known = record { at = λ k a h. rw h refl }

joined-same : (later known : Key → Option Meaning) → Agree known later → (k : Key) → (or_circular known k ≡ or_circular (joined later known) k) ⊎ (or_circular known k ≡ means.Circular)
joined-same later known agree k =
    (elim (known k) as (λ o. known k ≡ o → (known_or means.Circular o ≡ known_or means.Circular (or_else (later k) o)) ⊎ (known_or means.Circular o ≡ means.Circular)) [
      | None ↦ λ e. inr refl
      | Some a ↦ λ e. inl ((elim (later k) as (λ p. later k ≡ p → a ≡ known_or means.Circular (or_else p (Some a))) [ None ↦ λ f. refl | Some c ↦ λ f. agree.at k a c e f ]) refl)
    ]) refl

abbrev joined-above : (later known : Key → Option Meaning) → Agree known later → Approximation
joined-above later known agree = record { few = or_circular known; more = or_circular (joined later known); same = joined-same later known agree }

-- A query that asks no less with more answers needs what it asks.
needed : {X : Type 0} (known : Key → Option Meaning) (q : Query X) (u : Key) → KeepsAsking q → Among (dependencies (or_circular known) q) u → known u ≡ None → Needs known q u
needed {X} known q u keeps m none = record {
  at = λ later agree unknown.
      (elim (run later q) as (λ r. run later q ≡ r → ok_of r ≡ None) [
        | Err k ↦ λ e. refl
        | Ok x ↦ λ e.
            let ends : run (joined later known) q ≡ Ok x = run-grows later (joined later known) q x (joined-below later known) e in
            let asked : Among (dependencies (or_circular (joined later known)) q) u = keeps.at (joined-above later known agree) u m in
            let missing : joined later known u ≡ None = rw unknown none in
            absurd (asked-known (joined later known) q x ends u asked missing)
      ]) refl;
}

pub asked-needed : AskedIsNeeded
asked-needed known path key item asked m none = needed known (item_query path key item) asked (item-asks path key item) m none

pub all-known : AllKnownEnds
all-known known path key item h = known-ends known (item_query path key item) h
