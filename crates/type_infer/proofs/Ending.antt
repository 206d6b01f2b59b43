-- Where the readings of declarations end: no reading ends with Circular, and none without provider where there is one.
use Rattle.std.proofs.Common.{◌≡◌, ℕ, ◌+◌, ◌≤◌, Bool, true, false, cond, List, [], ◌∷◌, Option, Some, None, Ok, refl, ap, sym, ◌∙◌, subst, arith, inl, inr}
use Rattle.std.specs.Prelude.{flat_map, nat_le, ◌||◌}
use Rattle.std.specs.List.{filter, list_any, AllByRecursion}
use Rattle.std.specs.Ordering.{eq_by_cmp, is_eq}
use Rattle.std.specs.declared.cmp.Ordering.TheVariants.{Less, Equal, Greater}
use Rattle.std.proofs.lemmas.Bool.{leb-true}
use Rattle.dep_key.specs.declared.key.Key.{Key}
use Rattle.dep_key.specs.declared.kind.Kind.TheVariants.{TopLevel, Nominal, PotentialMember, Member, DynamicLookup, ExternalDepend, SourceFileProvide}
use Rattle.dep_key.specs.KeyOrder.{key_order}
use Rattle.dep_key.specs.KeysApart.{keys_apart}
use Rattle.queries.specs.Queries.{Done, Fetch, ◌>>=◌, run, run_on, seen, solution, IsListing, Among, known_or}
use Rattle.queries.proofs.Solution.{solution-seen, solution-runs}
use Rattle.swift_ast.specs.declared.declarations.FileTree.{FileTree}
use Rattle.decl_index.specs.Declarations.{Item, Declaration, GlobalItem, FuncItem, AliasItem, StructItem, StoredItem, ComputedItem, ExtensionItem, declarations_in}
use Rattle.type_rules.specs.declared.ty.Ty.{Ty}
use Rattle.type_rules.specs.declared.meaning.Meaning.{Meaning}
use Rattle.type_rules.specs.declared.meaning.Meaning.TheVariants as means
use Rattle.type_rules.specs.declared.meaning.Parameter.{Parameter}
use Rattle.type_infer.specs.Readings.{Query, written_type, global_type, stored_type, item_query, query_by_kind, definition_query, is_var, value_meaning, alias_meaning, function_meaning, params_query, params_in, result_query, struct_query, all_measured, stored_in, fields_meaning, laid_out, words_in, Measured, most_words}
use Rattle.type_infer.specs.Meanings.{has_key, having, given_by, is_filled, rules, module_keys, meaning_in}
use Rattle.type_infer.specs.Kinds.{Ends, CanMean, MeansByKind, DefinitionMeans, StructMeans, IsValue, IsFunction, IsAlias, IsFields, IsStruct, known_answer}
use Rattle.type_infer.proofs.ListFacts.{flat-among, kept-from}

-- What a query ends with is what its last step ends with.
pub ends-bind : {X Y : Type 0} (P : Y → Type 0) (q : Query X) (f : X → Query Y) → ((x : X) → Ends P (f x)) → Ends P (q >>= f)
ends-bind P (Done x) f h = h x
ends-bind P (Fetch k g) f h = λ a. ends-bind P (g a) f h

pub ends-run : {X : Type 0} (P : X → Type 0) (s : Key → Option Meaning) (q : Query X) (x : X) → Ends P q → run s q ≡ Ok x → P x
ends-run P s (Done y) x e h = subst P (let same : y ≡ x = cc in same) e
ends-run {X} P s (Fetch k g) x e h = (elim (s k) as (λ o. run_on k o (λ a. run s (g a)) ≡ Ok x → P x)
    [ None ↦ λ h. absurd cc | Some a ↦ λ h. ends-run P s (g a) x (e a) h ]) h

value-can : (mutable : Bool) (o : Option Ty) → IsValue mutable (value_meaning mutable o)
value-can mutable (Some of) = refl
value-can mutable None = tt

alias-can : (o : Option Ty) → IsAlias (alias_meaning o)
alias-can (Some of) = tt
alias-can None = tt

function-can : (params : Option (List Parameter)) (result : Option Ty) → IsFunction (function_meaning params result)
function-can (Some params) (Some result) = tt
function-can (Some params) None = tt
function-can None result = tt

offsets-within : (n : ℕ) (ms : List Measured) → n + words_in ms ≤ most_words → AllByRecursion (λ f. f.offset ≤ most_words) (laid_out n ms)
offsets-within n [] h = tt
offsets-within n (m ∷ ms) h = (omega (arith, h), offsets-within (n + m.words) ms (omega (arith, h)))

fields-can : (o : Option (List Measured)) → IsFields (fields_meaning o)
fields-can None = tt
fields-can (Some ms) = (elim (nat_le (words_in ms) most_words) as (λ v. nat_le (words_in ms) most_words ≡ v → IsFields (cond v (means.Fields (laid_out 0 ms) (words_in ms)) means.Broken)) [
  | true ↦ λ e. (let h : words_in ms ≤ most_words = leb-true _ _ e in (h, offsets-within 0 ms (omega (arith, h))))
  | false ↦ λ e. tt
]) refl

definition-can : (path : List ℕ) (key : Key) (item : Item) → Ends (DefinitionMeans key item) (definition_query path key item)
definition-can path key (GlobalItem d) = ends-bind (IsValue (is_var d.specifier)) (global_type path d.annotation d.value) _ (λ t. value-can (is_var d.specifier) t)
definition-can path key (StoredItem d) = ends-bind (IsValue (is_var d.specifier)) (stored_type path d.value) _ (λ t. value-can (is_var d.specifier) t)
definition-can path key (ComputedItem d) = ends-bind (IsValue false) (written_type path d.type_name) _ (λ t. value-can false t)
definition-can path key (FuncItem d) =
    ends-bind IsFunction (params_query path (params_in d.params)) _ (λ ps. ends-bind IsFunction (result_query path d.result_type) _ (λ r. function-can ps r))
definition-can path key (AliasItem d) = ends-bind IsAlias (written_type path d.type_name) _ (λ t. alias-can t)
definition-can path key (StructItem d) = (elim key.kind as (λ kind. Ends (StructMeans kind key) (struct_query path kind key d.members)) [
  | TopLevel ↦ refl
  | Nominal ↦ ends-bind IsFields (all_measured key.context (stored_in path d.members)) _ (λ o. fields-can o)
  | PotentialMember ↦ refl
  | Member ↦ refl
  | DynamicLookup ↦ refl
  | ExternalDepend ↦ refl
  | SourceFileProvide ↦ refl
])
definition-can path key (ExtensionItem d) = refl

-- The reading of a key of a declaration ends with what the key can mean.
pub item-can : (path : List ℕ) (key : Key) (item : Item) → Ends (CanMean key item) (item_query path key item)
item-can path key item = (elim key.kind as (λ kind. Ends (MeansByKind kind key item) (query_by_kind kind path key item)) [
  | TopLevel ↦ definition-can path key item
  | Nominal ↦ definition-can path key item
  | Member ↦ definition-can path key item
  | PotentialMember ↦ refl
  | DynamicLookup ↦ refl
  | ExternalDepend ↦ refl
  | SourceFileProvide ↦ refl
])

-- a key that compares as equal is the key
pub same-key : (a b : Key) → eq_by_cmp key_order a b ≡ true → a ≡ b
same-key a b h = keys_apart a b (elim (key_order a b) as (λ r. is_eq r ≡ true → r ≡ Equal) [ Less ↦ λ h. absurd cc | Equal ↦ λ h. refl | Greater ↦ λ h. absurd cc ] h)

among-key : (key : Key) (ks : List Key) → list_any (eq_by_cmp key_order key) ks ≡ true → Among ks key
among-key key [] h = absurd cc
among-key key (k ∷ ks) h = (elim (eq_by_cmp key_order key k) as (λ v. eq_by_cmp key_order key k ≡ v → v || list_any (eq_by_cmp key_order key) ks ≡ true → Among (k ∷ ks) key) [
  | true ↦ λ e h. inl (sym (same-key key k e))
  | false ↦ λ e h. inr (among-key key ks h)
]) refl h

pub has-among : (key : Key) (d : Declaration) → has_key key d ≡ true → Among d.keys key
has-among key d h = among-key key d.keys h

listed-in : (key : Key) (ds : List Declaration) → is_filled (filter (has_key key) ds) ≡ true → Among (flat_map (λ d. d.keys) ds) key
listed-in key ds h = (elim (filter (has_key key) ds) as (λ l. ((d : Declaration) → Among l d → Among ds d × (has_key key d ≡ true)) → is_filled l ≡ true → Among (flat_map (λ d. d.keys) ds) key) [
  | [] ↦ λ from h. absurd cc
  | d ∷ l ↦ λ from h. (let k : Among ds d × (has_key key d ≡ true) = from d (inl refl) in flat-among (λ (d : Declaration). d.keys) ds d key k.0 (has-among key d k.1))
])
    (λ d m. kept-from (has_key key) ds d m) h

none-given : (key : Key) (ds : List Declaration) → is_filled ds ≡ false → given_by key ds ≡ Done means.NoProvider
none-given key [] h = refl
none-given key (d ∷ ds) h = absurd cc

-- The keys of all declarations list the rules of a module.
pub listing : (files : List FileTree) → IsListing (rules files) (module_keys files)
unfolding having
listing files = record { listed = λ k h. listed-in k (flat_map declarations_in files) h; others = λ k h. none-given k (having files k) h }

-- what isn't Circular is known
others-known : (P : Meaning → Type 0) → (P means.Circular → ⊥) → (m : Meaning) → P m → known_answer m ≡ Some m
others-known P n means.Circular h = absurd (n h)
others-known P n means.NoProvider h = refl
others-known P n means.Ambiguous h = refl
others-known P n means.Broken h = refl
others-known P n (means.Value mutable of) h = refl
others-known P n (means.Function params result) h = refl
others-known P n (means.Struct context) h = refl
others-known P n (means.Alias of) h = refl
others-known P n (means.Fields fields words) h = refl

context-known : (c : List ℕ) (m : Meaning) → IsStruct c m → known_answer m ≡ Some m
context-known c m h = others-known (IsStruct c) (λ n. n) m h

fields-known : (m : Meaning) → IsFields m → known_answer m ≡ Some m
fields-known m h = others-known IsFields (λ n. n) m h

value-known : (mutable : Bool) (m : Meaning) → IsValue mutable m → known_answer m ≡ Some m
value-known mutable m h = others-known (IsValue mutable) (λ n. n) m h

function-known : (m : Meaning) → IsFunction m → known_answer m ≡ Some m
function-known m h = others-known IsFunction (λ n. n) m h

alias-known : (m : Meaning) → IsAlias m → known_answer m ≡ Some m
alias-known m h = others-known IsAlias (λ n. n) m h

definition-known : (key : Key) (item : Item) (m : Meaning) → DefinitionMeans key item m → known_answer m ≡ Some m
definition-known key (GlobalItem d) m h = value-known (is_var d.specifier) m h
definition-known key (StoredItem d) m h = value-known (is_var d.specifier) m h
definition-known key (ComputedItem d) m h = value-known false m h
definition-known key (FuncItem d) m h = function-known m h
definition-known key (AliasItem d) m h = alias-known m h
definition-known key (StructItem d) m h = (elim key.kind as (λ kind. StructMeans kind key m → known_answer m ≡ Some m) [
  | TopLevel ↦ context-known key.name m
  | Nominal ↦ fields-known m
  | PotentialMember ↦ context-known key.name m
  | Member ↦ context-known key.name m
  | DynamicLookup ↦ context-known key.name m
  | ExternalDepend ↦ context-known key.name m
  | SourceFileProvide ↦ context-known key.name m
]) h
definition-known key (ExtensionItem d) m h = context-known key.context m h

can-known : (key : Key) (item : Item) (m : Meaning) → CanMean key item m → known_answer m ≡ Some m
can-known key item m h = (elim key.kind as (λ kind. MeansByKind kind key item m → known_answer m ≡ Some m) [
  | TopLevel ↦ definition-known key item m
  | Nominal ↦ definition-known key item m
  | Member ↦ definition-known key item m
  | PotentialMember ↦ context-known key.context m
  | DynamicLookup ↦ context-known key.context m
  | ExternalDepend ↦ context-known key.context m
  | SourceFileProvide ↦ context-known key.context m
]) h

-- No reading ends with Circular.
pub given-known : (s : Key → Option Meaning) (key : Key) (ds : List Declaration) (m : Meaning) → run s (given_by key ds) ≡ Ok m → known_answer m ≡ Some m
given-known s key [] m h = let e : means.NoProvider ≡ m = cc in subst (λ x. known_answer x ≡ Some x) e refl
given-known s key (d ∷ []) m h = can-known key d.item m (ends-run (CanMean key d.item) s (item_query d.path key d.item) m (item-can d.path key d.item) h)
given-known s key (d ∷ e ∷ ds) m h = let e : means.Ambiguous ≡ m = cc in subst (λ x. known_answer x ≡ Some x) e refl

-- The solution's answer is the meaning, but where this is Circular.
pub solution-meaning : (files : List FileTree) (k : Key) → seen (rules files) (solution (rules files) (module_keys files)) k ≡ known_answer (meaning_in files k)
unfolding meaning_in
solution-meaning files k =
    let r = rules files in
    solution-seen r (module_keys files) (listing files) k
    ∙ (elim (solution r (module_keys files) k) as (λ o. solution r (module_keys files) k ≡ o → o ≡ known_answer (known_or means.Circular o)) [
      | None ↦ λ e. refl
      | Some a ↦ λ e. sym (given-known _ k (having files k) a (solution-runs r (module_keys files) k a e))
    ]) refl

pub meaning-known : (files : List FileTree) (k : Key) (a : Meaning) → seen (rules files) (solution (rules files) (module_keys files)) k ≡ Some a → meaning_in files k ≡ a
unfolding meaning_in
meaning-known files k a h = ap (known_or means.Circular) (sym (solution-seen (rules files) (module_keys files) (listing files) k) ∙ h)
