-- All meanings of a module with plain names are plain, and all readings ask what look-ups ask.
use Rattle.std.proofs.Common.{◌≡◌, ℕ, zero, suc, ◌+◌, Bool, true, false, cond, List, [], ◌∷◌, length, Option, Some, None, Ok, refl, subst, inl, inr}
use Rattle.std.specs.Prelude.{if◌then◌else◌, flat_map, nat_le}
use Rattle.std.specs.List.{AllByRecursion}
use Rattle.std.specs.Option.{option_map}
use Rattle.dep_key.specs.declared.key.Key.{Key}
use Rattle.dep_key.specs.declared.kind.Kind.TheVariants.{TopLevel, Nominal, PotentialMember, Member, DynamicLookup, ExternalDepend, SourceFileProvide}
use Rattle.queries.specs.Queries.{Done, Fetch, run, run_on, ok_of, seen, round, solution, Among, known_or}
use Rattle.queries.proofs.Growth.{ok_of-some}
use Rattle.queries.proofs.Solution.{solution-runs}
use Rattle.swift_ast.specs.Leaves.{Leaf}
use Rattle.swift_ast.specs.declared.expressions.Expr.{Expr}
use Rattle.swift_ast.specs.declared.statements.TypeName.{TypeName}
use Rattle.swift_ast.specs.declared.declarations.FileTree.{FileTree}
use Rattle.swift_ast.specs.declared.declarations.Param.{Param}
use Rattle.swift_ast.specs.declared.declarations.StoredValue.{StoredValue}
use Rattle.swift_ast.specs.declared.declarations.StoredValue.TheVariants.{Typed as Annotated, Inferred}
use Rattle.decl_index.specs.Declarations.{Item, Declaration, declarations_in, GlobalItem, FuncItem, AliasItem, StructItem, StoredItem, ComputedItem, ExtensionItem}
use Rattle.type_rules.specs.declared.ty.Ty.{Ty}
use Rattle.type_rules.specs.declared.ty.Ty.TheVariants as ty
use Rattle.type_rules.specs.declared.meaning.Meaning.{Meaning}
use Rattle.type_rules.specs.declared.meaning.Meaning.TheVariants as means
use Rattle.type_rules.specs.declared.meaning.Parameter.{Parameter}
use Rattle.expr_check.specs.declared.typed.Typed.{Typed}
use Rattle.expr_check.specs.Types.{type_named}
use Rattle.expr_check.specs.Phrases.{expr_phrase}
use Rattle.type_infer.specs.Readings.{Query, at_file, written_type, value_type, global_type, stored_type, item_query, query_by_kind, definition_query, value_meaning, alias_meaning, function_meaning, parameter, params_query, params_in, label_of, result_query, struct_query, StoredName, Measured, words_query, measured, measured_query, cons_known, all_measured, stored_in, laid_out, words_in, most_words, fields_meaning, is_var}
use Rattle.type_infer.specs.Meanings.{having, given_by, rules, module_keys, meaning_in}
use Rattle.type_infer.specs.Kinds.{CanMean, MayMean}
use Rattle.type_infer.specs.Plain.{is_word, IsPlain, IsPlainType, IsPlainKey, IsPlainItem, IsPlainDeclaration, HasPlainNames}
use Rattle.type_infer.specs.Sound.{Sound, Anything, AsksKeys, IfThere, OfValue, PlainTyped, IsPlainScope, ReadingsAskKeys}
use Rattle.type_infer.proofs.ListFacts.{kept-from}
use Rattle.type_infer.proofs.Ending.{ends-run, item-can, has-among}
use Rattle.type_infer.proofs.Combining.{sound-then}
use Rattle.type_infer.proofs.Sounding.{type-sound}
use Rattle.type_infer.proofs.Trees.{expressions-ask}

-- a type, where there is one
abbrev PlainOption : Option Ty → Type 0
PlainOption o = IfThere IsPlainType o

scope-plain : (path : List ℕ) → IsPlainScope (at_file path)
scope-plain path = record { self = tt; locals = tt }

written-sound : (path : List ℕ) (t : TypeName) → Sound PlainOption (written_type path t)
unfolding written_type
written-sound path t = sound-then (OfValue IsPlainType) PlainOption (type_named path t.name) _ (type-sound path t.name) (λ c p. p)

typed-plain : (o : Option Typed) → IfThere PlainTyped o → PlainOption (option_map (λ v. v.ty) o)
typed-plain None h = tt
typed-plain (Some v) h = h

value-sound : (path : List ℕ) (e : Expr) → Sound PlainOption (value_type path e)
unfolding value_type
value-sound path e = sound-then (OfValue PlainTyped) PlainOption ((expr_phrase e).check (at_file path)) _ (expressions-ask e (at_file path) (scope-plain path)) (λ c p. typed-plain c.value p)

global-sound : (path : List ℕ) (o : Option (Leaf × TypeName)) (value : Expr) → Sound PlainOption (global_type path o value)
global-sound path (Some a) value = written-sound path a.1
global-sound path None value = value-sound path value

stored-sound : (path : List ℕ) (value : StoredValue) → Sound PlainOption (stored_type path value)
stored-sound path (Annotated colon t value) = written-sound path t
stored-sound path (Inferred assign value) = value-sound path value

value-plain : (m : Bool) (o : Option Ty) → PlainOption o → IsPlain (value_meaning m o)
value-plain m (Some of) h = h
value-plain m None h = tt

alias-plain : (o : Option Ty) → PlainOption o → IsPlain (alias_meaning o)
alias-plain (Some of) h = h
alias-plain None h = tt

abbrev PlainParams : Option (List Parameter) → Type 0
PlainParams o = IfThere (AllByRecursion (λ p. (is_word p.label ≡ true) × IsPlainType p.ty)) o

cons-plain : (label : List ℕ) (o : Option Ty) (rest : Option (List Parameter)) → is_word label ≡ true → PlainOption o → PlainParams rest → PlainParams (cons_known (option_map (parameter label) o) rest)
cons-plain label (Some of) (Some ps) w h r = ((w, h), r)
cons-plain label (Some of) None w h r = tt
cons-plain label None rest w h r = tt

params-sound : (path : List ℕ) (ps : List Param) → AllByRecursion (λ p. is_word (label_of p) ≡ true) ps → Sound PlainParams (params_query path ps)
params-sound path [] h = tt
params-sound path (p ∷ ps) h =
    sound-then PlainOption PlainParams (written_type path p.type_name) _ (written-sound path p.type_name) (λ o po. sound-then PlainParams PlainParams (params_query path ps) _ (params-sound path ps h.1) (λ rest pr. cons-plain (label_of p) o rest h.0 po pr))

params-ask : (path : List ℕ) (ps : List Param) → AsksKeys (params_query path ps)
params-ask path [] = tt
params-ask path (p ∷ ps) =
    sound-then PlainOption Anything (written_type path p.type_name) _ (written-sound path p.type_name) (λ o po. sound-then Anything Anything (params_query path ps) _ (params-ask path ps) (λ rest pr. tt))

result-sound : (path : List ℕ) (o : Option (Leaf × TypeName)) → Sound PlainOption (result_query path o)
result-sound path None = tt
result-sound path (Some w) = written-sound path w.1

function-plain : (ps : Option (List Parameter)) (r : Option Ty) → PlainParams ps → PlainOption r → IsPlain (function_meaning ps r)
function-plain (Some ps) (Some r) h g = (h, g)
function-plain (Some ps) None h g = tt
function-plain None r h g = tt

abbrev PlainMeasured : Measured → Type 0
PlainMeasured m = (is_word m.name ≡ true) × IsPlainType m.ty

words-sound : (of : Ty) → Sound Anything (words_query of)
unfolding words_query
words-sound ty.Int = tt
words-sound ty.String = tt
words-sound ty.Bool = tt
words-sound ty.Void = tt
words-sound (ty.Struct c) = (refl, λ a p. tt)

measured-plain : (s : StoredName) (m : Bool) (of : Ty) (o : Option ℕ) → is_word s.name ≡ true → IsPlainType of → IfThere PlainMeasured (option_map (measured s m of) o)
measured-plain s m of (Some w) h p = (h, p)
measured-plain s m of None h p = tt

as-sound : (s : StoredName) (m : Meaning) → is_word s.name ≡ true → IsPlain m → Sound (IfThere PlainMeasured) (measured_query s m)
as-sound s (means.Value mu of) h p = sound-then Anything (IfThere PlainMeasured) (words_query of) _ (words-sound of) (λ o _. measured-plain s mu of o h p)
as-sound s means.NoProvider h p = tt
as-sound s means.Ambiguous h p = tt
as-sound s means.Broken h p = tt
as-sound s means.Circular h p = tt
as-sound s (means.Function ps r) h p = tt
as-sound s (means.Struct c) h p = tt
as-sound s (means.Alias of) h p = tt
as-sound s (means.Fields fs w) h p = tt

as-ask : (s : StoredName) (m : Meaning) → AsksKeys (measured_query s m)
as-ask s (means.Value mu of) = sound-then Anything Anything (words_query of) _ (words-sound of) (λ o _. tt)
as-ask s means.NoProvider = tt
as-ask s means.Ambiguous = tt
as-ask s means.Broken = tt
as-ask s means.Circular = tt
as-ask s (means.Function ps r) = tt
as-ask s (means.Struct c) = tt
as-ask s (means.Alias of) = tt
as-ask s (means.Fields fs w) = tt

abbrev PlainAll : Option (List Measured) → Type 0
PlainAll o = IfThere (AllByRecursion PlainMeasured) o

known-plain : (o : Option Measured) (rest : Option (List Measured)) → IfThere PlainMeasured o → PlainAll rest → PlainAll (cons_known o rest)
known-plain (Some m) (Some ms) h r = (h, r)
known-plain (Some m) None h r = tt
known-plain None rest h r = tt

all-sound : (context : List ℕ) (ss : List StoredName) → AllByRecursion (λ s. is_word s.name ≡ true) ss → Sound PlainAll (all_measured context ss)
all-sound context [] h = tt
all-sound context (s ∷ ss) h = (refl, λ m pm. sound-then (IfThere PlainMeasured) PlainAll (measured_query s m) _ (as-sound s m h.0 pm) (λ o po. sound-then PlainAll PlainAll (all_measured context ss) _ (all-sound context ss h.1) (λ rest pr. known-plain o rest po pr)))

all-ask : (context : List ℕ) (ss : List StoredName) → AsksKeys (all_measured context ss)
all-ask context [] = tt
all-ask context (s ∷ ss) = (refl, λ m pm. sound-then Anything Anything (measured_query s m) _ (as-ask s m) (λ o po. sound-then Anything Anything (all_measured context ss) _ (all-ask context ss) (λ rest pr. tt)))

laid-plain : (n : ℕ) (ms : List Measured) → AllByRecursion PlainMeasured ms → AllByRecursion (λ f. (is_word f.name ≡ true) × IsPlainType f.ty) (laid_out n ms)
laid-plain n [] h = tt
laid-plain n (m ∷ ms) h = (h.0, laid-plain (n + m.words) ms h.1)

fields-plain : (o : Option (List Measured)) → PlainAll o → IsPlain (fields_meaning o)
fields-plain None h = tt
fields-plain (Some ms) h = elim (nat_le (words_in ms) most_words) as (λ v. IsPlain (if v then means.Fields (laid_out 0 ms) (words_in ms) else means.Broken)) [ true ↦ laid-plain 0 ms h | false ↦ tt ]

definition-sound : (path : List ℕ) (key : Key) (item : Item) → IsPlainKey key → IsPlainItem path item → Sound IsPlain (definition_query path key item)
definition-sound path key (GlobalItem d) k h = sound-then PlainOption IsPlain (global_type path d.annotation d.value) _ (global-sound path d.annotation d.value) (λ o p. value-plain (is_var d.specifier) o p)
definition-sound path key (StoredItem d) k h = sound-then PlainOption IsPlain (stored_type path d.value) _ (stored-sound path d.value) (λ o p. value-plain (is_var d.specifier) o p)
definition-sound path key (ComputedItem d) k h = sound-then PlainOption IsPlain (written_type path d.type_name) _ (written-sound path d.type_name) (λ o p. value-plain false o p)
definition-sound path key (FuncItem d) k h =
    sound-then PlainParams IsPlain (params_query path (params_in d.params)) _ (params-sound path (params_in d.params) h) (λ ps pp. sound-then PlainOption IsPlain (result_query path d.result_type) _ (result-sound path d.result_type) (λ r pr. function-plain ps r pp pr))
definition-sound path key (AliasItem d) k h = sound-then PlainOption IsPlain (written_type path d.type_name) _ (written-sound path d.type_name) (λ o p. alias-plain o p)
definition-sound path key (StructItem d) k h = (elim key.kind as (λ kind. Sound IsPlain (struct_query path kind key d.members)) [
  | TopLevel ↦ k.1
  | Nominal ↦ sound-then PlainAll IsPlain (all_measured key.context (stored_in path d.members)) _ (all-sound key.context _ h) (λ o p. fields-plain o p)
  | PotentialMember ↦ k.1
  | Member ↦ k.1
  | DynamicLookup ↦ k.1
  | ExternalDepend ↦ k.1
  | SourceFileProvide ↦ k.1
])
definition-sound path key (ExtensionItem d) k h = k.0

definition-asks : (path : List ℕ) (key : Key) (item : Item) → AsksKeys (definition_query path key item)
definition-asks path key (GlobalItem d) = sound-then PlainOption Anything (global_type path d.annotation d.value) _ (global-sound path d.annotation d.value) (λ o p. tt)
definition-asks path key (StoredItem d) = sound-then PlainOption Anything (stored_type path d.value) _ (stored-sound path d.value) (λ o p. tt)
definition-asks path key (ComputedItem d) = sound-then PlainOption Anything (written_type path d.type_name) _ (written-sound path d.type_name) (λ o p. tt)
definition-asks path key (FuncItem d) =
    sound-then Anything Anything (params_query path (params_in d.params)) _ (params-ask path (params_in d.params)) (λ ps _. sound-then PlainOption Anything (result_query path d.result_type) _ (result-sound path d.result_type) (λ r _. tt))
definition-asks path key (AliasItem d) = sound-then PlainOption Anything (written_type path d.type_name) _ (written-sound path d.type_name) (λ o p. tt)
definition-asks path key (StructItem d) = (elim key.kind as (λ kind. AsksKeys (struct_query path kind key d.members)) [
  | TopLevel ↦ tt
  | Nominal ↦ sound-then Anything Anything (all_measured key.context (stored_in path d.members)) _ (all-ask key.context _) (λ o _. tt)
  | PotentialMember ↦ tt
  | Member ↦ tt
  | DynamicLookup ↦ tt
  | ExternalDepend ↦ tt
  | SourceFileProvide ↦ tt
])
definition-asks path key (ExtensionItem d) = tt

-- All readings ask what look-ups ask.
pub readings-ask : ReadingsAskKeys
readings-ask path key item = (elim key.kind as (λ kind. AsksKeys (query_by_kind kind path key item)) [
  | TopLevel ↦ definition-asks path key item
  | Nominal ↦ definition-asks path key item
  | Member ↦ definition-asks path key item
  | PotentialMember ↦ tt
  | DynamicLookup ↦ tt
  | ExternalDepend ↦ tt
  | SourceFileProvide ↦ tt
])

item-sound : (path : List ℕ) (key : Key) (item : Item) → IsPlainKey key → IsPlainItem path item → Sound IsPlain (item_query path key item)
item-sound path key item k h = (elim key.kind as (λ kind. Sound IsPlain (query_by_kind kind path key item)) [
  | TopLevel ↦ definition-sound path key item k h
  | Nominal ↦ definition-sound path key item k h
  | Member ↦ definition-sound path key item k h
  | PotentialMember ↦ k.0
  | DynamicLookup ↦ k.0
  | ExternalDepend ↦ k.0
  | SourceFileProvide ↦ k.0
])

-- the declarations that have a key are plain, and the key is theirs
pub plain-having : (files : List FileTree) → HasPlainNames files → (key : Key) (d : Declaration) → Among (having files key) d → IsPlainDeclaration d × Among d.keys key
unfolding having
plain-having files h key d m = let k = kept-from _ (flat_map declarations_in files) d m in (h.each d k.0, has-among key d k.1)

given-sound : (key : Key) (ds : List Declaration) → ((d : Declaration) → Among ds d → IsPlainDeclaration d × Among d.keys key) → Sound IsPlain (given_by key ds)
given-sound key [] h = tt
given-sound key (d ∷ []) h = let p = h d (inl refl) in item-sound d.path key d.item (p.0.keys key p.1) p.0.item
given-sound key (d ∷ e ∷ ds) h = tt

sound-run : {X : Type 0} (R : X → Type 0) (s : Key → Option Meaning) → ((k : Key) (a : Meaning) → s k ≡ Some a → IsPlain a) → (q : Query X) (x : X) → Sound R q → run s q ≡ Ok x → R x
sound-run R s plain (Done y) x h r = subst R (let same : y ≡ x = cc in same) h
sound-run {X} R s plain (Fetch k g) x h r = (elim (s k) as (λ o. s k ≡ o → run_on k o (λ a. run s (g a)) ≡ Ok x → R x)
    [ None ↦ λ e r. absurd cc | Some a ↦ λ e r. sound-run R s plain (g a) x (h.1 a (plain k a e)) r ]) refl r

round-plain : (files : List FileTree) → HasPlainNames files → (n : ℕ) (k : Key) (a : Meaning) → seen (rules files) (round (rules files) n) k ≡ Some a → IsPlain a
round-plain files h zero k a e = (elim ((rules files).has k) as (λ v. cond v None (Some means.NoProvider) ≡ Some a → IsPlain a) [
  | true ↦ λ e. absurd cc
  | false ↦ λ e. subst IsPlain (let same : means.NoProvider ≡ a = cc in same) tt
]) e
round-plain files h (suc n) k a e = (elim ((rules files).has k) as (λ v. cond v (ok_of (run (seen (rules files) (round (rules files) n)) (given_by k (having files k)))) (Some means.NoProvider) ≡ Some a → IsPlain a) [
  | true ↦ λ e. sound-run IsPlain (seen (rules files) (round (rules files) n)) (λ u b w. round-plain files h n u b w) (given_by k (having files k)) a (given-sound k (having files k) (λ d m. plain-having files h k d m)) (ok_of-some _ a e)
  | false ↦ λ e. subst IsPlain (let same : means.NoProvider ≡ a = cc in same) tt
]) e

-- Every meaning is plain.
pub meanings-plain : (files : List FileTree) → HasPlainNames files → (k : Key) → IsPlain (meaning_in files k)
unfolding meaning_in
meanings-plain files h k = (elim (solution (rules files) (module_keys files) k) as (λ o. solution (rules files) (module_keys files) k ≡ o → IsPlain (known_or means.Circular o)) [
  | None ↦ λ e. tt
  | Some a ↦ λ e. sound-run IsPlain (seen (rules files) (solution (rules files) (module_keys files))) (λ u b w. round-plain files h (length (module_keys files) + 1) u b w) (given_by k (having files k)) a
      (given-sound k (having files k) (λ d m. plain-having files h k d m)) (solution-runs (rules files) (module_keys files) k a e)
]) refl

may-of-can : (key : Key) (item : Item) (m : Meaning) → CanMean key item m → MayMean key item m
may-of-can key item means.Ambiguous h = tt
may-of-can key item means.Circular h = tt
may-of-can key item means.NoProvider h = h
may-of-can key item means.Broken h = h
may-of-can key item (means.Value mu of) h = h
may-of-can key item (means.Function ps r) h = h
may-of-can key item (means.Struct c) h = h
may-of-can key item (means.Alias of) h = h
may-of-can key item (means.Fields fs w) h = h

given-may : (s : Key → Option Meaning) (key : Key) (ds : List Declaration) (d : Declaration) → Among ds d → (a : Meaning) → run s (given_by key ds) ≡ Ok a → MayMean key d.item a
given-may s key [] d m a h = absurd m
given-may s key (x ∷ []) d m a h = elim m [
  | inl e ↦ subst (λ (y : Declaration). MayMean key y.item a) e (may-of-can key x.item a (ends-run (CanMean key x.item) s (item_query x.path key x.item) a (item-can x.path key x.item) h))
  | inr n ↦ absurd n
]
given-may s key (x ∷ y ∷ ds) d m a h = subst (MayMean key d.item) (let same : means.Ambiguous ≡ a = cc in same) tt

-- What a key of a declaration means is one of what it may mean.
pub may-mean : (files : List FileTree) (key : Key) (d : Declaration) → Among (having files key) d → MayMean key d.item (meaning_in files key)
unfolding meaning_in
may-mean files key d m = (elim (solution (rules files) (module_keys files) key) as (λ o. solution (rules files) (module_keys files) key ≡ o → MayMean key d.item (known_or means.Circular o)) [
  | None ↦ λ e. tt
  | Some a ↦ λ e. given-may _ key (having files key) d m a (solution-runs (rules files) (module_keys files) key a e)
]) refl
