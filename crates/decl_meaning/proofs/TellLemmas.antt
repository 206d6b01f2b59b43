-- What a reading with the answers so far tells.
use Rattle.std.proofs.Common.{◌≡◌, ℕ, ◌<◌, true, false, not, List, [], ◌∷◌, Option, Some, None, Ok, length, arith, refl, sym, ap, ◌∙◌, subst, ◌⊎◌, inl, inr}
use Rattle.std.specs.Prelude.{All, ◌==◌, is_some}
use Rattle.std.specs.List.{filter}
use Rattle.std.proofs.lemmas.Bool.Decides.{nat_tests}
use Rattle.std.specs.Vec.{vec_len}
use Rattle.std.specs.declared.vec.Vec.{Vec}
use Rattle.std.specs.declared.alloc.Global.{Global}
use Rattle.std.specs.BTreeSet.{insert_key}
use Rattle.std.specs.Ordering.{match_ordering}
use Rattle.std.specs.declared.cmp.Ordering.TheVariants.{Less, Equal, Greater}
use Rattle.std.proofs.lemmas.List.Elements.{All-nil, All-cons}
use Rattle.queries.specs.Queries.{run, Among, dependencies, value_with}
use Rattle.checks.specs.Logs.{entered}
use Rattle.dep_key.specs.declared.key.Key.{Key}
use Rattle.dep_key.specs.KeyOrder.{key_order}
use Rattle.dep_key.specs.KeysApart.{keys_apart}
use Rattle.decl_index.specs.Declarations.{Item}
use Rattle.query_evaluator.specs.Memos.{IsWanted}
use Rattle.type_rules.specs.declared.meaning.Meaning.{Meaning}
use Rattle.type_infer.specs.Readings.{item_query}
use Rattle.type_infer.specs.Demand.{or_circular, AskedIsNeeded, AllKnownEnds}
use Rattle.type_infer.proofs.ListFacts.{kept-from, kept-some}

-- of the order of two keys, an insertion
inserted_here : (ks : List Key) (k : Key) → Among (insert_key key_order ks k) k
inserted_here [] k = inl refl
inserted_here (x ∷ ks) k = (elim (key_order k x) as (λ r. key_order k x ≡ r → Among (match_ordering r (k ∷ x ∷ ks) (x ∷ ks) (x ∷ insert_key key_order ks k)) k) [
  | Less ↦ λ e. inl refl
  | Equal ↦ λ e. inl (sym (keys_apart k x e))
  | Greater ↦ λ e. inr (inserted_here ks k)
]) refl

inserted_kept : (ks : List Key) (k u : Key) → Among ks u → Among (insert_key key_order ks k) u
inserted_kept [] k u m = absurd m
inserted_kept (x ∷ ks) k u m = elim (key_order k x) as (λ r. Among (match_ordering r (k ∷ x ∷ ks) (x ∷ ks) (x ∷ insert_key key_order ks k)) u) [
  | Less ↦ inr m
  | Equal ↦ m
  | Greater ↦ elim m [ inl e ↦ inl e | inr n ↦ inr (inserted_kept ks k u n) ]
]

inserted_from : (ks : List Key) (k u : Key) → Among (insert_key key_order ks k) u → (k ≡ u) ⊎ Among ks u
inserted_from [] k u m = m
inserted_from (x ∷ ks) k u m = (elim (key_order k x) as (λ r. Among (match_ordering r (k ∷ x ∷ ks) (x ∷ ks) (x ∷ insert_key key_order ks k)) u → (k ≡ u) ⊎ Among (x ∷ ks) u) [
  | Less ↦ λ m. m
  | Equal ↦ λ m. inr m
  | Greater ↦ λ m. elim m [ inl e ↦ inr (inl e) | inr n ↦ elim (inserted_from ks k u n) [ inl e ↦ inl e | inr n ↦ inr (inr n) ] ]
]) m

entered_kept : (set ks : List Key) (u : Key) → Among set u → Among (entered key_order set ks) u
entered_kept set [] u m = m
entered_kept set (k ∷ ks) u m = entered_kept (insert_key key_order set k) ks u (inserted_kept set k u m)

entered_has : (set ks : List Key) (u : Key) → Among ks u → Among (entered key_order set ks) u
entered_has set [] u m = absurd m
entered_has set (k ∷ ks) u (inl e) = entered_kept (insert_key key_order set k) ks u (subst (λ z. Among (insert_key key_order set k) z) e (inserted_here set k))
entered_has set (k ∷ ks) u (inr m) = entered_has (insert_key key_order set k) ks u m

entered_from : (set ks : List Key) (u : Key) → Among (entered key_order set ks) u → Among set u ⊎ Among ks u
entered_from set [] u m = inl m
entered_from set (k ∷ ks) u m = elim (entered_from (insert_key key_order set k) ks u m) [
  | inl n ↦ elim (inserted_from set k u n) [ inl e ↦ inr (inl e) | inr n ↦ inl n ]
  | inr n ↦ inr (inr n)
]

all_among : {X : Type 0} (P : X → Type 0) (xs : List X) → ((x : X) → Among xs x → P x) → All P xs
all_among P [] h = All-nil P
all_among P (x ∷ xs) h = All-cons P x xs (h x (inl refl)) (all_among P xs (λ y m. h y (inr m)))

no_answer : (o : Option Meaning) → not (is_some o) ≡ true → o ≡ None
no_answer None h = refl
no_answer (Some m) h = absurd cc

no_items : {X : Type 0} (xs : List X) → (length xs == 0) ≡ true → xs ≡ []
no_items [] none = refl
no_items (x ∷ xs) none = absurd (grind (arith, nat_tests))

pub emptied : {X : Type 0} (v : Vec X Global) → (vec_len v == 0) ≡ true → v.items ≡ []
emptied v none = no_items v.items (let same : vec_len v ≡ length v.items = omega arith in subst (λ n. (n == 0) ≡ true) same none)

pub some_items : {X : Type 0} (v : Vec X Global) → (vec_len v == 0) ≡ false → 0 < length v.items
some_items {X} v some = (elim v.items as (λ xs. v.items ≡ xs → 0 < length xs) [
  | [] ↦ λ none. absurd (let empty : vec_len v ≡ 0 = omega (arith, ap length none) in let is : (vec_len v == 0) ≡ true = rw empty refl in cc)
  | x ∷ xs ↦ λ e. omega arith
]) refl

-- keys that were asked and of which nothing is known
abbrev pub unknown : (Key → Option Meaning) → List Key → List Key
unknown known asked = filter (λ key. not (is_some (known key))) asked

pub value_told : AllKnownEnds → (known : Key → Option Meaning) (path : List ℕ) (key : Key) (item : Item) (asked : List Key) (m : Meaning) → m ≡ value_with (or_circular known) (item_query path key item) →
    asked ≡ entered key_order [] (dependencies (or_circular known) (item_query path key item)) → unknown known asked ≡ [] → run known (item_query path key item) ≡ Ok m
value_told ends known path key item asked m value set none =
    ends known path key item (λ u n unknown_one. subst (λ l. Among l u) none (kept-some (λ k. not (is_some (known k))) asked u (subst (λ l. Among l u) (sym set) (entered_has [] _ u n)) (ap (λ o. not (is_some o)) unknown_one)))
    ∙ ap Ok (sym value)

pub wants_told : AskedIsNeeded → (known : Key → Option Meaning) (path : List ℕ) (key : Key) (item : Item) (asked : List Key) →
    asked ≡ entered key_order [] (dependencies (or_circular known) (item_query path key item)) → All (IsWanted known (item_query path key item)) (unknown known asked)
wants_told needed known path key item asked set = all_among (IsWanted known (item_query path key item)) (unknown known asked) (λ u n.
    (let kept = kept-from (λ k. not (is_some (known k))) asked u n in
    let none : known u ≡ None = no_answer (known u) kept.1 in
    let among : Among (dependencies (or_circular known) (item_query path key item)) u = elim (entered_from [] _ u (subst (λ l. Among l u) set kept.0)) [ inl none ↦ absurd none | inr n ↦ n ] in
    record { unknown = none; needed = needed known path key item u among none }))
