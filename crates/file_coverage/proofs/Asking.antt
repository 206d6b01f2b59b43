-- What tasks ask with given answers.
use Rattle.std.proofs.Common.{◌≡◌, true, List, [], ◌∷◌, Option, Some, None, refl, subst, ◌⊎◌, inl, inr}
use Rattle.std.specs.List.{AllByRecursion}
use Rattle.queries.specs.Queries.{Task, Done, Fetch, Among, dependencies}
use Rattle.dep_key.specs.declared.key.Key.{Key}
use Rattle.type_rules.specs.declared.meaning.Meaning.{Meaning}
use Rattle.checks.specs.Checks.{Check, behind, on_value, go_on, and_then, both, observing, noting, hushed, appended, all_behind, all}
use Rattle.checks.specs.OwnKeys.{Asked, Use, Own, answering, used, owned, uses, asks}
use Rattle.type_infer.specs.Readings.{Query}
use Rattle.type_infer.specs.Plain.{IsPlain}
use Rattle.type_infer.specs.Sound.{is_asked_kind, Sound}

-- With these answers, the task asks such keys alone.
abbrev pub Asks : {K A X : Type 0} → (K → A) → (K → Type 0) → Task K A X → Type 0
Asks answers P (Done x) = Unit {0}
Asks answers P (Fetch k g) = P k × Asks answers P (g (answers k))

module _ {K A E : Type 0} (answers : K → A) (P : K → Type 0) where
  pub asks-behind : {X : Type 0} (before : List E) (c : Check K A E X) → Asks answers P c → Asks answers P (behind before c)
  asks-behind before (Done c) h = tt
  asks-behind before (Fetch k g) h = (h.0, asks-behind before (g (answers k)) h.1)

  asks-on : {X Y : Type 0} (o : Option X) (f : X → Check K A E Y) → ((x : X) → Asks answers P (f x)) → Asks answers P (on_value o f)
  asks-on None f h = tt
  asks-on (Some x) f h = h x

  pub asks-bind : {X Y : Type 0} (c : Check K A E X) (f : X → Check K A E Y) → Asks answers P c → ((x : X) → Asks answers P (f x)) → Asks answers P (go_on c f)
  asks-bind (Done c) f h g = asks-behind c.errors (on_value c.value f) (asks-on c.value f g)
  asks-bind (Fetch k q) f h g = (h.0, asks-bind (q (answers k)) f h.1 g)

  asks-second : {X Y : Type 0} (o : Option X) (d : Check K A E Y) → Asks answers P d → Asks answers P (and_then o d)
  asks-second o (Done d) h = tt
  asks-second o (Fetch k g) h = (h.0, asks-second o (g (answers k)) h.1)

  pub asks-both : {X Y : Type 0} (c : Check K A E X) (d : Check K A E Y) → Asks answers P c → Asks answers P d → Asks answers P (both c d)
  asks-both (Done c) d h g = asks-behind c.errors (and_then c.value d) (asks-second c.value d g)
  asks-both (Fetch k q) d h g = (h.0, asks-both (q (answers k)) d h.1 g)

  pub asks-observing : {X Y : Type 0} (c : Check K A E X) (f : Option X → Check K A E Y) → Asks answers P c → ((o : Option X) → Asks answers P (f o)) → Asks answers P (observing c f)
  asks-observing (Done c) f h g = asks-behind c.errors (f c.value) (g c.value)
  asks-observing (Fetch k q) f h g = (h.0, asks-observing (q (answers k)) f h.1 g)

  pub asks-noting : {X Y : Type 0} (c : Check K A E X) (d : Check K A E Y) → Asks answers P c → Asks answers P d → Asks answers P (noting c d)
  asks-noting c d h g = asks-observing c (λ value. d) h (λ _. g)

  pub asks-hushed : {X : Type 0} (c : Check K A E X) → Asks answers P c → Asks answers P (hushed c)
  asks-hushed (Done c) h = tt
  asks-hushed (Fetch k g) h = (h.0, asks-hushed (g (answers k)) h.1)

  asks-rest : {X : Type 0} (before : Option (List X)) (cs : List (Check K A E X)) → AllByRecursion (λ c. Asks answers P c) cs → Asks answers P (all_behind before cs)
  asks-rest before [] h = tt
  asks-rest before (c ∷ cs) h = asks-observing c _ h.0 (λ o. asks-rest (appended before o) cs h.1)

  pub asks-all : {X : Type 0} (cs : List (Check K A E X)) → AllByRecursion (λ c. Asks answers P c) cs → Asks answers P (all cs)
  asks-all cs h = asks-rest (Some []) cs h

-- a key of a kind that look-ups ask
abbrev pub IsAsked : Key → Type 0
IsAsked k = is_asked_kind k.kind ≡ true

-- A key that is used is of such a kind, and one of the asker's own is one of these too.
abbrev pub IsAllowed : (Key → Type 0) → Asked Key → Type 0
IsAllowed O (Use k) = IsAsked k
IsAllowed O (Own k) = IsAsked k × O k

pub asks-sound : {X : Type 0} (m : Key → Meaning) → ((k : Key) → IsPlain (m k)) → (R : X → Type 0) (q : Query X) → Sound R q → Asks m IsAsked q
asks-sound m plain R (Done x) h = tt
asks-sound m plain R (Fetch k g) h = (h.0, asks-sound m plain R (g (m k)) (h.1 (m k) (plain k)))

pub asks-used : {X : Type 0} (m : Key → Meaning) (O : Key → Type 0) (q : Query X) → Asks m IsAsked q → Asks (answering m) (IsAllowed O) (used q)
asks-used m O (Done x) h = tt
asks-used m O (Fetch k g) h = (h.0, asks-used m O (g (m k)) h.1)

pub asks-owned : {X : Type 0} (m : Key → Meaning) (O : Key → Type 0) (q : Query X) → Asks m (λ k. IsAsked k × O k) q → Asks (answering m) (IsAllowed O) (owned q)
asks-owned m O (Done x) h = tt
asks-owned m O (Fetch k g) h = (h.0, asks-owned m O (g (m k)) h.1)

-- what a sound query asks, and is one of these
pub asks-within : {X : Type 0} (m : Key → Meaning) → ((k : Key) → IsPlain (m k)) → (O : Key → Type 0) (R : X → Type 0) (q : Query X) → Sound R q → ((u : Key) → Among (dependencies m q) u → O u) → Asks m (λ k. IsAsked k × O k) q
asks-within m plain O R (Done x) h o = tt
asks-within m plain O R (Fetch k g) h o = ((h.0, o k (inl refl)), asks-within m plain O R (g (m k)) (h.1 (m k) (plain k)) (λ u w. o u (inr w)))

-- Whatever such a task asks is used, or one of these.
pub asked-is : {X : Type 0} (m : Key → Meaning) (O : Key → Type 0) (task : Task (Asked Key) Meaning X) → Asks (answering m) (IsAllowed O) task → (u : Key) → Among (asks m task) u → IsAsked u × (O u ⊎ Among (uses m task) u)
asked-is m O (Done x) h u w = absurd w
asked-is {X} m O (Fetch (Use k) g) h u w = elim w [
  | inl e ↦ (subst IsAsked e h.0, inr (inl e))
  | inr n ↦ (let r : IsAsked u × (O u ⊎ Among (uses m (g (m k))) u) = asked-is m O (g (m k)) h.1 u n in (r.0, elim r.1 [ inl o ↦ inl o | inr v ↦ inr (inr v) ]))
]
asked-is {X} m O (Fetch (Own k) g) h u w = elim w [
  | inl e ↦ (subst IsAsked e h.0.0, inl (subst O e h.0.1))
  | inr n ↦ asked-is m O (g (m k)) h.1 u n
]
