-- Tasks that ask own keys.
use Rattle.std.proofs.Common.{◌≡◌, ◌∷◌, ◌++◌, List, map, Some, None, refl, ap, ◌∙◌, inl, inr}
use Rattle.queries.specs.Queries.{Task, Done, Fetch, Among, value_with, dependencies}
use Rattle.checks.specs.Checks.{Check, behind, on_value, ◌>>=◌}
use Rattle.checks.specs.OwnKeys.{Asked, Use, Own, key_of, answering, used, owned, with_own, uses, asks}
use Rattle.checks.specs.Laws.{IsTheSame, SameAnswersGiveTheSame, OwnAnswersGiveTheValue, UsedIsAsked, OwnedIsUnasked, OwnAnswersGoAlong}

pub used_asked : {K A X : Type 0} → UsedIsAsked K A X
used_asked answers (Done x) = refl
used_asked answers (Fetch k g) = λ i. Fetch k (λ a. used_asked answers (g a) i)

pub owned_unasked : {K A X : Type 0} → OwnedIsUnasked K A X
owned_unasked answers (Done x) = refl
owned_unasked answers (Fetch k g) = owned_unasked answers (g (answers k))

pub own_value : {K A X : Type 0} → OwnAnswersGiveTheValue K A X
own_value answers (Done x) = refl
own_value answers (Fetch (Use k) g) = own_value answers (g (answers k))
own_value answers (Fetch (Own k) g) = own_value answers (g (answers k))

own_behind : {K A E X : Type 0} (answers : K → A) (before : List E) (check : Check (Asked K) A E X) → with_own answers (behind before check) ≡ behind before (with_own answers check)
own_behind answers before (Done c) = refl
own_behind answers before (Fetch (Use k) g) = λ i. Fetch k (λ a. own_behind answers before (g a) i)
own_behind answers before (Fetch (Own k) g) = own_behind answers before (g (answers k))

pub own_bind : {K A E X Y : Type 0} → OwnAnswersGoAlong K A E X Y
own_bind answers (Done c) f =
    own_behind answers c.errors (on_value c.value f)
    ∙ (elim c.value as (λ v. behind c.errors (with_own answers (on_value v f)) ≡ behind c.errors (on_value v (λ x. with_own answers (f x)))) [ None ↦ refl | Some x ↦ refl ])
own_bind answers (Fetch (Use k) g) f = λ i. Fetch k (λ a. own_bind answers (g a) f i)
own_bind answers (Fetch (Own k) g) f = own_bind answers (g (answers k)) f

-- what is asked is answered alike, and so what is used is the same
uses_alike : {K A X : Type 0} (p q : K → A) (task : Task (Asked K) A X) → ((k : K) → Among (asks p task) k → p k ≡ q k) → uses p task ≡ uses q task
uses_alike p q (Done x) h = refl
uses_alike p q (Fetch (Use k) g) h = ap (λ ks. k ∷ ks) (uses_alike p q (g (p k)) (λ u m. h u (inr m)) ∙ ap (λ a. uses q (g a)) (h k (inl refl)))
uses_alike p q (Fetch (Own k) g) h = uses_alike p q (g (p k)) (λ u m. h u (inr m)) ∙ ap (λ a. uses q (g a)) (h k (inl refl))

asks_alike : {K A X : Type 0} (p q : K → A) (task : Task (Asked K) A X) → ((k : K) → Among (asks p task) k → p k ≡ q k) →
    (value_with (answering p) task ≡ value_with (answering q) task) × (asks p task ≡ asks q task)
asks_alike p q (Done x) h = (refl, refl)
asks_alike p q (Fetch asked g) h =
    let e : p (key_of asked) ≡ q (key_of asked) = h (key_of asked) (inl refl) in
    let rest = asks_alike p q (g (p (key_of asked))) (λ u m. h u (inr m)) in
    (rest.0 ∙ ap (λ a. value_with (answering q) (g a)) e, ap (λ ks. key_of asked ∷ ks) (rest.1 ∙ ap (λ a. asks q (g a)) e))

pub same_task : {K A X : Type 0} → SameAnswersGiveTheSame K A X
same_task p q task h =
    let both = asks_alike p q task h in
    record { value = both.0; uses = uses_alike p q task h; asks = both.1 }
