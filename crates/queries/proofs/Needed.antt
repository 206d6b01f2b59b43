-- What a task needs, and what it can end with.
use Rattle.std.proofs.Common.{◌≡◌, Bool, true, List, ◌∷◌, Option, Some, None, Result, Ok, Err, refl, ap, ◌∙◌, subst, inl, inr}
use Rattle.queries.specs.Queries.{Task, Done, Fetch, ◌>>=◌, run_on, run, run_then, ok_of, Rules, seen, round, solution, IsListing, Among, IsBelow, WaitsFor, dependencies, value_with, Agree, Needs, Gives}
use Rattle.queries.proofs.Growth.{run-bind}
use Rattle.queries.proofs.Solution.{from-round, run-stops}

pub stopped-needs : {K A X : Type 0} (known : K → Option A) (task : Task K A X) (u : K) → run known task ≡ Err u → Needs known task u
stopped-needs known task u h = record { at = λ later agree none. run-stops known later agree.at task u h none }

none-then : {K X Y : Type 0} (r : Result X K) (f : X → Result Y K) → ok_of r ≡ None → ok_of (run_then r f) ≡ None
none-then (Ok x) f h = cc
none-then (Err k) f h = refl

pub needs-first : {K A X Y : Type 0} (known : K → Option A) (task : Task K A X) (next : X → Task K A Y) (u : K) → Needs known task u → Needs known (task >>= next) u
needs-first known task next u n = record {
  at = λ later agree none. ap ok_of (run-bind later task next) ∙ none-then (run later task) (λ x. run later (next x)) (n.at later agree none);
}

none-next : {K X Y : Type 0} (r : Result X K) (f : X → Result Y K) → ((x : X) → r ≡ Ok x → ok_of (f x) ≡ None) → ok_of (run_then r f) ≡ None
none-next (Ok x) f h = h x refl
none-next (Err k) f h = refl

pub needs-next : {K A X Y : Type 0} (known : K → Option A) (task : Task K A X) (next : X → Task K A Y) (u : K) → ((x : X) → Needs known (next x) u) → Needs known (task >>= next) u
needs-next known task next u n = record {
  at = λ later agree none. ap ok_of (run-bind later task next) ∙ none-next (run later task) (λ x. run later (next x)) (λ x e. (n x).at later agree none);
}

-- a task that ends with some answers ends with the same value with others that agree, if it ends
pub agreeing-end : {K A X : Type 0} (s t : K → Option A) → Agree s t → (task : Task K A X) (x y : X) → run s task ≡ Ok x → run t task ≡ Ok y → x ≡ y
agreeing-end s t agree (Done z) x y h g = cc
agreeing-end {K} {A} {X} s t agree (Fetch k g) x y h h2 =
    (elim (s k) as (λ o. s k ≡ o → run_on k o (λ a. run s (g a)) ≡ Ok x → x ≡ y) [
      | None ↦ λ e h. cc
      | Some a ↦ λ e h.
          (elim (t k) as (λ p. t k ≡ p → run_on k p (λ a. run t (g a)) ≡ Ok y → x ≡ y) [
            | None ↦ λ f h2. cc
            | Some b ↦ λ f h2. agreeing-end s t agree (g b) x y (subst (λ c. run s (g c) ≡ Ok x) (agree.at k a b e f) h) h2
          ]) refl h2
    ]) refl h

pub needs-behind : {K A X Y : Type 0} (known : K → Option A) (task : Task K A X) (next : X → Task K A Y) (x : X) (u : K) → run known task ≡ Ok x → Needs known (next x) u →
    Needs known (task >>= next) u
needs-behind known task next x u ends n = record {
  at = λ later agree none. ap ok_of (run-bind later task next) ∙ none-next (run later task) (λ y. run later (next y))
      (λ y e. subst (λ z. ok_of (run later (next z)) ≡ None) (agreeing-end known later agree task x y ends e) (n.at later agree none));
}

-- where the task of k needs u with true answers, k waits for u in every round
pub needed-waits : {K A : Type 0} (r : Rules K A) (keys : List K) → IsListing r keys → (memo : K → Option A) → IsBelow memo (seen r (solution r keys)) → (k u : K) →
    Needs memo (r.means k) u → r.has u ≡ true → WaitsFor r k u
needed-waits r keys c memo b k u n has = record {
  at = λ m none.
      n.at (seen r (round r m))
      (record { at = λ k a b' e f. let x : seen r (solution r keys) k ≡ Some a = b.at k a e in let y : seen r (solution r keys) k ≡ Some b' = (from-round r keys c m).at k b' f in cc })
      (rw has none);
}

-- the values and the dependencies of a task are those that equal answers give
pub equal-answers : {K A X : Type 0} (answers others : K → A) (task : Task K A X) → ((u : K) → Among (dependencies answers task) u → answers u ≡ others u) →
    (value_with answers task ≡ value_with others task) × (dependencies answers task ≡ dependencies others task)
equal-answers answers others (Done x) same = (refl, refl)
equal-answers answers others (Fetch k g) same =
    let here : answers k ≡ others k = same k (inl refl) in
    let rest : (value_with answers (g (answers k)) ≡ value_with others (g (answers k))) × (dependencies answers (g (answers k)) ≡ dependencies others (g (answers k))) =
    equal-answers answers others (g (answers k)) (λ u m. same u (inr m)) in
    (rest.0 ∙ ap (λ a. value_with others (g a)) here, ap (λ l. k ∷ l) (rest.1 ∙ ap (λ a. dependencies others (g a)) here))

pub gives-run : {K A X : Type 0} (passes : X → Bool) (task : Task K A X) → Gives passes task → (known : K → Option A) (x : X) → run known task ≡ Ok x → passes x ≡ true
gives-run passes (Done y) given known x h = let same : y ≡ x = cc in subst (λ z. passes z ≡ true) same given
gives-run {K} {A} {X} passes (Fetch k g) given known x h =
    (elim (known k) as (λ o. run_on k o (λ a. run known (g a)) ≡ Ok x → passes x ≡ true)
    [ None ↦ λ h. cc | Some a ↦ λ h. gives-run passes (g a) (given a) known x h ]) h

pub gives-value : {K A X : Type 0} (passes : X → Bool) (task : Task K A X) → Gives passes task → (answers : K → A) → passes (value_with answers task) ≡ true
gives-value passes (Done x) given answers = given
gives-value passes (Fetch k g) given answers = gives-value passes (g (answers k)) (given (answers k)) answers

pub gives-bind : {K A X Y : Type 0} (first : X → Bool) (passes : Y → Bool) (task : Task K A X) (next : X → Task K A Y) →
    Gives first task → ((x : X) → first x ≡ true → Gives passes (next x)) → Gives passes (task >>= next)
gives-bind first passes (Done x) next given then = then x given
gives-bind first passes (Fetch k g) next given then = λ a. gives-bind first passes (g a) next (given a) then
