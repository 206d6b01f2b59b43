use Rattle.std.proofs.Common.{◌≡◌, ℕ, zero, suc, ◌+◌, true, false, cond, List, Option, Some, None, Ok, Err, length, refl, ap, sym, ◌∙◌, subst, arith, ◌⊎◌, inl, inr}
use Rattle.queries.specs.Queries.{Task, Done, Fetch, run_on, run, ok_of, Rules, seen, round, solution, IsListing, IsBelow, IsNeverKnown, WaitsFor, IsClosed}
use Rattle.queries.proofs.Growth.{run-grows, ok_of-some, round-grows, stands-still}

-- what a task gives with the solution's answers is in the solution
pub solution-takes : {K A : Type 0} (r : Rules K A) (keys : List K) → IsListing r keys → (k : K) (a : A) →
    run (seen r (solution r keys)) (r.means k) ≡ Ok a → seen r (solution r keys) k ≡ Some a
solution-takes r keys c k a h =
    (elim (r.has k) as (λ v. r.has k ≡ v → seen r (solution r keys) k ≡ Some a) [
      | true ↦ λ e. (stands-still r keys c).at k a (rw e (ap ok_of h))
      | false ↦ λ e. rw e (let g : Done r.nothing ≡ r.means k = sym (c.others k e) in cc)
    ]) refl

-- every round's answers are the solution's
pub from-round : {K A : Type 0} (r : Rules K A) (keys : List K) → IsListing r keys → (n : ℕ) → IsBelow (seen r (round r n)) (seen r (solution r keys))
from-round r keys c zero = record {
  at = λ k a h.
      (elim (r.has k) as (λ v. cond v None (Some r.nothing) ≡ Some a → cond v (solution r keys k) (Some r.nothing) ≡ Some a)
      [ true ↦ λ h. cc | false ↦ λ h. h ]) h;
}
from-round r keys c (suc n) =
    let ih : IsBelow (seen r (round r n)) (seen r (solution r keys)) = from-round r keys c n in
    record {
      at = λ k a h.
          (elim (r.has k) as (λ v. r.has k ≡ v → cond v (round r (suc n) k) (Some r.nothing) ≡ Some a → cond v (solution r keys k) (Some r.nothing) ≡ Some a) [
            | true ↦ λ e h. rw e at (solution-takes r keys c k a (run-grows _ _ (r.means k) a ih (ok_of-some _ a h)))
            | false ↦ λ e h. h
          ]) refl h;
    }

-- what is in the solution is what its task gives with the solution's answers
pub solution-runs : {K A : Type 0} (r : Rules K A) (keys : List K) → (k : K) (a : A) → solution r keys k ≡ Some a → run (seen r (solution r keys)) (r.means k) ≡ Ok a
solution-runs r keys k a h = ok_of-some _ a ((round-grows r (length keys + 1)).at k a h)

-- a task that stops at u with some answers gives nothing with others that agree, before u is known
pub run-stops : {K A X : Type 0} (s t : K → Option A) → ((k : K) (a b : A) → s k ≡ Some a → t k ≡ Some b → a ≡ b) → (q : Task K A X) (u : K) →
    run s q ≡ Err u → t u ≡ None → ok_of (run t q) ≡ None
run-stops s t agree (Done y) u h none = cc
run-stops {K} {A} {X} s t agree (Fetch k g) u h none =
    (elim (s k) as (λ o. s k ≡ o → run_on k o (λ a. run s (g a)) ≡ Err u → ok_of (run_on k (t k) (λ a. run t (g a))) ≡ None) [
      | None ↦ λ e h. let same : k ≡ u = cc in let no : t k ≡ None = ap t same ∙ none in rw no refl
      | Some a ↦ λ e h.
          (elim (t k) as (λ p. t k ≡ p → ok_of (run_on k p (λ a. run t (g a))) ≡ None) [
            | None ↦ λ f. refl
            | Some b ↦ λ f. run-stops s t agree (g b) u (subst (λ c. run s (g c) ≡ Err u) (agree k a b e f) h) none
          ]) refl
    ]) refl h

-- where the task of k stops at u with true answers, k waits for u in every round
pub waits-there : {K A : Type 0} (r : Rules K A) (keys : List K) → IsListing r keys → (memo : K → Option A) → IsBelow memo (seen r (solution r keys)) → (k u : K) →
    run memo (r.means k) ≡ Err u → r.has u ≡ true → WaitsFor r k u
waits-there r keys c memo b k u h has = record {
  at = λ n none.
      run-stops memo (seen r (round r n)) (λ k a b' e f. let x : seen r (solution r keys) k ≡ Some a = b.at k a e in let y : seen r (solution r keys) k ≡ Some b' = (from-round r keys c n).at k b' f in cc)
      (r.means k) u h (rw has none);
}

-- where each of a set waits for another of the set, or for one that is never known, none of the set is ever known
pub circle : {K A : Type 0} (r : Rules K A) (W : K → Type 0) → ((k : K) → W k → (u : K) × (W u ⊎ IsNeverKnown r u) × WaitsFor r k u) → (n : ℕ) (k : K) → W k → round r n k ≡ None
circle r W each zero k w = refl
circle {K} r W each (suc n) k w =
    let next : (u : K) × (W u ⊎ IsNeverKnown r u) × WaitsFor r k u = each k w in
    next.2.at n (elim next.1 [ inl v ↦ circle r W each n next.0 v | inr v ↦ v.at n ])

-- what a task gives with true answers is true
pub takes : {K A : Type 0} (r : Rules K A) (keys : List K) → IsListing r keys → (memo : K → Option A) → IsBelow memo (seen r (solution r keys)) → (k : K) (a : A) →
    run memo (r.means k) ≡ Ok a → seen r (solution r keys) k ≡ Some a
takes r keys c memo b k a h = solution-takes r keys c k a (run-grows memo _ (r.means k) a b h)

-- what isn't in the solution is known in no round
pub never-known : {K A : Type 0} (r : Rules K A) (keys : List K) → IsListing r keys → (k : K) → seen r (solution r keys) k ≡ None → IsNeverKnown r k
never-known r keys c k h = record {
  at = λ n.
      (elim (round r n k) as (λ o. round r n k ≡ o → round r n k ≡ None) [
        | None ↦ λ e. e
        | Some a ↦ λ e. (elim (r.has k) as (λ v. r.has k ≡ v → round r n k ≡ None) [
          | true ↦ λ f. (let known : seen r (solution r keys) k ≡ Some a = (from-round r keys c n).at k a (rw f e) in cc)
          | false ↦ λ f. (let no : Some r.nothing ≡ None = rw f at h in cc)
        ]) refl
      ]) refl;
}

-- a key without provider has the answer of those without
pub solution-nothing : {K A : Type 0} (r : Rules K A) (keys : List K) → IsListing r keys → (k : K) → r.has k ≡ false → solution r keys k ≡ Some r.nothing
solution-nothing r keys c k e =
    let step : round r (suc (length keys)) k ≡ Some r.nothing = ap (λ q. ok_of (run (seen r (round r (length keys))) q)) (c.others k e) in
    let same : suc (length keys) ≡ length keys + 1 = omega arith in
    subst (λ n. round r n k ≡ Some r.nothing) same step

pub solution-seen : {K A : Type 0} (r : Rules K A) (keys : List K) → IsListing r keys → (k : K) → seen r (solution r keys) k ≡ solution r keys k
solution-seen r keys c k = (elim (r.has k) as (λ v. r.has k ≡ v → cond v (solution r keys k) (Some r.nothing) ≡ solution r keys k)
    [ true ↦ λ e. refl | false ↦ λ e. sym (solution-nothing r keys c k e) ]) refl

-- no round knows more than answers that are closed under the tasks
pub round-below : {K A : Type 0} (r : Rules K A) (answers : K → Option A) → IsClosed r answers → (n : ℕ) → IsBelow (seen r (round r n)) (seen r answers)
round-below r answers c zero = record {
  at = λ k a h.
      (elim (r.has k) as (λ v. cond v None (Some r.nothing) ≡ Some a → cond v (answers k) (Some r.nothing) ≡ Some a)
      [ true ↦ λ h. cc | false ↦ λ h. h ]) h;
}
round-below r answers c (suc n) =
    let ih : IsBelow (seen r (round r n)) (seen r answers) = round-below r answers c n in
    record {
      at = λ k a h.
          (elim (r.has k) as (λ v. r.has k ≡ v → cond v (round r (suc n) k) (Some r.nothing) ≡ Some a → cond v (answers k) (Some r.nothing) ≡ Some a) [
            | true ↦ λ e h. rw e at (c.at k a (run-grows _ _ (r.means k) a ih (ok_of-some _ a h)))
            | false ↦ λ e h. h
          ]) refl h;
    }

pub solution-closed : {K A : Type 0} (r : Rules K A) (keys : List K) → IsListing r keys → IsClosed r (solution r keys)
solution-closed r keys c = record { at = solution-takes r keys c }

same-answer : {A : Type 0} (o p : Option A) → ((a : A) → o ≡ Some a → p ≡ Some a) → ((a : A) → p ≡ Some a → o ≡ Some a) → o ≡ p
same-answer None None f g = refl
same-answer None (Some b) f g = g b refl
same-answer (Some a) p f g = sym (f a refl)

-- the solution is the same whichever list has the keys
pub solution-one : {K A : Type 0} (r : Rules K A) (keys others : List K) → IsListing r keys → IsListing r others → (k : K) → seen r (solution r keys) k ≡ seen r (solution r others) k
solution-one r keys others c d k =
    same-answer (seen r (solution r keys) k) (seen r (solution r others) k)
    ((round-below r (solution r others) (solution-closed r others d) (length keys + 1)).at k)
    ((round-below r (solution r keys) (solution-closed r keys c) (length others + 1)).at k)

-- what a task gives with the solution's answers is in the solution, as such
pub solution-fixed : {K A : Type 0} (r : Rules K A) (keys : List K) → IsListing r keys → (k : K) (a : A) →
    run (seen r (solution r keys)) (r.means k) ≡ Ok a → solution r keys k ≡ Some a
solution-fixed r keys c k a h = sym (solution-seen r keys c k) ∙ solution-takes r keys c k a h
