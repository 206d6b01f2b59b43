use Rattle.std.proofs.Common.{◌≡◌, ℕ, zero, suc, ◌+◌, true, false, List, Option, Some, None, Ok, length, refl, sym, ◌∙◌, subst, inl, inr}
use Rattle.queries.specs.Queries.{Task, Done, Fetch, run_on, run, ok_of, Rules, seen, round, solution, IsListing, Among, dependencies, AgreesOutside}
use Rattle.queries.proofs.Growth.{ok_of-some}
use Rattle.queries.proofs.Solution.{solution-takes, from-round}

-- What a task gives with s it gives with t too, where the two agree on what it fetches, as the answers `ans` have it.
pub along : {K A X : Type 0} (s t : K → Option A) (ans : K → A) (q : Task K A X) (x : X) →
    ((u : K) → Among (dependencies ans q) u → (b : A) → s u ≡ Some b → (t u ≡ Some b) × (ans u ≡ b)) → run s q ≡ Ok x → run t q ≡ Ok x
along s t ans (Done y) x agree h = h
along {K} {A} {X} s t ans (Fetch k g) x agree h =
    (elim (s k) as (λ o. s k ≡ o → run_on k o (λ a. run s (g a)) ≡ Ok x → run_on k (t k) (λ a. run t (g a)) ≡ Ok x) [
      | None ↦ λ e h. cc
      | Some b ↦ λ e h.
          let both : (t k ≡ Some b) × (ans k ≡ b) = agree k (inl refl) b e in
          rw (both.0) (along s t ans (g b) x (λ u m. agree u (inr (subst (λ y. Among (dependencies ans (g y)) u) (sym both.1) m))) h)
    ]) refl h

none-same : {K A : Type 0} (p q : Rules K A) (s t : K → Option A) (k : K) (a : A) → p.nothing ≡ q.nothing → p.has k ≡ q.has k → p.has k ≡ false →
    seen p s k ≡ Some a → seen q t k ≡ Some a
none-same p q s t k a n e f h =
    let g : q.has k ≡ false = sym e ∙ f in
    let h2 : Some p.nothing ≡ Some a = rw f at h in
    rw g cc

forth : {K A : Type 0} (p q : Rules K A) (ps qs : List K) (ans : K → A) (out : K → Type 0) → IsListing p ps → IsListing q qs → AgreesOutside p q ps qs ans out →
    (n : ℕ) (k : K) → out k → (a : A) → seen p (round p n) k ≡ Some a → seen q (solution q qs) k ≡ Some a
forth p q ps qs ans out cp cq c zero k o a h =
    (elim (p.has k) as (λ v. p.has k ≡ v → seen q (solution q qs) k ≡ Some a) [
      | true ↦ λ e. let no : None ≡ Some a = rw e at h in cc
      | false ↦ λ e. none-same p q (round p zero) (solution q qs) k a c.nothing (c.has k o) e h
    ]) refl
forth p q ps qs ans out cp cq c (suc n) k o a h =
    (elim (p.has k) as (λ v. p.has k ≡ v → seen q (solution q qs) k ≡ Some a) [
      | true ↦ λ e.
          let here : ok_of (run (seen p (round p n)) (p.means k)) ≡ Some a = rw e at h in
          solution-takes q qs cq k a (subst (λ m. run (seen q (solution q qs)) m ≡ Ok a) (c.means k o)
          (along (seen p (round p n)) (seen q (solution q qs)) ans (p.means k) a
          (λ u m b su.
          let known : seen p (solution p ps) u ≡ Some b = (from-round p ps cp n).at u b su in (
            elim (c.uses k o u m) [ inl v ↦ forth p q ps qs ans out cp cq c n u v b su | inr e ↦ sym e ∙ known ],
            c.answered u b known,
          ))
          (ok_of-some _ a here)))
      | false ↦ λ e. none-same p q (round p (suc n)) (solution q qs) k a c.nothing (c.has k o) e h
    ]) refl

back : {K A : Type 0} (p q : Rules K A) (ps qs : List K) (ans : K → A) (out : K → Type 0) → IsListing p ps → IsListing q qs → AgreesOutside p q ps qs ans out →
    (n : ℕ) (k : K) → out k → (a : A) → seen q (round q n) k ≡ Some a → seen p (solution p ps) k ≡ Some a
back p q ps qs ans out cp cq c zero k o a h =
    (elim (q.has k) as (λ v. q.has k ≡ v → seen p (solution p ps) k ≡ Some a) [
      | true ↦ λ e. let no : None ≡ Some a = rw e at h in cc
      | false ↦ λ e. none-same q p (round q zero) (solution p ps) k a (sym c.nothing) (sym (c.has k o)) e h
    ]) refl
back p q ps qs ans out cp cq c (suc n) k o a h =
    (elim (q.has k) as (λ v. q.has k ≡ v → seen p (solution p ps) k ≡ Some a) [
      | true ↦ λ e.
          let here : ok_of (run (seen q (round q n)) (q.means k)) ≡ Some a = rw e at h in
          solution-takes p ps cp k a
          (along (seen q (round q n)) (seen p (solution p ps)) ans (p.means k) a
          (λ u m b su.
          let t : seen p (solution p ps) u ≡ Some b =
          elim (c.uses k o u m) [ inl v ↦ back p q ps qs ans out cp cq c n u v b su | inr e ↦ e ∙ (from-round q qs cq n).at u b su ] in
          (t, c.answered u b t))
          (subst (λ m. run (seen q (round q n)) m ≡ Ok a) (sym (c.means k o)) (ok_of-some _ a here)))
      | false ↦ λ e. none-same q p (round q (suc n)) (solution p ps) k a (sym c.nothing) (sym (c.has k o)) e h
    ]) refl

same-option : {A : Type 0} (o p : Option A) → ((a : A) → o ≡ Some a → p ≡ Some a) → ((a : A) → p ≡ Some a → o ≡ Some a) → o ≡ p
same-option None None f g = refl
same-option None (Some b) f g = g b refl
same-option (Some a) p f g = sym (f a refl)

-- each key outside the set has equal answers in both
pub covered : {K A : Type 0} (p q : Rules K A) (ps qs : List K) (ans : K → A) (out : K → Type 0) → IsListing p ps → IsListing q qs → AgreesOutside p q ps qs ans out →
    (k : K) → out k → seen p (solution p ps) k ≡ seen q (solution q qs) k
covered p q ps qs ans out cp cq c k o =
    same-option (seen p (solution p ps) k) (seen q (solution q qs) k) (forth p q ps qs ans out cp cq c (length ps + 1) k o) (back p q ps qs ans out cp cq c (length qs + 1) k o)
