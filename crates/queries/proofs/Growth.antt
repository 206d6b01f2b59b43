use Rattle.std.proofs.Common.{◌≡◌, ℕ, zero, suc, ◌+◌, ◌≤◌, true, false, cond, List, [], ◌∷◌, Option, Some, None, Result, Ok, Err, length, refl, ap, sym, ◌∙◌, subst, arith, ◌⊎◌, inl, inr}
use Rattle.std.proofs.lemmas.Bool.{cases_order}
use Rattle.queries.specs.Queries.{Task, Done, Fetch, ◌>>=◌, run_on, run, ok_of, Rules, seen, round, IsListing, Among, run_then, IsBelow}

-- a value that a task gives stays when more is known
pub run-grows : {K A X : Type 0} (s t : K → Option A) (q : Task K A X) (x : X) → IsBelow s t → run s q ≡ Ok x → run t q ≡ Ok x
run-grows s t (Done y) x b h = h
run-grows {K} {A} {X} s t (Fetch k g) x b h =
    (elim (s k) as (λ o. s k ≡ o → run_on k o (λ a. run s (g a)) ≡ Ok x → run_on k (t k) (λ a. run t (g a)) ≡ Ok x)
    [ None ↦ λ e h. cc | Some a ↦ λ e h. rw (b.at k a e) (run-grows s t (g a) x b h) ]) refl h

pub seen-grows : {K A : Type 0} (r : Rules K A) (s t : K → Option A) → IsBelow s t → IsBelow (seen r s) (seen r t)
seen-grows r s t b = record {
  at = λ k a h.
      (elim (r.has k) as (λ v. cond v (s k) (Some r.nothing) ≡ Some a → cond v (t k) (Some r.nothing) ≡ Some a)
      [ true ↦ λ h. b.at k a h | false ↦ λ h. h ]) h;
}

pub ok_of-some : {K X : Type 0} (r : Result X K) (x : X) → ok_of r ≡ Some x → r ≡ Ok x
ok_of-some (Ok y) x h = cc
ok_of-some (Err k) x h = cc

-- one round more
pub step-grows : {K A : Type 0} (r : Rules K A) (s t : K → Option A) → IsBelow (seen r s) (seen r t) → (k : K) (a : A) →
    ok_of (run (seen r s) (r.means k)) ≡ Some a → ok_of (run (seen r t) (r.means k)) ≡ Some a
step-grows r s t b k a h = ap ok_of (run-grows (seen r s) (seen r t) (r.means k) a b (ok_of-some _ a h))

pub round-grows : {K A : Type 0} (r : Rules K A) (n : ℕ) → IsBelow (round r n) (round r (suc n))
round-grows r zero = record { at = λ k a h. cc }
round-grows r (suc n) = record { at = step-grows r (round r n) (round r (suc n)) (seen-grows r _ _ (round-grows r n)) }

-- round n already knows what the next one does
abbrev pub Still : {K A : Type 0} → Rules K A → ℕ → Type 0
Still r n = IsBelow (seen r (round r (suc n))) (seen r (round r n))

still-on : {K A : Type 0} (r : Rules K A) (n : ℕ) → Still r n → Still r (suc n)
still-on r n st = seen-grows r _ _ (record { at = step-grows r (round r (suc n)) (round r n) st })

-- how many of the keys are known
abbrev one : {A : Type 0} → Option A → ℕ
one None = 0
one (Some a) = 1

abbrev count : {K A : Type 0} → (K → Option A) → List K → ℕ
count s [] = 0
count s (k ∷ ks) = one (s k) + count s ks

count-small : {K A : Type 0} (s : K → Option A) (ks : List K) → count s ks ≤ length ks
count-small s [] = omega arith
count-small s (k ∷ ks) =
    let ih : count s ks ≤ length ks = count-small s ks in
    (elim (s k) as (λ o. one o + count s ks ≤ length (k ∷ ks)) [ None ↦ omega arith | Some a ↦ omega arith ])

one-grows : {A : Type 0} (o p : Option A) → ((a : A) → o ≡ Some a → p ≡ Some a) → one o ≤ one p
one-grows None p h = omega arith
one-grows (Some a) p h = rw (h a refl) (omega arith)

count-grows : {K A : Type 0} (s t : K → Option A) (ks : List K) → IsBelow s t → count s ks ≤ count t ks
count-grows s t [] b = omega arith
count-grows s t (k ∷ ks) b =
    let ih : count s ks ≤ count t ks = count-grows s t ks b in
    let here : one (s k) ≤ one (t k) = one-grows (s k) (t k) (b.at k) in
    omega arith

one-same : {A : Type 0} (o p : Option A) → ((a : A) → o ≡ Some a → p ≡ Some a) → one p ≤ one o → p ≡ o
one-same None None h le = refl
one-same None (Some b) h le = absurd (omega arith)
one-same (Some a) p h le = h a refl

-- what knows more, and no more keys, is the same
count-same : {K A : Type 0} (s t : K → Option A) (ks : List K) → IsBelow s t → count t ks ≤ count s ks → (k : K) → Among ks k → t k ≡ s k
count-same s t [] b le k m = absurd m
count-same s t (x ∷ ks) b le k m =
    let rest : count s ks ≤ count t ks = count-grows s t ks b in
    let here : one (s x) ≤ one (t x) = one-grows (s x) (t x) (b.at x) in
    let same : one (t x) ≤ one (s x) = omega arith in
    let less : count t ks ≤ count s ks = omega arith in
    elim m [ inl e ↦ subst (λ y. t y ≡ s y) e (one-same (s x) (t x) (b.at x) same) | inr m ↦ count-same s t ks b less k m ]

still-count : {K A : Type 0} (r : Rules K A) (keys : List K) (c : IsListing r keys) (n : ℕ) →
    count (round r (suc n)) keys ≤ count (round r n) keys → Still r n
still-count r keys c n le = record {
  at = λ k a h.
      (elim (r.has k) as (λ v. r.has k ≡ v → cond v (round r (suc n) k) (Some r.nothing) ≡ Some a → cond v (round r n k) (Some r.nothing) ≡ Some a)
      [ true ↦ λ e h. sym (count-same (round r n) (round r (suc n)) keys (round-grows r n) le k (c.listed k e)) ∙ h | false ↦ λ e h. h ]) refl h;
}

-- each round that isn't still has made one more key known
counted : {K A : Type 0} (r : Rules K A) (keys : List K) (c : IsListing r keys) (n : ℕ) → Still r n ⊎ (n ≤ count (round r n) keys)
counted r keys c zero = inr (omega arith)
counted r keys c (suc n) =
    elim (counted r keys c n) [
      | inl st ↦ inl (still-on r n st)
      | inr le ↦ elim (cases_order (count (round r n) keys) (count (round r (suc n)) keys)) [
        | inl e ↦ inl (still-on r n (still-count r keys c n (omega arith)))
        | inr d ↦ elim d [ inl lt ↦ inr (omega arith) | inr gt ↦ inl (still-on r n (still-count r keys c n (omega arith))) ]
      ]
    ]

-- after round N nothing more becomes known
pub stands-still : {K A : Type 0} (r : Rules K A) (keys : List K) → IsListing r keys → Still r (length keys + 1)
stands-still r keys c = elim (counted r keys c (length keys + 1)) [
  | inl st ↦ st
  | inr le ↦ absurd (let small : count (round r (length keys + 1)) keys ≤ length keys = count-small _ keys in omega arith)
]

pub run-bind : {K A X Y : Type 0} (s : K → Option A) (q : Task K A X) (f : X → Task K A Y) → run s (q >>= f) ≡ run_then (run s q) (λ x. run s (f x))
run-bind s (Done x) f = refl
run-bind {K} {A} {X} {Y} s (Fetch k g) f =
    elim (s k) as (λ o. run_on k o (λ a. run s (g a >>= f)) ≡ run_then (run_on k o (λ a. run s (g a))) (λ x. run s (f x))) [ None ↦ refl | Some a ↦ run-bind s (g a) f ]

-- a task stops at a key that isn't known
pub stops-unknown : {K A X : Type 0} (s : K → Option A) (q : Task K A X) (u : K) → run s q ≡ Err u → s u ≡ None
stops-unknown s (Done x) u h = cc
stops-unknown {K} {A} {X} s (Fetch k g) u h =
    (elim (s k) as (λ o. s k ≡ o → run_on k o (λ a. run s (g a)) ≡ Err u → s u ≡ None)
    [ None ↦ λ e h. (let same : k ≡ u = cc in subst (λ v. s v ≡ None) same e) | Some a ↦ λ e h. stops-unknown s (g a) u h ]) refl h
