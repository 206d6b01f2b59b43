-- How far files are, and which are woken.
use Rattle.std.proofs.Common.{◌≡◌, ◌≢◌, ◌⊎◌, Bool, true, false, not, ◌&&◌, ◌||◌, cond, List, [], ◌∷◌, Option, Some, None, is_some, IsNone, refl, subst, inl, inr}
use Rattle.waves.specs.Builds.{Among, uses_in, Change, IsFile}
use Rattle.waves.specs.Machine.{Stage, Idle, Pending, Running, Done, woken, any_of, opening_graph}

pub is_done : (s : Stage) → (s ≡ Done) ⊎ (s ≢ Done)
is_done Idle = inr (λ e. cc)
is_done Pending = inr (λ e. cc)
is_done Running = inr (λ e. cc)
is_done Done = inl refl

pub is_idle : (s : Stage) → (s ≡ Idle) ⊎ (s ≢ Idle)
is_idle Idle = inl refl
is_idle Pending = inr (λ e. cc)
is_idle Running = inr (λ e. cc)
is_idle Done = inr (λ e. cc)

-- a file that is woken is neither taken nor finished by it, and if it becomes idle it was idle, and nothing woke it
pub woken-done : (b : Bool) (s : Stage) → woken b s ≡ Done → s ≡ Done
woken-done true Idle h = cc
woken-done true Pending h = cc
woken-done true Running h = cc
woken-done true Done h = refl
woken-done false s h = h

pub done-woken : (b : Bool) → woken b Done ≡ Done
done-woken true = refl
done-woken false = refl

pub woken-idle : (b : Bool) (s : Stage) → woken b s ≡ Idle → (s ≡ Idle) × (b ≡ false)
woken-idle true Idle h = cc
woken-idle true Pending h = cc
woken-idle true Running h = cc
woken-idle true Done h = cc
woken-idle false s h = (h, refl)

-- a file that isn't idle was not before, or was woken
pub woken-asked : (b : Bool) (s : Stage) → woken b s ≢ Idle → (s ≢ Idle) ⊎ (b ≡ true)
woken-asked true s h = inr refl
woken-asked false s h = inl h

pub or-false : (a b : Bool) → a || b ≡ false → (a ≡ false) × (b ≡ false)
or-false true b h = cc
or-false false b h = (refl, h)

pub or-true : (a b : Bool) → a || b ≡ true → (a ≡ true) ⊎ (b ≡ true)
or-true true b h = inl refl
or-true false b h = inr h

pub and-true : (a b : Bool) → a && b ≡ true → (a ≡ true) × (b ≡ true)
and-true true b h = (refl, h)
and-true false b h = cc

pub any-true : {K : Type 0} (t : K → Bool) (ks : List K) → any_of t ks ≡ true → (k : K) × Among ks k × (t k ≡ true)
any-true t [] h = cc
any-true {K} t (k ∷ ks) h = elim (or-true (t k) (any_of t ks) h) [
  | inl e ↦ (k, inl refl, e)
  | inr e ↦ let rest : (q : K) × Among ks q × (t q ≡ true) = any-true t ks e in (rest.0, inr rest.1, rest.2)
]

pub any-false : {K : Type 0} (t : K → Bool) (ks : List K) → any_of t ks ≡ false → (k : K) → Among ks k → t k ≡ false
any-false t [] h k m = absurd m
any-false t (x ∷ xs) h k m =
    let both : (t x ≡ false) × (any_of t xs ≡ false) = or-false (t x) (any_of t xs) h in
    elim m [ inl e ↦ subst (λ q. t q ≡ false) e both.0 | inr m ↦ any-false t xs both.1 k m ]

none-of : {K : Type 0} (t : K → Bool) (ks : List K) → ((k : K) → Among ks k → t k ≡ false) → any_of t ks ≡ false
none-of t [] h = refl
none-of t (x ∷ xs) h = rw (h x (inl refl)) (none-of t xs (λ k m. h k (inr m)))

newly : (a b : Bool) → a ≡ false → b && not a ≡ false → b ≡ false
newly true b h g = cc
newly false true h g = cc
newly false false h g = refl

-- where no old key is used and no new one, none is used
pub none-newly : {K : Type 0} (old new : K → Bool) (ks : List K) → any_of old ks ≡ false → any_of (λ k. new k && not (old k)) ks ≡ false → any_of new ks ≡ false
none-newly old new ks h g = none-of new ks (λ k m. newly (old k) (new k) (any-false old ks h k m) (any-false (λ k. new k && not (old k)) ks g k m))

-- what is used in the opening graph was used before, by a file of the project
pub opening-uses : {F N K V : Type 0} (c : Change F N K V) (f : F) (k : K) → Among (uses_in c.reading (opening_graph c f)) k → IsFile c f × Among (uses_in c.reading (c.before f)) k
opening-uses {F} {N} {K} c f k m =
    (elim (is_some (c.now f)) as (λ b. is_some (c.now f) ≡ b → Among (uses_in c.reading (cond b (c.before f) None)) k → IsFile c f × Among (uses_in c.reading (c.before f)) k)
    [ true ↦ λ e m. (e, m) | false ↦ λ e m. absurd m ]) refl m

pub opening-file : {F N K V : Type 0} (c : Change F N K V) (f : F) → IsFile c f → opening_graph c f ≡ c.before f
opening-file c f e = rw e refl

pub opening-gone : {F N K V : Type 0} (c : Change F N K V) (f : F) → IsNone (c.now f) → opening_graph c f ≡ None
opening-gone c f e = rw e refl

pub is-none : {N : Type 0} (o : Option N) → IsNone o → o ≡ None
is-none None e = refl
is-none (Some n) e = cc

pub woken-running : (b : Bool) (s : Stage) → woken b s ≡ Running → s ≡ Running
woken-running true Idle h = cc
woken-running true Pending h = cc
woken-running true Running h = refl
woken-running true Done h = cc
woken-running false s h = h

pub running-woken : (b : Bool) → woken b Running ≡ Running
running-woken true = refl
running-woken false = refl
