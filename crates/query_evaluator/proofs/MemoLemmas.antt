-- What follows of a true memo, and how an answer and a mark change what is known.
use Rattle.std.proofs.Common.{◌≡◌, Bool, true, false, cond, List, Option, Some, None, Ok, refl, ap, sym, ◌∙◌, subst, ◌⊎◌, inl, inr, ◌||◌}
use Rattle.std.specs.Prelude.{IsSome, All}
use Rattle.std.specs.Option.{is_some}
use Rattle.std.specs.declared.cmp.Ordering.{Ordering}
use Rattle.std.specs.declared.cmp.Ordering.TheVariants.{Less, Equal, Greater}
use Rattle.std.specs.Ordering.{is_eq}
use Rattle.std.specs.BTreeMap.{BTreeMap, get, is_at}
use Rattle.std.specs.BTreeSet.{BTreeSet, contains}
use Rattle.std.proofs.lemmas.List.Elements.{All-weaker}
use Rattle.std.proofs.lemmas.Map.Lookups.{CmpEqualImpliesEq}
use Rattle.queries.specs.Queries.{run, Rules, seen, solution, IsListing, IsBelow, IsNeverKnown}
use Rattle.queries.proofs.Needed.{needed-waits}
use Rattle.queries.proofs.Solution.{takes, never-known}
use Rattle.query_evaluator.specs.Memos.{kept, known, IsTrueMemo, IsWanted}
use Rattle.query_evaluator.specs.Search.{IsAwaited}

-- keys that compare as equal are one
pub at-equal : {K : Type 0} (cmp : K → K → Ordering) → CmpEqualImpliesEq cmp → (a b : K) → is_at (cmp a) b ≡ true → a ≡ b
at-equal cmp exact a b h = exact a b (elim (cmp a b) as (λ r. is_eq r ≡ true → r ≡ Equal) [ Less ↦ λ h. cc | Equal ↦ λ h. refl | Greater ↦ λ h. cc ] h)

-- the memo takes an answer
pub record Takes {K A : Type 0} (memo memo' : K → Option (Option A)) (key : K) (answer : Option A) : Type 0 where
  pub each : (q : K) → ((key ≡ q) × (memo' q ≡ Some answer)) ⊎ (memo' q ≡ memo q)
  pub here : memo' key ≡ Some answer

-- a key is marked
pub record Marks {K : Type 0} (marks marks' : K → Bool) (key : K) : Type 0 where
  pub each : (q : K) → ((key ≡ q) × (marks' q ≡ true)) ⊎ (marks' q ≡ marks q)
  pub here : marks' key ≡ true

pub takes-updates : {K A : Type 0} (cmp : K → K → Ordering) → CmpEqualImpliesEq cmp → (memo memo' : BTreeMap K (Option A)) (key : K) (answer : Option A) →
    ((q : K) → get cmp memo' q ≡ cond (is_at (cmp key) q) (Some answer) (get cmp memo q)) → get cmp memo' key ≡ Some answer → Takes (get cmp memo) (get cmp memo') key answer
takes-updates cmp exact memo memo' key answer each here = record {
  each = λ q.
      (elim (is_at (cmp key) q) as (λ v. is_at (cmp key) q ≡ v → get cmp memo' q ≡ cond v (Some answer) (get cmp memo q) → ((key ≡ q) × (get cmp memo' q ≡ Some answer)) ⊎ (get cmp memo' q ≡ get cmp memo q))
      [ true ↦ λ e h. inl (at-equal cmp exact key q e, h) | false ↦ λ e h. inr h ]) refl (each q);
  here = here;
}

pub marks-updates : {K : Type 0} (cmp : K → K → Ordering) → CmpEqualImpliesEq cmp → (marks marks' : BTreeSet K) (key : K) →
    ((q : K) → contains cmp marks' q ≡ cond (is_at (cmp key) q) true (contains cmp marks q)) → contains cmp marks' key ≡ true → Marks (contains cmp marks) (contains cmp marks') key
marks-updates cmp exact marks marks' key each here = record {
  each = λ q.
      (elim (is_at (cmp key) q) as (λ v. is_at (cmp key) q ≡ v → contains cmp marks' q ≡ cond v true (contains cmp marks q) → ((key ≡ q) × (contains cmp marks' q ≡ true)) ⊎ (contains cmp marks' q ≡ contains cmp marks q))
      [ true ↦ λ e h. inl (at-equal cmp exact key q e, h) | false ↦ λ e h. inr h ]) refl (each q);
  here = here;
}

pub kept-marks : {K : Type 0} (marks marks' : K → Bool) (key : K) → Marks marks marks' key → (q : K) → marks q ≡ true → marks' q ≡ true
kept-marks marks marks' key t q h = elim (t.each q) [ inl e ↦ e.1 | inr e ↦ e ∙ h ]

-- what a true memo knows is true
pub known-below : {K A : Type 0} (r : Rules K A) (keys : List K) (memo : K → Option (Option A)) → IsTrueMemo r keys memo → IsBelow (seen r (known memo)) (seen r (solution r keys))
known-below r keys memo t = record {
  at = λ k a h.
      (elim (r.has k) as (λ v. r.has k ≡ v → cond v (known memo k) (Some r.nothing) ≡ Some a → seen r (solution r keys) k ≡ Some a) [
        | true ↦ λ e h. (elim (memo k) as (λ o. memo k ≡ o → kept o ≡ Some a → seen r (solution r keys) k ≡ Some a)
            [ None ↦ λ f h. cc | Some o ↦ λ f h. t.at k o f ∙ h ]) refl h
        | false ↦ λ e h. rw e h
      ]) refl h;
}

-- what is read to its end with a true memo is true
pub read-answer : {K A : Type 0} (r : Rules K A) (keys : List K) → IsListing r keys → (memo : K → Option (Option A)) → IsTrueMemo r keys memo → (key : K) (answer : A) →
    run (seen r (known memo)) (r.means key) ≡ Ok answer → seen r (solution r keys) key ≡ Some answer
read-answer r keys listing memo t key answer h = takes r keys listing _ (known-below r keys memo t) key answer h

pub not-seen : {K A : Type 0} (r : Rules K A) (s : K → Option A) (u : K) → seen r s u ≡ None → (r.has u ≡ true) × (s u ≡ None)
not-seen r s u h =
    (elim (r.has u) as (λ v. r.has u ≡ v → cond v (s u) (Some r.nothing) ≡ None → (r.has u ≡ true) × (s u ≡ None))
    [ true ↦ λ e h. (e, h) | false ↦ λ e h. cc ]) refl h

-- a wanted key is awaited, and the memo doesn't know it
pub wanted-awaited : {K A : Type 0} (r : Rules K A) (keys : List K) → IsListing r keys → (memo : K → Option (Option A)) → IsTrueMemo r keys memo → (key u : K) →
    IsWanted (seen r (known memo)) (r.means key) u → IsAwaited r key u
wanted-awaited r keys listing memo t key u w =
    let has : r.has u ≡ true = (not-seen r (known memo) u w.unknown).0 in
    record { has = has; waits = needed-waits r keys listing _ (known-below r keys memo t) key u w.needed has }

pub wanted-all : {K A : Type 0} (r : Rules K A) (keys : List K) → IsListing r keys → (memo : K → Option (Option A)) → IsTrueMemo r keys memo → (key : K) (us : List K) →
    All (IsWanted (seen r (known memo)) (r.means key)) us → All (IsAwaited r key) us
wanted-all r keys listing memo t key us h =
    All-weaker (IsWanted (seen r (known memo)) (r.means key)) (IsAwaited r key) (λ u w. wanted-awaited r keys listing memo t key u w) us h

pub wanted-unknown : {K A : Type 0} (r : Rules K A) (memo : K → Option (Option A)) (key u : K) → IsWanted (seen r (known memo)) (r.means key) u → known memo u ≡ None
wanted-unknown r memo key u w = (not-seen r (known memo) u w.unknown).1

-- an answered key that isn't known has no answer in any round
pub answered-never : {K A : Type 0} (r : Rules K A) (keys : List K) → IsListing r keys → (memo : K → Option (Option A)) → IsTrueMemo r keys memo → (u : K) →
    known memo u ≡ None → IsSome (memo u) → IsNeverKnown r u
answered-never r keys listing memo t u none some =
    (elim (memo u) as (λ o. memo u ≡ o → kept o ≡ None → IsSome o → IsNeverKnown r u) [
      | None ↦ λ e none some. cc
      | Some o ↦ λ e none some. never-known r keys listing u (t.at u o e ∙ none)
    ]) refl none some

-- a true answer leaves the memo true, and all that it kept
pub taken-true : {K A : Type 0} (r : Rules K A) (keys : List K) (memo memo' : K → Option (Option A)) (key : K) (answer : Option A) → Takes memo memo' key answer →
    seen r (solution r keys) key ≡ answer → IsTrueMemo r keys memo → IsTrueMemo r keys memo'
taken-true r keys memo memo' key answer t a true_memo = record {
  at = λ q o h. elim (t.each q) [
    | inl e ↦ (let what : answer ≡ o = (let both : Some answer ≡ Some o = sym e.1 ∙ h in cc) in subst (λ z. seen r (solution r keys) z ≡ o) e.0 (a ∙ what))
    | inr e ↦ true_memo.at q o (sym e ∙ h)
  ];
}

pub taken-kept : {K A : Type 0} (r : Rules K A) (keys : List K) (memo memo' : K → Option (Option A)) (key : K) (answer : Option A) → Takes memo memo' key answer →
    seen r (solution r keys) key ≡ answer → IsTrueMemo r keys memo → IsBelow memo memo'
taken-kept r keys memo memo' key answer t a true_memo = record {
  at = λ q o h. elim (t.each q) [
    | inl e ↦ (let what : answer ≡ o = sym a ∙ ap (λ z. seen r (solution r keys) z) e.0 ∙ true_memo.at q o h in e.1 ∙ ap (λ z. Some z) what)
    | inr e ↦ e ∙ h
  ];
}

pub none-of : {X : Type 0} (o : Option X) → is_some o ≡ false → o ≡ None
none-of None h = refl
none-of (Some x) h = cc

pub or-false : (a b : Bool) → (a || b) ≡ false → (a ≡ false) × (b ≡ false)
or-false true b h = cc
or-false false b h = (refl, h)

pub or-true : (a b : Bool) → (a || b) ≡ true → (a ≡ true) ⊎ (b ≡ true)
or-true true b h = inl refl
or-true false b h = inr h
