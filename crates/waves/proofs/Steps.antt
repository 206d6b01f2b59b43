-- The arcs that a run looks at.
use Rattle.std.proofs.Common.{◌≡◌, ◌⊎◌, ◌↔◌, ◌+◌, ◌≤◌, Bool, true, false, not, ◌&&◌, List, [], ◌∷◌, Option, Some, None, is_some, refl, ap, sym, ◌∙◌, inl, inr, arith, option_map}
use Rattle.waves.specs.Builds.{IsDecided, IsPlan, Reading, Graph, uses_in, print_in, Change}
use Rattle.waves.specs.Machine.{State, Event, Take, Finish, opening_graph, IsOpening, IsStep, IsRun, one_if, count, arcs_at, newly_changed, arcs_left}
use Rattle.waves.proofs.Stages.{is_done}
use Rattle.waves.proofs.Runs.{IsReached, opening-reached, step-reached}
use Rattle.waves.proofs.Order.{run-reached}

one-newly : (a b : Bool) → (a ≡ true → b ≡ true) → one_if (b && not a) + one_if (not b) ≡ one_if (not a)
one-newly true true h = refl
one-newly true false h = (let bad : false ≡ true = h refl in cc)
one-newly false true h = refl
one-newly false false h = refl

one-less : (a b : Bool) → (a ≡ true → b ≡ true) → one_if (not b) ≤ one_if (not a)
one-less true true h = omega arith
one-less true false h = (let bad : false ≡ true = h refl in cc)
one-less false true h = omega arith
one-less false false h = omega arith

count-newly : {K : Type 0} (a b : K → Bool) (ks : List K) → ((k : K) → a k ≡ true → b k ≡ true) → count (λ k. b k && not (a k)) ks + count (λ k. not (b k)) ks ≡ count (λ k. not (a k)) ks
count-newly a b [] h = refl
count-newly {K} a b (k ∷ ks) h =
    let rest : count (λ k. b k && not (a k)) ks + count (λ k. not (b k)) ks ≡ count (λ k. not (a k)) ks = count-newly a b ks h in
    let here : one_if (b k && not (a k)) + one_if (not (b k)) ≡ one_if (not (a k)) = one-newly (a k) (b k) (h k) in
    omega arith

count-less : {K : Type 0} (a b : K → Bool) (ks : List K) → ((k : K) → a k ≡ true → b k ≡ true) → count (λ k. not (b k)) ks ≤ count (λ k. not (a k)) ks
count-less a b [] h = omega arith
count-less {K} a b (k ∷ ks) h =
    let rest : count (λ k. not (b k)) ks ≤ count (λ k. not (a k)) ks = count-less a b ks h in
    let here : one_if (not (b k)) ≤ one_if (not (a k)) = one-less (a k) (b k) (h k) in
    omega arith

-- of one file: what the new keys have in one of the two graphs goes off what is left of both
file-newly : {N K V : Type 0} (r : Reading N K V) (a b : K → Bool) (now before after : Option N) → ((k : K) → a k ≡ true → b k ≡ true) → (now ≡ before) ⊎ (now ≡ after) ⊎ (now ≡ None) →
    count (λ k. b k && not (a k)) (uses_in r now) + (count (λ k. not (b k)) (uses_in r before) + count (λ k. not (b k)) (uses_in r after))
    ≤ count (λ k. not (a k)) (uses_in r before) + count (λ k. not (a k)) (uses_in r after)
file-newly {N} {K} {V} r a b now before after h at =
    let old : count (λ k. not (b k)) (uses_in r before) ≤ count (λ k. not (a k)) (uses_in r before) = count-less a b (uses_in r before) h in
    let new : count (λ k. not (b k)) (uses_in r after) ≤ count (λ k. not (a k)) (uses_in r after) = count-less a b (uses_in r after) h in
    elim at [
      | inl e ↦
          let same : count (λ k. b k && not (a k)) (uses_in r before) + count (λ k. not (b k)) (uses_in r before) ≡ count (λ k. not (a k)) (uses_in r before) = count-newly a b (uses_in r before) h in
          rw e (omega arith)
      | inr e ↦ elim e [
        | inl e ↦
            let same : count (λ k. b k && not (a k)) (uses_in r after) + count (λ k. not (b k)) (uses_in r after) ≡ count (λ k. not (a k)) (uses_in r after) = count-newly a b (uses_in r after) h in
            rw e (omega arith)
        | inr e ↦ rw e (omega arith)
      ]
    ]

arcs-newly : {F N K V : Type 0} (r : Reading N K V) (a b : K → Bool) (now before after : Graph F N) (fs : List F) → ((k : K) → a k ≡ true → b k ≡ true) →
    ((f : F) → (now f ≡ before f) ⊎ (now f ≡ after f) ⊎ (now f ≡ None)) →
    arcs_at r fs (λ k. b k && not (a k)) now + (arcs_at r fs (λ k. not (b k)) before + arcs_at r fs (λ k. not (b k)) after)
    ≤ arcs_at r fs (λ k. not (a k)) before + arcs_at r fs (λ k. not (a k)) after
arcs-newly r a b now before after [] h at = omega arith
arcs-newly {F} {N} {K} {V} r a b now before after (f ∷ fs) h at =
    let rest : arcs_at r fs (λ k. b k && not (a k)) now + (arcs_at r fs (λ k. not (b k)) before + arcs_at r fs (λ k. not (b k)) after)
    ≤ arcs_at r fs (λ k. not (a k)) before + arcs_at r fs (λ k. not (a k)) after = arcs-newly r a b now before after fs h at in
    let here : count (λ k. b k && not (a k)) (uses_in r (now f)) + (count (λ k. not (b k)) (uses_in r (before f)) + count (λ k. not (b k)) (uses_in r (after f)))
    ≤ count (λ k. not (a k)) (uses_in r (before f)) + count (λ k. not (a k)) (uses_in r (after f)) = file-newly r a b (now f) (before f) (after f) h (at f) in
    omega arith

opening-at : {F N K V : Type 0} (c : Change F N K V) (f : F) → (opening_graph c f ≡ c.before f) ⊎ (opening_graph c f ≡ c.now f) ⊎ (opening_graph c f ≡ None)
opening-at c f = (elim (is_some (c.now f)) as (λ b. is_some (c.now f) ≡ b → (opening_graph c f ≡ c.before f) ⊎ (opening_graph c f ≡ c.now f) ⊎ (opening_graph c f ≡ None)) [
  | true ↦ λ e. inl (rw e refl)
  | false ↦ λ e. inr (inr (rw e refl))
]) refl

reached-at : {F N K V : Type 0} (c : Change F N K V) (s : State F N K) → IsReached c s → (f : F) → (s.graph f ≡ c.before f) ⊎ (s.graph f ≡ c.now f) ⊎ (s.graph f ≡ None)
reached-at {F} {N} {K} {V} c s r f = elim (is_done (s.stage f)) [
  | inl e ↦ inr (inl (r.built f e))
  | inr e ↦ elim (opening-at c f) [ inl x ↦ inl (r.unbuilt f e ∙ x) | inr x ↦ elim x [ inl y ↦ inr (inl (r.unbuilt f e ∙ y)) | inr y ↦ inr (inr (r.unbuilt f e ∙ y)) ] ]
]

still-changed : {F N K V : Type 0} (c : Change F N K V) (e : Event F) (s t : State F N K) → IsStep c e s t → (k : K) → s.changed k ≡ true → t.changed k ≡ true
still-changed c (Take i) s t step k h = step.changed k ∙ h
still-changed c (Finish i) s t step k h = (step.changed k).1 (inl h)

arcs-same : {F N K V : Type 0} (r : Reading N K V) (a b : K → Bool) (g : Graph F N) (fs : List F) → ((k : K) → a k ≡ b k) → arcs_at r fs a g ≡ arcs_at r fs b g
arcs-same r a b g [] h = refl
arcs-same {F} {N} {K} {V} r a b g (f ∷ fs) h = let here : count a (uses_in r (g f)) ≡ count b (uses_in r (g f)) = counts (uses_in r (g f)) in let rest : arcs_at r fs a g ≡ arcs_at r fs b g = arcs-same r a b g fs h in cc
  where
    counts : (ks : List K) → count a ks ≡ count b ks
    counts [] = refl
    counts (k ∷ ks) = rw (h k) (ap (λ n. one_if (b k) + n) (counts ks))

and-true' : (b : Bool) → b ≡ b && not false
and-true' true = refl
and-true' false = refl

pub few : {F N K V : Type 0} (c : Change F N K V) → IsPlan c → IsDecided F → (files : List F) →
    ((s : State F N K) → IsOpening c s → arcs_at c.reading files s.changed s.graph + arcs_left c files s ≤ arcs_at c.reading files (λ k. true) c.before + arcs_at c.reading files (λ k. true) c.now)
    × ((es : List (Event F)) (s t : State F N K) → IsRun c es s → (e : Event F) → IsStep c e s t → arcs_at c.reading files (newly_changed s t) t.graph + arcs_left c files t ≤ arcs_left c files s)
few {F} {N} {K} {V} c p decide files = (
  λ s o.
      rw (arcs-same c.reading s.changed (λ k. s.changed k && not false) s.graph files (λ k. and-true' (s.changed k)))
      (arcs-newly c.reading (λ k. false) s.changed s.graph c.before c.now files (λ k h. (let bad : false ≡ true = h in cc)) (reached-at c s (opening-reached c s o))),
  λ es s t run e step.
      arcs-newly c.reading s.changed t.changed t.graph c.before c.now files (still-changed c e s t step)
      (reached-at c t (step-reached c p decide e s t (run-reached c p decide es s run) step)),
)

pub digests : {F N K V : Type 0} (r d : Reading N K V) (digest : V → V) → ((n : Option N) (k : K) → print_in d n k ≡ option_map digest (print_in r n k)) → (g h : Graph F N) →
    ((f : F) (k : K) (v w : V) → print_in r (g f) k ≡ Some v → print_in r (h f) k ≡ Some w → digest v ≡ digest w → v ≡ w) →
    (f : F) (k : K) → (print_in r (g f) k ≡ print_in r (h f) k) ↔ (print_in d (g f) k ≡ print_in d (h f) k)
digests {F} {N} {K} {V} r d digest told g h apart f k = (
  λ e. told (g f) k ∙ ap (option_map digest) e ∙ sym (told (h f) k),
  λ e. at (print_in r (g f) k) (print_in r (h f) k) refl refl (sym (told (g f) k) ∙ e ∙ told (h f) k),
)
  where
    at : (o p : Option V) → print_in r (g f) k ≡ o → print_in r (h f) k ≡ p → option_map digest o ≡ option_map digest p → print_in r (g f) k ≡ print_in r (h f) k
    at None None eo ep e = eo ∙ sym ep
    at None (Some w) eo ep e = cc
    at (Some v) None eo ep e = cc
    at (Some v) (Some w) eo ep e = eo ∙ ap Some (apart f k v w eo ep (let same : digest v ≡ digest w = cc in same)) ∙ sym ep
