-- How the state of a search changes: a request ends with an answer, or another one is put above it.
use Rattle.std.proofs.Common.{◌≡◌, ℕ, ◌+◌, ◌<◌, ◌≤◌, Bool, true, false, cond, List, [], ◌∷◌, ◌++◌, Option, Some, None, length, refl, ap, sym, ◌∙◌, subst, arith, ◌⊎◌, inl, inr, length-append}
use Rattle.std.specs.Prelude.{IsSome}
use Rattle.std.specs.Option.{is_some}
use Rattle.std.proofs.lemmas.List.{map-append}
use Rattle.std.proofs.lemmas.List.Elements.{All-push, All-pop, All-nil}
use Rattle.queries.specs.Queries.{Rules, seen, round, solution, IsListing, Among, IsNeverKnown, WaitsFor}
use Rattle.queries.proofs.Solution.{circle, solution-nothing}
use Rattle.query_evaluator.specs.declared.request.Request.{Request}
use Rattle.query_evaluator.specs.Memos.{known, IsTrueMemo}
use Rattle.query_evaluator.specs.Search.{IsAwaited, IsRequest, WaitsForFirst, IsChain, keys_in, IsMarked, IsState, weight, total, work}
use Rattle.query_evaluator.proofs.MemoLemmas.{Takes, Marks, taken-true, answered-never}

pub among-last : {K : Type 0} (ks : List K) (k : K) → Among (ks ++ k ∷ []) k
among-last [] k = inl refl
among-last (x ∷ ks) k = inr (among-last ks k)

among-front : {K : Type 0} (ks more : List K) (k : K) → Among ks k → Among (ks ++ more) k
among-front [] more k m = absurd m
among-front (x ∷ ks) more k m = elim m [ inl e ↦ inl e | inr m ↦ inr (among-front ks more k m) ]

among-split : {K : Type 0} (ks : List K) (k q : K) → Among (ks ++ k ∷ []) q → Among ks q ⊎ (k ≡ q)
among-split [] k q m = elim m [ inl e ↦ inr e | inr none ↦ absurd none ]
among-split (x ∷ ks) k q m = elim m [ inl e ↦ inl (inl e) | inr m ↦ elim (among-split ks k q m) [ inl f ↦ inl (inr f) | inr e ↦ inr e ] ]

first-front : {K A : Type 0} (r : Rules K A) (x k : K) (ks : List K) → WaitsForFirst r x (ks ++ k ∷ []) → WaitsForFirst r x ks
first-front r x k [] w = tt
first-front r x k (y ∷ ks) w = w

pub popped-chain : {K A : Type 0} (r : Rules K A) (ks : List K) (k : K) → IsChain r (ks ++ k ∷ []) → IsChain r ks
popped-chain r [] k c = tt
popped-chain r (x ∷ ks) k c = (first-front r x k ks c.0, popped-chain r ks k c.1)

first-more : {K A : Type 0} (r : Rules K A) (x k u : K) (ks : List K) → WaitsForFirst r x (ks ++ k ∷ []) → WaitsForFirst r x ((ks ++ k ∷ []) ++ u ∷ [])
first-more r x k u [] w = w
first-more r x k u (y ∷ ks) w = w

pub pushed-chain : {K A : Type 0} (r : Rules K A) (ks : List K) (k u : K) → IsChain r (ks ++ k ∷ []) → WaitsFor r k u → IsChain r ((ks ++ k ∷ []) ++ u ∷ [])
pushed-chain r [] k u c w = (w, (tt, tt))
pushed-chain r (x ∷ ks) k u c w = (first-more r x k u ks c.0, pushed-chain r ks k u c.1 w)

-- each key of a chain waits for another of it, and the last for u
chain-next : {K A : Type 0} (r : Rules K A) (ks : List K) (k u : K) → IsChain r (ks ++ k ∷ []) → WaitsFor r k u → (x : K) → Among (ks ++ k ∷ []) x →
    (y : K) × (Among (ks ++ k ∷ []) y ⊎ (u ≡ y)) × WaitsFor r x y
chain-next r [] k u c w x m = elim m [ inl e ↦ (u, inr refl, subst (λ z. WaitsFor r z u) e w) | inr none ↦ absurd none ]
chain-next {K} {A} r (j ∷ ks) k u c w x m = elim m [
  | inl e ↦ subst (λ z. (y : K) × (Among (j ∷ (ks ++ k ∷ [])) y ⊎ (u ≡ y)) × WaitsFor r z y) e (first-next r j k u ks c.0)
  | inr m ↦ (let next : (y : K) × (Among (ks ++ k ∷ []) y ⊎ (u ≡ y)) × WaitsFor r x y = chain-next r ks k u c.1 w x m in
      (next.0, elim next.1 [ inl a ↦ inl (inr a) | inr e ↦ inr e ], next.2))
] where
  first-next : {K A : Type 0} (r : Rules K A) (j k u : K) (ks : List K) → WaitsForFirst r j (ks ++ k ∷ []) → (y : K) × (Among (j ∷ (ks ++ k ∷ [])) y ⊎ (u ≡ y)) × WaitsFor r j y
  first-next r j k u [] w = (k, inl (inr (inl refl)), w)
  first-next r j k u (y ∷ ks) w = (y, inl (inr (inl refl)), w)

pub keys-last : {K : Type 0} (front : List (Request K)) (request : Request K) → keys_in (front ++ request ∷ []) ≡ keys_in front ++ request.key ∷ []
keys-last front request = map-append (λ request. request.key) front (request ∷ [])

-- the last request, which waits for one in progress or for what is never known, has no answer
pub circular-answer : {K A : Type 0} (r : Rules K A) (keys : List K) → IsListing r keys → (memo : K → Option (Option A)) (marks : K → Bool) (front : List (Request K)) (request : Request K) (u : K) →
    IsState r keys memo marks (front ++ request ∷ []) → IsAwaited r request.key u → known memo u ≡ None → IsSome (memo u) ⊎ (marks u ≡ true) → seen r (solution r keys) request.key ≡ None
circular-answer {K} {A} r keys listing memo marks front request u state awaited none asked =
    let k = request.key in
    let ks = keys_in front in
    let chain : IsChain r (ks ++ k ∷ []) = subst (IsChain r) (keys-last front request) state.chain in
    let next : Among (ks ++ k ∷ []) u ⊎ IsNeverKnown r u =
    elim asked [
      | inl some ↦ inr (answered-never r keys listing memo state.memo_true u none some)
      | inr marked ↦ elim (state.marked.at u marked) [
        | inl some ↦ inr (answered-never r keys listing memo state.memo_true u none some)
        | inr on ↦ inl (subst (λ l. Among l u) (keys-last front request) on)
      ]
    ] in
    let never : (n : ℕ) → round r n k ≡ None = λ n.
    circle r (Among (ks ++ k ∷ [])) (λ x m.
    let other : (y : K) × (Among (ks ++ k ∷ []) y ⊎ (u ≡ y)) × WaitsFor r x y = chain-next r ks k u chain awaited.waits x m in (
      other.0,
      elim other.1 [ inl a ↦ inl a | inr e ↦ subst (λ z. Among (ks ++ k ∷ []) z ⊎ IsNeverKnown r z) e next ],
      other.2,
    ))
    n k (among-last ks k) in
    (elim (r.has k) as (λ v. r.has k ≡ v → cond v (solution r keys k) (Some r.nothing) ≡ None) [
      | true ↦ λ e. never (length keys + 1)
      | false ↦ λ e. (let has_one : solution r keys k ≡ Some r.nothing = solution-nothing r keys listing k e in let none : solution r keys k ≡ None = never (length keys + 1) in cc)
    ]) refl

popped-marked : {K A : Type 0} (memo memo' : K → Option (Option A)) (marks : K → Bool) (ks : List K) (k : K) (answer : Option A) → Takes memo memo' k answer →
    IsMarked memo marks (ks ++ k ∷ []) → IsMarked memo' marks ks
popped-marked memo memo' marks ks k answer t marked = record {
  at = λ q h.
      elim (marked.at q h) [
        | inl some ↦ inl (elim (t.each q) [ inl e ↦ rw e.1 refl | inr e ↦ rw e some ])
        | inr on ↦ elim (among-split ks k q on) [ inl m ↦ inr m | inr e ↦ inl (rw (ap memo' (sym e) ∙ t.here) refl) ]
      ];
}

pushed-marked : {K A : Type 0} (memo : K → Option (Option A)) (marks marks' : K → Bool) (ks : List K) (u : K) → Marks marks marks' u → IsMarked memo marks ks → IsMarked memo marks' (ks ++ u ∷ [])
pushed-marked memo marks marks' ks u t marked = record {
  at = λ q h.
      elim (t.each q) [
        | inl e ↦ inr (subst (λ z. Among (ks ++ u ∷ []) z) e.0 (among-last ks u))
        | inr e ↦ elim (marked.at q (sym e ∙ h)) [ inl some ↦ inl some | inr on ↦ inr (among-front ks (u ∷ []) q on) ]
      ];
}

-- an answer is kept, and its request done
pub answered : {K A : Type 0} (r : Rules K A) (keys : List K) (memo memo' : K → Option (Option A)) (marks : K → Bool) (front : List (Request K)) (request : Request K) (answer : Option A) →
    Takes memo memo' request.key answer → seen r (solution r keys) request.key ≡ answer → IsState r keys memo marks (front ++ request ∷ []) → IsState r keys memo' marks front
answered r keys memo memo' marks front request answer t a s = record {
  memo_true = taken-true r keys memo memo' request.key answer t a s.memo_true;
  chain = popped-chain r (keys_in front) request.key (subst (IsChain r) (keys-last front request) s.chain);
  each = (All-pop (IsRequest r) (front ++ request ∷ []) front (Some request) refl s.each).0;
  marked = popped-marked memo memo' marks (keys_in front) request.key answer t (subst (IsMarked memo marks) (keys-last front request) s.marked);
}

-- a request for a key that the last one waits for is put above it
pub requested : {K A : Type 0} (r : Rules K A) (keys : List K) (memo : K → Option (Option A)) (marks marks' : K → Bool) (front : List (Request K)) (request above : Request K) →
    Marks marks marks' above.key → IsRequest r above → IsAwaited r request.key above.key → IsState r keys memo marks (front ++ request ∷ []) →
    IsState r keys memo marks' ((front ++ request ∷ []) ++ above ∷ [])
requested r keys memo marks marks' front request above t right awaited s = record {
  memo_true = s.memo_true;
  chain = subst (IsChain r) (sym (keys-last (front ++ request ∷ []) above))
      (subst (λ ks. IsChain r (ks ++ above.key ∷ [])) (sym (keys-last front request))
      (pushed-chain r (keys_in front) request.key above.key (subst (IsChain r) (keys-last front request) s.chain) awaited.waits));
  each = All-push (IsRequest r) (front ++ request ∷ []) above s.each right;
  marked = subst (IsMarked memo marks') (sym (keys-last (front ++ request ∷ []) above)) (pushed-marked memo marks marks' (keys_in (front ++ request ∷ [])) above.key t s.marked);
}

-- a request that went on with the same key is as right
pub replaced : {K A : Type 0} (r : Rules K A) (keys : List K) (memo : K → Option (Option A)) (marks : K → Bool) (front : List (Request K)) (request request' : Request K) →
    request'.key ≡ request.key → IsRequest r request' → IsState r keys memo marks (front ++ request ∷ []) → IsState r keys memo marks (front ++ request' ∷ [])
replaced r keys memo marks front request request' same right s =
    let e : keys_in (front ++ request ∷ []) ≡ keys_in (front ++ request' ∷ []) =
    keys-last front request ∙ ap (λ k. keys_in front ++ k ∷ []) (sym same) ∙ sym (keys-last front request') in
    record {
      memo_true = s.memo_true;
      chain = subst (IsChain r) e s.chain;
      each = All-push (IsRequest r) front request' (All-pop (IsRequest r) (front ++ request ∷ []) front (Some request) refl s.each).0 right;
      marked = subst (IsMarked memo marks) e s.marked;
    }

-- the last request is right
pub last-right : {K A : Type 0} (r : Rules K A) (keys : List K) (memo : K → Option (Option A)) (marks : K → Bool) (front : List (Request K)) (request : Request K) →
    IsState r keys memo marks (front ++ request ∷ []) → IsRequest r request
last-right r keys memo marks front request s = (All-pop (IsRequest r) (front ++ request ∷ []) front (Some request) refl s.each).1

-- one request, and nothing marked but it
pub begun : {K A : Type 0} (r : Rules K A) (keys : List K) (memo : K → Option (Option A)) (marks marks' : K → Bool) (request : Request K) → IsTrueMemo r keys memo →
    ((q : K) → marks q ≡ false) → Marks marks marks' request.key → IsRequest r request → IsState r keys memo marks' (request ∷ [])
begun r keys memo marks marks' request t none m right = record {
  memo_true = t;
  chain = (tt, tt);
  each = All-push (IsRequest r) [] request (All-nil (IsRequest r)) right;
  marked = record {
    at = λ q h. elim (m.each q) [ inl e ↦ inr (inl e.0) | inr e ↦ (let no : false ≡ true = sym (none q) ∙ sym e ∙ h in cc) ];
  };
}

total-le : {K : Type 0} (v w : K → ℕ) (ks : List K) → ((k : K) → v k ≤ w k) → total v ks ≤ total w ks
total-le v w [] h = omega arith
total-le v w (k ∷ ks) h = let here : v k ≤ w k = h k in let ih : total v ks ≤ total w ks = total-le v w ks h in omega arith

total-falls : {K : Type 0} (v w : K → ℕ) (ks : List K) (u : K) → ((k : K) → v k ≤ w k) → v u + 2 ≤ w u → Among ks u → total v ks + 2 ≤ total w ks
total-falls v w [] u h f m = absurd m
total-falls v w (k ∷ ks) u h f m =
    let here : v k ≤ w k = h k in let rest : total v ks ≤ total w ks = total-le v w ks h in
    elim m [
      | inl e ↦ (let fall : v k + 2 ≤ w k = rw e f in omega arith)
      | inr m ↦ (let ih : total v ks + 2 ≤ total w ks = total-falls v w ks u h f m in omega arith)
    ]

weight-taken : {K A : Type 0} (memo memo' : K → Option (Option A)) (marks : K → Bool) (q : K) (o : Option A) → memo' q ≡ Some o → weight memo' marks q ≤ weight memo marks q
weight-taken memo memo' marks q o h = rw h (omega arith)

weight-same : {K A : Type 0} (memo memo' : K → Option (Option A)) (marks : K → Bool) (q : K) → memo' q ≡ memo q → weight memo' marks q ≤ weight memo marks q
weight-same memo memo' marks q h = rw h (omega arith)

pub answered-work : {K A : Type 0} (keys : List K) (memo memo' : K → Option (Option A)) (marks : K → Bool) (front : List (Request K)) (request : Request K) (answer : Option A) →
    Takes memo memo' request.key answer → work keys memo' marks front < work keys memo marks (front ++ request ∷ [])
unfolding work
answered-work keys memo memo' marks front request answer t =
    let less : total (weight memo' marks) keys ≤ total (weight memo marks) keys = total-le _ _ keys (λ q.
    elim (t.each q) [ inl e ↦ weight-taken memo memo' marks q answer e.1 | inr e ↦ weight-same memo memo' marks q e ]) in
    simp length-append (omega arith)

mark-taken : (some was : Bool) → cond some 0 (cond true 1 3) ≤ cond some 0 (cond was 1 3)
mark-taken true was = omega arith
mark-taken false true = omega arith
mark-taken false false = omega arith

pub requested-work : {K A : Type 0} (r : Rules K A) (keys : List K) → IsListing r keys → (memo : K → Option (Option A)) (marks marks' : K → Bool) (front : List (Request K)) (request above : Request K) →
    Marks marks marks' above.key → r.has above.key ≡ true → memo above.key ≡ None → marks above.key ≡ false →
    work keys memo marks' ((front ++ request ∷ []) ++ above ∷ []) < work keys memo marks (front ++ request ∷ [])
unfolding work
requested-work r keys listing memo marks marks' front request above t has fresh unmarked =
    let u = above.key in
    let le : (q : _) → weight memo marks' q ≤ weight memo marks q = (λ q.
    elim (t.each q) [ inl e ↦ rw e.1 (mark-taken (is_some (memo q)) (marks q)) | inr e ↦ rw e (omega arith) ]) in
    let new : weight memo marks' u ≡ 1 = rw (fresh, t.here) refl in
    let old : weight memo marks u ≡ 3 = rw (fresh, unmarked) refl in
    let fall : weight memo marks' u + 2 ≤ weight memo marks u = omega arith in
    let falls : total (weight memo marks') keys + 2 ≤ total (weight memo marks) keys = total-falls _ _ keys u le fall (listing.listed u has) in
    simp length-append (omega arith)

-- the work doesn't depend on what the last request wants
pub same-work : {K A : Type 0} (keys : List K) (memo : K → Option (Option A)) (marks : K → Bool) (front : List (Request K)) (request request' : Request K) →
    work keys memo marks (front ++ request' ∷ []) ≡ work keys memo marks (front ++ request ∷ [])
unfolding work
same-work keys memo marks front request request' =
    ap (λ n. total (weight memo marks) keys + n) (length-append front (request' ∷ []) ∙ sym (length-append front (request ∷ [])))
