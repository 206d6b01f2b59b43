-- No run is stuck, and none is long.
use Rattle.std.proofs.Common.{◌≡◌, ◌≢◌, ◌⊎◌, ℕ, zero, suc, ◌+◌, ◌*◌, ◌<◌, ◌≤◌, Bool, true, false, not, ◌&&◌, ◌||◌, List, [], ◌∷◌, ◌++◌, length, Option, Some, None, is_some, refl, ap, sym, ◌∙◌, subst, inl, inr, arith}
use Rattle.waves.specs.Builds.{Among, IsDecided, IsPlan, Reading, Graph, uses_in, print_in, Lists, Change}
use Rattle.waves.specs.Machine.{Stage, Idle, Pending, Running, Done, State, Event, Take, Finish, woken, any_of, opening_graph, IsOpening, IsTake, IsFinish, IsStep, Leads, IsRun, IsComplete}
use Rattle.waves.proofs.Stages.{or-true, and-true, any-true, any-false}
use Rattle.waves.proofs.Runs.{IsReached, opening-reached, asked-file, step-reached}
use Rattle.waves.proofs.Order.{run-reached}

abbrev pick : {X : Type 0} {x y : X} {A : Type 0} → (x ≡ y) ⊎ (x ≢ y) → A → A → A
pick (inl e) a b = a
pick (inr e) a b = b

pick-same : {X A : Type 0} (x y : X) (d : (x ≡ y) ⊎ (x ≢ y)) (a b : A) → x ≡ y → pick d a b ≡ a
pick-same x y (inl e) a b same = refl
pick-same x y (inr e) a b same = absurd (e same)

pick-other : {X A : Type 0} (x y : X) (d : (x ≡ y) ⊎ (x ≢ y)) (a b : A) → x ≢ y → pick d a b ≡ b
pick-other x y (inl e) a b other = absurd (other e)
pick-other x y (inr e) a b other = refl

pub takes-on : {F N K : Type 0} → IsDecided F → (i : F) (s : State F N K) → s.stage i ≡ Pending → (t : State F N K) × IsTake i s t
takes-on decide i s h = (
  record { graph = s.graph; changed = s.changed; stage = λ f. pick (decide f i) Running (s.stage f) },
  record {
    pending = h;
    running = pick-same i i (decide i i) Running _ refl;
    others = λ f other. pick-other f i (decide f i) Running (s.stage f) other;
    graph = λ f. refl;
    changed = λ k. refl;
  },
)

abbrev differ : {V : Type 0} → IsDecided V → Option V → Option V → Bool
differ decide None None = false
differ decide None (Some w) = true
differ decide (Some v) None = true
differ decide (Some v) (Some w) = pick (decide v w) false true

differ-true : {V : Type 0} (decide : IsDecided V) (o p : Option V) → differ decide o p ≡ true → o ≢ p
differ-true decide None None h = cc
differ-true decide None (Some w) h = λ e. cc
differ-true decide (Some v) None h = λ e. cc
differ-true decide (Some v) (Some w) h = λ e. (let same : v ≡ w = cc in let no_differ : false ≡ true = sym (pick-same v w (decide v w) false true same) ∙ h in cc)

differ-false : {V : Type 0} (decide : IsDecided V) (o p : Option V) → differ decide o p ≡ false → o ≡ p
differ-false decide None None h = refl
differ-false decide None (Some w) h = cc
differ-false decide (Some v) None h = cc
differ-false decide (Some v) (Some w) h = elim (decide v w) [
  | inl e ↦ ap Some e
  | inr other ↦ absurd (let bad : true ≡ false = sym (pick-other v w (decide v w) false true other) ∙ h in cc)
]

or-left : (a b : Bool) → a ≡ true → a || b ≡ true
or-left true b h = refl
or-left false b h = cc

or-right : (a b : Bool) → b ≡ true → a || b ≡ true
or-right true b h = refl
or-right false b h = h

pub finishes-on : {F N K V : Type 0} (r : Reading N K V) → IsDecided F → IsDecided V → (i : F) (nodes : Option N) (s : State F N K) → s.stage i ≡ Running → (t : State F N K) × IsFinish r i nodes s t
finishes-on {F} {N} {K} {V} r decide decide_print i nodes s h =
    let graph : Graph F N = λ f. pick (decide f i) nodes (s.graph f) in
    let changed : K → Bool = λ k. s.changed k || differ decide_print (print_in r (s.graph i) k) (print_in r nodes k) in
    let here : graph i ≡ nodes = pick-same i i (decide i i) nodes (s.graph i) refl in (
      record { graph = graph; changed = changed; stage = λ f. pick (decide f i) Done (woken (any_of (λ k. changed k && not (s.changed k)) (uses_in r (graph f))) (s.stage f)) },
      record {
        running = h;
        done = pick-same i i (decide i i) Done _ refl;
        graph = here;
        kept = λ f other. pick-other f i (decide f i) nodes (s.graph f) other;
        changed = λ k. (
          λ c. elim (or-true (s.changed k) _ c) [
            | inl e ↦ inl e
            | inr d ↦ inr (λ same. differ-true decide_print _ _ d (same.at i ∙ ap (λ n. print_in r n k) here))
          ],
          λ why. elim why [
            | inl e ↦ or-left (s.changed k) _ e
            | inr no_same ↦ or-right (s.changed k) _ ((elim (differ decide_print (print_in r (s.graph i) k) (print_in r nodes k)) as (λ b. differ decide_print (print_in r (s.graph i) k) (print_in r nodes k) ≡ b → b ≡ true) [
              | true ↦ λ e. refl
              | false ↦ λ e. absurd (no_same (record {
                at = λ f. elim (decide f i) [
                  | inl same ↦ ap (λ g. print_in r (s.graph g) k) same ∙ differ-false decide_print _ _ e ∙ ap (λ n. print_in r n k) (sym here) ∙ ap (λ g. print_in r (graph g) k) (sym same)
                  | inr other ↦ ap (λ n. print_in r n k) (sym (pick-other f i (decide f i) nodes (s.graph f) other))
                ];
              }))
            ]) refl)
          ],
        );
        others = λ f other. pick-other f i (decide f i) Done _ other;
      },
    )

-- how many events are left for a file, at most
abbrev pub weight : Stage → ℕ
weight Idle = 2
weight Pending = 2
weight Running = 1
weight Done = 0

abbrev pub work : {F N K : Type 0} → State F N K → List F → ℕ
work s [] = 0
work s (f ∷ fs) = weight (s.stage f) + work s fs

work-grows : {F N K : Type 0} (s t : State F N K) (fs : List F) → ((f : F) → weight (t.stage f) ≤ weight (s.stage f)) → work t fs ≤ work s fs
work-grows s t [] b = omega arith
work-grows s t (f ∷ fs) b =
    let rest : work t fs ≤ work s fs = work-grows s t fs b in
    let here : weight (t.stage f) ≤ weight (s.stage f) = b f in
    omega arith

work-less : {F N K : Type 0} (s t : State F N K) (fs : List F) (i : F) → ((f : F) → weight (t.stage f) ≤ weight (s.stage f)) → Among fs i → weight (t.stage i) < weight (s.stage i) → work t fs < work s fs
work-less s t [] i b m less = absurd m
work-less s t (f ∷ fs) i b m less =
    let rest : work t fs ≤ work s fs = work-grows s t fs b in
    let here : weight (t.stage f) ≤ weight (s.stage f) = b f in
    elim m [
      | inl e ↦ (let now : weight (t.stage f) < weight (s.stage f) = subst (λ g. weight (t.stage g) < weight (s.stage g)) (sym e) less in omega arith)
      | inr m ↦ (let later : work t fs < work s fs = work-less s t fs i b m less in omega arith)
    ]

work-most : {F N K : Type 0} (s : State F N K) (fs : List F) → work s fs ≤ 2 * length fs
work-most s [] = omega arith
work-most s (f ∷ fs) =
    let rest : work s fs ≤ 2 * length fs = work-most s fs in
    let here : weight (s.stage f) ≤ 2 = at (s.stage f) in
    omega arith
  where
    at : (x : Stage) → weight x ≤ 2
    at Idle = omega arith
    at Pending = omega arith
    at Running = omega arith
    at Done = omega arith

woken-weight : (b : Bool) (s : Stage) → weight (woken b s) ≤ weight s
woken-weight true Idle = omega arith
woken-weight true Pending = omega arith
woken-weight true Running = omega arith
woken-weight true Done = omega arith
woken-weight false s = omega arith

-- every event leaves less to be done
pub step-less : {F N K V : Type 0} (c : Change F N K V) → IsPlan c → IsDecided F → (files : List F) → Lists files c.now → (e : Event F) (s t : State F N K) → IsReached c s → IsStep c e s t → work t files < work s files
step-less c p decide files lists (Take i) s t r step =
    work-less s t files i
    (λ f. elim (decide f i) [
      | inl same ↦ subst (λ g. weight (t.stage g) ≤ weight (s.stage g)) (sym same) (rw (step.pending, step.running) (omega arith))
      | inr other ↦ rw (step.others f other) (omega arith)
    ])
    (lists.at i (asked-file c p s r i (λ e. (let bad : Pending ≡ Idle = sym step.pending ∙ e in cc))))
    (rw (step.pending, step.running) (omega arith))
step-less c p decide files lists (Finish i) s t r step =
    work-less s t files i
    (λ f. elim (decide f i) [
      | inl same ↦ subst (λ g. weight (t.stage g) ≤ weight (s.stage g)) (sym same) (rw (step.running, step.done) (omega arith))
      | inr other ↦ rw (step.others f other) (woken-weight _ (s.stage f))
    ])
    (lists.at i (asked-file c p s r i (λ e. (let bad : Running ≡ Idle = sym step.running ∙ e in cc))))
    (rw (step.running, step.done) (omega arith))

pub leads-length : {F N K V : Type 0} (c : Change F N K V) → IsPlan c → IsDecided F → (files : List F) → Lists files c.now → (es : List (Event F)) (s t : State F N K) → IsReached c s → Leads c s es t → length es ≤ work s files
leads-length c p decide files lists [] s t r l = omega arith
leads-length c p decide files lists (e ∷ es) s t r l =
    let rest : length es ≤ work l.0 files = leads-length c p decide files lists es l.0 t (step-reached c p decide e s l.0 r l.1) l.2 in
    let less : work l.0 files < work s files = step-less c p decide files lists e s l.0 r l.1 in
    omega arith

-- a file that can be taken or finished, if there is one
find-next : {F N K : Type 0} (s : State F N K) (fs : List F) → ((i : F) × (s.stage i ≡ Pending)) ⊎ ((i : F) × (s.stage i ≡ Running)) ⊎ ((f : F) → Among fs f → (s.stage f ≢ Pending) × (s.stage f ≢ Running))
find-next s [] = inr (inr (λ f m. absurd m))
find-next {F} {N} {K} s (x ∷ xs) = elim (find-next s xs) [
  | inl found ↦ inl found
  | inr other ↦ elim other [
    | inl found ↦ inr (inl found)
    | inr none ↦ (elim (s.stage x) as (λ y. s.stage x ≡ y → ((i : F) × (s.stage i ≡ Pending)) ⊎ ((i : F) × (s.stage i ≡ Running)) ⊎ ((f : F) → Among (x ∷ xs) f → (s.stage f ≢ Pending) × (s.stage f ≢ Running))) [
      | Pending ↦ λ e. inl (x, e)
      | Running ↦ λ e. inr (inl (x, e))
      | Idle ↦ λ e. inr (inr (λ f m. elim m [ inl same ↦ (λ h. (let bad : Idle ≡ Pending = sym (ap s.stage (sym same) ∙ e) ∙ h in cc), λ h. (let bad : Idle ≡ Running = sym (ap s.stage (sym same) ∙ e) ∙ h in cc)) | inr m ↦ none f m ]))
      | Done ↦ λ e. inr (inr (λ f m. elim m [ inl same ↦ (λ h. (let bad : Done ≡ Pending = sym (ap s.stage (sym same) ∙ e) ∙ h in cc), λ h. (let bad : Done ≡ Running = sym (ap s.stage (sym same) ∙ e) ∙ h in cc)) | inr m ↦ none f m ]))
    ]) refl
  ]
]

rests : {F N K V : Type 0} (c : Change F N K V) → IsPlan c → (files : List F) → Lists files c.now → (s : State F N K) → IsReached c s →
    ((f : F) → Among files f → (s.stage f ≢ Pending) × (s.stage f ≢ Running)) → IsComplete s
rests c p files lists s r none = record {
  none_pending = λ f h. (none f (lists.at f (asked-file c p s r f (λ e. (let bad : Pending ≡ Idle = sym h ∙ e in cc))))).0 h;
  none_running = λ f h. (none f (lists.at f (asked-file c p s r f (λ e. (let bad : Running ≡ Idle = sym h ∙ e in cc))))).1 h;
}

pub completes : {F N K V : Type 0} (c : Change F N K V) → IsPlan c → IsDecided F → IsDecided V → (files : List F) → Lists files c.now → (n : ℕ) (s : State F N K) → IsReached c s → work s files ≤ n →
    (es : List (Event F)) × (t : State F N K) × Leads c s es t × IsComplete t
completes {F} {N} {K} {V} c p decide decide_print files lists zero s r small = elim (find-next s files) [
  | inl found ↦
      let next : (t : State F N K) × IsTake found.0 s t = takes-on decide found.0 s found.1 in
      let less : work next.0 files < work s files = step-less c p decide files lists (Take found.0) s next.0 r next.1 in
      absurd (omega arith)
  | inr other ↦ elim other [
    | inl found ↦
        let next : (t : State F N K) × IsFinish c.reading found.0 (c.now found.0) s t = finishes-on c.reading decide decide_print found.0 (c.now found.0) s found.1 in
        let less : work next.0 files < work s files = step-less c p decide files lists (Finish found.0) s next.0 r next.1 in
        absurd (omega arith)
    | inr none ↦ ([], s, refl, rests c p files lists s r none)
  ]
]
completes {F} {N} {K} {V} c p decide decide_print files lists (suc n) s r small = elim (find-next s files) [
  | inl found ↦
      let next : (t : State F N K) × IsTake found.0 s t = takes-on decide found.0 s found.1 in
      let less : work next.0 files < work s files = step-less c p decide files lists (Take found.0) s next.0 r next.1 in
      let rest : (es : List (Event F)) × (t : State F N K) × Leads c next.0 es t × IsComplete t =
      completes c p decide decide_print files lists n next.0 (step-reached c p decide (Take found.0) s next.0 r next.1) (omega arith) in
      (Take found.0 ∷ rest.0, rest.1, (next.0, next.1, rest.2), rest.3)
  | inr other ↦ elim other [
    | inl found ↦
        let next : (t : State F N K) × IsFinish c.reading found.0 (c.now found.0) s t = finishes-on c.reading decide decide_print found.0 (c.now found.0) s found.1 in
        let less : work next.0 files < work s files = step-less c p decide files lists (Finish found.0) s next.0 r next.1 in
        let rest : (es : List (Event F)) × (t : State F N K) × Leads c next.0 es t × IsComplete t =
        completes c p decide decide_print files lists n next.0 (step-reached c p decide (Finish found.0) s next.0 r next.1) (omega arith) in
        (Finish found.0 ∷ rest.0, rest.1, (next.0, next.1, rest.2), rest.3)
    | inr none ↦ ([], s, refl, rests c p files lists s r none)
  ]
]

pub leads-append : {F N K V : Type 0} (c : Change F N K V) (es fs : List (Event F)) (s m t : State F N K) → Leads c s es m → Leads c m fs t → Leads c s (es ++ fs) t
leads-append c [] fs s m t l k = subst (λ x. Leads c x fs t) (sym l) k
leads-append c (e ∷ es) fs s m t l k = (l.0, l.1, leads-append c es fs l.0 m t l.2 k)

pub runs-end : {F N K V : Type 0} (c : Change F N K V) → IsPlan c → IsDecided F → IsDecided V → (files : List F) → Lists files c.now →
    (es : List (Event F)) (t : State F N K) → IsRun c es t →
    ((more : List (Event F)) × (u : State F N K) × Leads c t more u × IsRun c (es ++ more) u × IsComplete u) × (length es ≤ 2 * length files)
runs-end {F} {N} {K} {V} c p decide decide_print files lists es t run =
    let r : IsReached c t = run-reached c p decide es t run in
    let rest : (more : List (Event F)) × (u : State F N K) × Leads c t more u × IsComplete u = completes c p decide decide_print files lists (work t files) t r (omega arith) in
    let few : length es ≤ work run.opening files = leads-length c p decide files lists es run.opening t (opening-reached c run.opening run.opens) run.leads in
    let most : work run.opening files ≤ 2 * length files = work-most run.opening files in (
      (rest.0, rest.1, rest.2, record { opening = run.opening; opens = run.opens; leads = leads-append c es rest.0 run.opening t rest.1 run.leads rest.2 }, rest.3),
      omega arith,
    )

-- the key is one that the file had before it was removed
abbrev gone-with : {F N K V : Type 0} → Change F N K V → K → F → Bool
gone-with c k g = is_some (c.before g) && (not (is_some (c.now g)) && is_some (print_in c.reading (c.before g) k))

and-true-both : (a b : Bool) → a ≡ true → b ≡ true → a && b ≡ true
and-true-both true b e h = h
and-true-both false b e h = cc

not-true : (a : Bool) → not a ≡ true → a ≡ false
not-true true h = cc
not-true false h = refl

true-not : (a : Bool) → a ≡ false → not a ≡ true
true-not true h = cc
true-not false h = refl

pub runs-begin : {F N K V : Type 0} (c : Change F N K V) (files : List F) → Lists files c.before → (s : State F N K) × IsOpening c s
runs-begin {F} {N} {K} {V} c files lists =
    let changed : K → Bool = λ k. any_of (gone-with c k) files in (
      record { graph = opening_graph c; changed = changed; stage = λ f. woken (c.first f || any_of changed (uses_in c.reading (opening_graph c f))) Idle },
      record {
        graph = λ f. refl;
        stage = λ f. refl;
        changed = λ k. (
          λ h.
              let found : (g : F) × Among files g × (gone-with c k g ≡ true) = any-true (gone-with c k) files h in
              let parts : (is_some (c.before found.0) ≡ true) × (not (is_some (c.now found.0)) && is_some (print_in c.reading (c.before found.0) k) ≡ true) = and-true (is_some (c.before found.0)) _ found.2 in
              let more : (not (is_some (c.now found.0)) ≡ true) × (is_some (print_in c.reading (c.before found.0) k) ≡ true) = and-true (not (is_some (c.now found.0))) _ parts.1 in
              (found.0, (parts.0, not-true _ more.0), more.1),
          λ why.
              let has : gone-with c k why.0 ≡ true = and-true-both (is_some (c.before why.0)) _ why.1.0 (and-true-both (not (is_some (c.now why.0))) _ (true-not _ why.1.1) why.2) in
              (elim (any_of (gone-with c k) files) as (λ b. any_of (gone-with c k) files ≡ b → b ≡ true) [
                | true ↦ λ e. refl
                | false ↦ λ e. absurd (let hasnt : gone-with c k why.0 ≡ false = any-false (gone-with c k) files e why.0 (lists.at why.0 why.1.0) in let bad : true ≡ false = sym has ∙ hasnt in cc)
              ]) refl,
        );
      },
    )
