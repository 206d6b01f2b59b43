-- What holds in each state that a run reaches.
use Rattle.std.proofs.Common.{◌≡◌, ◌≢◌, ◌⊎◌, ◌↔◌, Bool, true, false, not, ◌&&◌, ◌||◌, List, [], ◌∷◌, Option, Some, None, is_some, IsSome, IsNone, zero, refl, ap, sym, ◌∙◌, subst, inl, inr}
use Rattle.waves.specs.Builds.{Among, IsDecided, IsPlan, Reading, uses_in, print_in, HaveSamePrints, Change, IsFile, IsRemoved, HasMoved, IsDue}
use Rattle.waves.specs.Machine.{Idle, Pending, Running, Done, State, Event, Take, Finish, woken, any_of, opening_graph, IsOpening, IsTake, IsFinish, IsStep, Leads}
use Rattle.waves.proofs.Stages.{is_idle, woken-done, done-woken, woken-idle, woken-asked, or-false, or-true, and-true, any-true, none-newly, opening-uses, opening-file}
use Rattle.waves.proofs.Rounds.{due-closed, due-file}

-- What is so in each state that a run reaches.
pub record IsReached {F N K V : Type 0} (c : Change F N K V) (s : State F N K) : Type 0 where
  pub built : (f : F) → s.stage f ≡ Done → s.graph f ≡ c.now f
  pub unbuilt : (f : F) → s.stage f ≢ Done → s.graph f ≡ opening_graph c f
  pub moved : (k : K) → s.changed k ≡ true → (g : F) × (IsRemoved c g ⊎ (s.stage g ≡ Done)) × HasMoved c g k
  pub changed : (k : K) (g : F) → IsRemoved c g ⊎ (s.stage g ≡ Done) → HasMoved c g k → s.changed k ≡ true
  pub due : (f : F) → s.stage f ≢ Idle → IsDue c f
  pub idle : (f : F) → s.stage f ≡ Idle → (c.first f ≡ false) × (any_of s.changed (uses_in c.reading (s.graph f)) ≡ false)

some-print : {N K V : Type 0} (r : Reading N K V) (o p : Option N) (k : K) → IsNone p → IsSome (print_in r o k) → print_in r o k ≢ print_in r p k
some-print r o (Some n) k none some = λ e. cc
some-print {N} {K} {V} r o None k none some = λ e. (let bad : is_some (print_in r o k) ≡ false = ap is_some e in cc)

print-some : {N K V : Type 0} (r : Reading N K V) (o p : Option N) (k : K) → IsNone p → print_in r o k ≢ print_in r p k → IsSome (print_in r o k)
print-some r o (Some n) k none differ = cc
print-some {N} {K} {V} r o None k none differ = (elim (print_in r o k) as (λ v. v ≢ None → is_some v ≡ true) [ None ↦ λ d. absurd (d refl) | Some v ↦ λ d. refl ]) differ

-- a key that is used by a file of the project and has changed makes the file due
wakes : {F N K V : Type 0} (c : Change F N K V) (f : F) (changed : K → Bool) → ((k : K) → changed k ≡ true → (g : F) × (IsRemoved c g ⊎ IsDue c g) × HasMoved c g k) →
    (k : K) → Among (uses_in c.reading (opening_graph c f)) k → changed k ≡ true → IsDue c f
wakes {F} {N} {K} c f changed from k used h =
    let why : (g : F) × (IsRemoved c g ⊎ IsDue c g) × HasMoved c g k = from k h in
    let here : IsFile c f × Among (uses_in c.reading (c.before f)) k = opening-uses c f k used in
    due-closed c f (record { is_file = here.0; key = k; origin = why.0; changed = why.1; moved = why.2; used = here.1 })

pub opening-reached : {F N K V : Type 0} (c : Change F N K V) (s : State F N K) → IsOpening c s → IsReached c s
opening-reached {F} {N} {K} {V} c s o =
    let from : (k : K) → s.changed k ≡ true → (g : F) × IsRemoved c g × HasMoved c g k =
    λ k h. (let why : (g : F) × IsRemoved c g × IsSome (print_in c.reading (c.before g) k) = (o.changed k).0 h in (why.0, why.1, some-print c.reading (c.before why.0) (c.now why.0) k why.1.1 why.2)) in
    record {
      built = λ f e. absurd (let none : Idle ≡ Done = woken-done _ Idle (sym (o.stage f) ∙ e) in cc);
      unbuilt = λ f e. o.graph f;
      moved = λ k h. (let why : (g : F) × IsRemoved c g × HasMoved c g k = from k h in (why.0, inl why.1, why.2));
      changed = λ k g why m. elim why [
        | inl r ↦ (o.changed k).1 (g, r, print-some c.reading (c.before g) (c.now g) k r.1 m)
        | inr e ↦ absurd (let none : Idle ≡ Done = woken-done _ Idle (sym (o.stage g) ∙ e) in cc)
      ];
      due = λ f asked. elim (woken-asked (c.first f || any_of s.changed (uses_in c.reading (s.graph f))) Idle (λ e. asked (o.stage f ∙ e))) [
        | inl no_idle ↦ absurd (no_idle refl)
        | inr b ↦ elim (or-true (c.first f) _ b) [
          | inl e ↦ (zero, e)
          | inr e ↦
              let key : (k : K) × Among (uses_in c.reading (s.graph f)) k × (s.changed k ≡ true) = any-true s.changed _ e in
              wakes c f s.changed (λ k h. (let why : (g : F) × IsRemoved c g × HasMoved c g k = from k h in (why.0, inl why.1, why.2)))
              key.0 (subst (λ n. Among (uses_in c.reading n) key.0) (o.graph f) key.1) key.2
        ]
      ];
      idle = λ f e. or-false (c.first f) _ (woken-idle (c.first f || any_of s.changed (uses_in c.reading (s.graph f))) Idle (sym (o.stage f) ∙ e)).1;
    }

pub take-reached : {F N K V : Type 0} (c : Change F N K V) → IsDecided F → (i : F) (s t : State F N K) → IsReached c s → IsTake i s t → IsReached c t
take-reached {F} {N} {K} {V} c decide i s t r step =
    let before : (f : F) → t.stage f ≡ Done → s.stage f ≡ Done =
    λ f e. elim (decide f i) [ inl same ↦ absurd (let bad : Running ≡ Done = sym (ap t.stage same ∙ step.running) ∙ e in cc) | inr other ↦ sym (step.others f other) ∙ e ] in
    let after : (f : F) → s.stage f ≡ Done → t.stage f ≡ Done =
    λ f e. elim (decide f i) [ inl same ↦ absurd (let bad : Pending ≡ Done = sym (ap s.stage same ∙ step.pending) ∙ e in cc) | inr other ↦ step.others f other ∙ e ] in
    record {
      built = λ f e. step.graph f ∙ r.built f (before f e);
      unbuilt = λ f e. step.graph f ∙ r.unbuilt f (λ d. e (after f d));
      moved = λ k h. (let why : (g : F) × (IsRemoved c g ⊎ (s.stage g ≡ Done)) × HasMoved c g k = r.moved k (sym (step.changed k) ∙ h) in
          (why.0, elim why.1 [ inl g ↦ inl g | inr d ↦ inr (after why.0 d) ], why.2));
      changed = λ k g why m. step.changed k ∙ r.changed k g (elim why [ inl x ↦ inl x | inr d ↦ inr (before g d) ]) m;
      due = λ f asked. elim (decide f i) [
        | inl same ↦ r.due f (λ e. (let bad : Pending ≡ Idle = sym (ap s.stage same ∙ step.pending) ∙ e in cc))
        | inr other ↦ r.due f (λ e. asked (step.others f other ∙ e))
      ];
      idle = λ f e. elim (decide f i) [
        | inl same ↦ absurd (let bad : Running ≡ Idle = sym (ap t.stage same ∙ step.running) ∙ e in cc)
        | inr other ↦
            let was : (c.first f ≡ false) × (any_of s.changed (uses_in c.reading (s.graph f)) ≡ false) = r.idle f (sym (step.others f other) ∙ e) in
            (was.0, any-same s.changed t.changed step.changed (uses_in c.reading (t.graph f)) ∙ subst (λ n. any_of s.changed (uses_in c.reading n) ≡ false) (sym (step.graph f)) was.1)
      ];
    }
  where
    any-same : {K : Type 0} (a b : K → Bool) → ((k : K) → b k ≡ a k) → (ks : List K) → any_of b ks ≡ any_of a ks
    any-same a b e [] = refl
    any-same a b e (k ∷ ks) = rw (e k) (ap (λ x. a k || x) (any-same a b e ks))

pub asked-file : {F N K V : Type 0} (c : Change F N K V) → IsPlan c → (s : State F N K) → IsReached c s → (f : F) → s.stage f ≢ Idle → IsFile c f
asked-file c p s r f asked = due-file c p (r.due f asked).0 f (r.due f asked).1

-- Finishing a file changes what moved in it.
pub finish-moved : {F N K V : Type 0} (c : Change F N K V) → IsPlan c → IsDecided F → (i : F) (s t : State F N K) → IsReached c s → IsFinish c.reading i (c.now i) s t →
    (k : K) → (HasMoved c i k) ↔ (HaveSamePrints c.reading s.graph t.graph k → ⊥)
finish-moved {F} {N} {K} {V} c p decide i s t r step k =
    let file : IsFile c i = asked-file c p s r i (λ e. (let bad : Running ≡ Idle = sym step.running ∙ e in cc)) in
    let old : s.graph i ≡ c.before i = r.unbuilt i (λ e. (let bad : Running ≡ Done = sym step.running ∙ e in cc)) ∙ opening-file c i file in (
      λ moved same. moved (ap (λ n. print_in c.reading n k) (sym old) ∙ same.at i ∙ ap (λ n. print_in c.reading n k) step.graph),
      λ differ same. differ (record {
        at = λ f. elim (decide f i) [
          | inl e ↦ ap (λ g. print_in c.reading (s.graph g) k) e ∙ ap (λ n. print_in c.reading n k) old ∙ same ∙ ap (λ n. print_in c.reading n k) (sym step.graph) ∙ ap (λ g. print_in c.reading (t.graph g) k) (sym e)
          | inr other ↦ ap (λ n. print_in c.reading n k) (sym (step.kept f other))
        ];
      }),
    )

pub finish-reached : {F N K V : Type 0} (c : Change F N K V) → IsPlan c → IsDecided F → (i : F) (s t : State F N K) → IsReached c s → IsFinish c.reading i (c.now i) s t → IsReached c t
finish-reached {F} {N} {K} {V} c p decide i s t r step =
    let ran : s.stage i ≢ Idle = λ e. (let bad : Running ≡ Idle = sym step.running ∙ e in cc) in
    let before : (f : F) → f ≢ i → t.stage f ≡ Done → s.stage f ≡ Done = λ f other e. woken-done _ (s.stage f) (sym (step.others f other) ∙ e) in
    let after : (f : F) → s.stage f ≡ Done → t.stage f ≡ Done = λ f e. elim (decide f i) [
      | inl same ↦ ap t.stage same ∙ step.done
      | inr other ↦ step.others f other ∙ ap (woken _) e ∙ done-woken _
    ] in
    let moved : (k : K) → t.changed k ≡ true → (g : F) × (IsRemoved c g ⊎ (t.stage g ≡ Done)) × HasMoved c g k =
    λ k h. elim ((step.changed k).0 h) [
      | inl old ↦ (let why : (g : F) × (IsRemoved c g ⊎ (s.stage g ≡ Done)) × HasMoved c g k = r.moved k old in
          (why.0, elim why.1 [ inl x ↦ inl x | inr d ↦ inr (after why.0 d) ], why.2))
      | inr differ ↦ (i, inr step.done, (finish-moved c p decide i s t r step k).1 differ)
    ] in
    let asked : (f : F) → t.stage f ≡ Done → IsDue c f =
    λ f e. elim (decide f i) [
      | inl same ↦ r.due f (λ d. ran (sym (ap s.stage same) ∙ d))
      | inr other ↦ r.due f (λ d. (let bad : Done ≡ Idle = sym (before f other e) ∙ d in cc))
    ] in
    record {
      built = λ f e. elim (decide f i) [
        | inl same ↦ ap t.graph same ∙ step.graph ∙ ap c.now (sym same)
        | inr other ↦ step.kept f other ∙ r.built f (before f other e)
      ];
      unbuilt = λ f e. elim (decide f i) [
        | inl same ↦ absurd (e (ap t.stage same ∙ step.done))
        | inr other ↦ step.kept f other ∙ r.unbuilt f (λ d. e (after f d))
      ];
      moved = moved;
      changed = λ k g why m. (step.changed k).1 (elim (decide g i) [
        | inl same ↦ inr ((finish-moved c p decide i s t r step k).0 (subst (λ x. HasMoved c x k) same m))
        | inr other ↦ inl (r.changed k g (elim why [ inl x ↦ inl x | inr d ↦ inr (before g other d) ]) m)
      ]);
      due = λ f busy. elim (decide f i) [
        | inl same ↦ r.due f (λ d. ran (sym (ap s.stage same) ∙ d))
        | inr other ↦ elim (is_idle (s.stage f)) [
          | inr was ↦ r.due f was
          | inl idle ↦ elim (woken-asked (any_of (λ k. t.changed k && not (s.changed k)) (uses_in c.reading (t.graph f))) (s.stage f) (λ e. busy (step.others f other ∙ e))) [
            | inl was ↦ r.due f was
            | inr b ↦
                let key : (k : K) × Among (uses_in c.reading (t.graph f)) k × (t.changed k && not (s.changed k) ≡ true) = any-true (λ k. t.changed k && not (s.changed k)) _ b in
                let graph : t.graph f ≡ opening_graph c f = step.kept f other ∙ r.unbuilt f (λ d. (let bad : Idle ≡ Done = sym idle ∙ d in cc)) in
                wakes c f t.changed (λ k h. (let why : (g : F) × (IsRemoved c g ⊎ (t.stage g ≡ Done)) × HasMoved c g k = moved k h in
                (why.0, elim why.1 [ inl x ↦ inl x | inr d ↦ inr (asked why.0 d) ], why.2)))
                key.0 (subst (λ n. Among (uses_in c.reading n) key.0) graph key.1) (and-true (t.changed key.0) _ key.2).0
          ]
        ]
      ];
      idle = λ f e. elim (decide f i) [
        | inl same ↦ absurd (let bad : Done ≡ Idle = sym (ap t.stage same ∙ step.done) ∙ e in cc)
        | inr other ↦
            let both : (s.stage f ≡ Idle) × (any_of (λ k. t.changed k && not (s.changed k)) (uses_in c.reading (t.graph f)) ≡ false) = woken-idle _ (s.stage f) (sym (step.others f other) ∙ e) in
            let was : (c.first f ≡ false) × (any_of s.changed (uses_in c.reading (s.graph f)) ≡ false) = r.idle f both.0 in
            (was.0, none-newly s.changed t.changed (uses_in c.reading (t.graph f)) (subst (λ n. any_of s.changed (uses_in c.reading n) ≡ false) (sym (step.kept f other)) was.1) both.1)
      ];
    }

pub step-reached : {F N K V : Type 0} (c : Change F N K V) → IsPlan c → IsDecided F → (e : Event F) (s t : State F N K) → IsReached c s → IsStep c e s t → IsReached c t
step-reached c p decide (Take i) s t r step = take-reached c decide i s t r step
step-reached c p decide (Finish i) s t r step = finish-reached c p decide i s t r step

pub leads-reached : {F N K V : Type 0} (c : Change F N K V) → IsPlan c → IsDecided F → (es : List (Event F)) (s t : State F N K) → IsReached c s → Leads c s es t → IsReached c t
leads-reached c p decide [] s t r same = subst (IsReached c) same r
leads-reached c p decide (e ∷ es) s t r l = leads-reached c p decide es l.0 t (step-reached c p decide e s l.0 r l.1) l.2
