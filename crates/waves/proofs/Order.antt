-- A complete run takes and finishes each file that is due, once.
use Rattle.std.proofs.Common.{◌≡◌, ◌≢◌, ◌⊎◌, ◌↔◌, true, false, List, [], ◌∷◌, refl, ap, sym, ◌∙◌, subst, inl, inr}
use Rattle.waves.specs.Builds.{Among, IsOnce, IsDecided, IsPlan, uses_in, Change, IsDue}
use Rattle.waves.specs.Machine.{Stage, Idle, Pending, Running, Done, State, Event, Take, Finish, woken, IsOpening, IsTake, IsFinish, IsStep, Leads, IsRun, IsComplete, taken_in, finished_in}
use Rattle.waves.proofs.Stages.{woken-done, done-woken, woken-running, running-woken, any-false, opening-file}
use Rattle.waves.proofs.Rounds.{due-least}
use Rattle.waves.proofs.Runs.{IsReached, opening-reached, leads-reached}

abbrev pub IsTaken : {F N K : Type 0} → State F N K → F → Type 0
IsTaken s f = (s.stage f ≡ Running) ⊎ (s.stage f ≡ Done)

stays-taken : {F N K V : Type 0} (c : Change F N K V) → IsDecided F → (e : Event F) (s t : State F N K) → IsStep c e s t → (f : F) → IsTaken s f → IsTaken t f
stays-taken c decide (Take i) s t step f h = elim (decide f i) [
  | inl same ↦ inl (ap t.stage same ∙ step.running)
  | inr other ↦ elim h [ inl e ↦ inl (step.others f other ∙ e) | inr e ↦ inr (step.others f other ∙ e) ]
]
stays-taken c decide (Finish i) s t step f h = elim (decide f i) [
  | inl same ↦ inr (ap t.stage same ∙ step.done)
  | inr other ↦ elim h [
    | inl e ↦ inl (step.others f other ∙ ap (woken _) e ∙ running-woken _)
    | inr e ↦ inr (step.others f other ∙ ap (woken _) e ∙ done-woken _)
  ]
]

-- what these events take was not taken before, is taken afterwards, and is all that is new
pub record Takes {F N K : Type 0} (s t : State F N K) (files : List F) : Type 0 where
  pub fresh : (f : F) → Among files f → IsTaken s f → ⊥
  pub taken : (f : F) → Among files f → IsTaken t f
  pub all : (f : F) → IsTaken t f → IsTaken s f ⊎ Among files f
  pub once : IsOnce files

pub leads-takes : {F N K V : Type 0} (c : Change F N K V) → IsDecided F → (es : List (Event F)) (s t : State F N K) → Leads c s es t →
    ((f : F) → IsTaken s f → IsTaken t f) × Takes s t (taken_in es)
leads-takes c decide [] s t same = (λ f h. subst (λ x. IsTaken x f) same h, record { fresh = λ f m. absurd m; taken = λ f m. absurd m; all = λ f h. inl (subst (λ x. IsTaken x f) (sym same) h); once = tt })
leads-takes {F} {N} {K} c decide (Take i ∷ es) s t l =
    let m : State F N K = l.0 in
    let step : IsTake i s m = l.1 in
    let rest : ((f : F) → IsTaken m f → IsTaken t f) × Takes m t (taken_in es) = leads-takes c decide es m t l.2 in
    let not_before : IsTaken s i → ⊥ = λ h. elim h [ inl e ↦ (let bad : Pending ≡ Running = sym step.pending ∙ e in cc) | inr e ↦ (let bad : Pending ≡ Done = sym step.pending ∙ e in cc) ] in
    let stays : (f : F) → IsTaken s f → IsTaken m f = stays-taken c decide (Take i) s m step in (
      λ f h. rest.0 f (stays f h),
      record {
        fresh = λ f among h. elim among [ inl e ↦ not_before (subst (IsTaken s) (sym e) h) | inr more ↦ rest.1.fresh f more (stays f h) ];
        taken = λ f among. elim among [ inl e ↦ rest.0 f (inl (ap m.stage (sym e) ∙ step.running)) | inr more ↦ rest.1.taken f more ];
        all = λ f h. elim (rest.1.all f h) [
          | inr more ↦ inr (inr more)
          | inl here ↦ elim (decide f i) [
            | inl same ↦ inr (inl (sym same))
            | inr other ↦ inl (elim here [ inl e ↦ inl (sym (step.others f other) ∙ e) | inr e ↦ inr (sym (step.others f other) ∙ e) ])
          ]
        ];
        once = (λ among. rest.1.fresh i among (inl step.running), rest.1.once);
      },
    )
leads-takes {F} {N} {K} {V} c decide (Finish i ∷ es) s t l =
    let m : State F N K = l.0 in
    let step : IsFinish c.reading i (c.now i) s m = l.1 in
    let rest : ((f : F) → IsTaken m f → IsTaken t f) × Takes m t (taken_in es) = leads-takes c decide es m t l.2 in
    let stays : (f : F) → IsTaken s f → IsTaken m f = stays-taken c decide (Finish i) s m step in (
      λ f h. rest.0 f (stays f h),
      record {
        fresh = λ f among h. rest.1.fresh f among (stays f h);
        taken = rest.1.taken;
        all = λ f h. elim (rest.1.all f h) [
          | inr more ↦ inr more
          | inl here ↦ inl (elim (decide f i) [
            | inl same ↦ inl (ap s.stage same ∙ step.running)
            | inr other ↦ elim here [ inl e ↦ inl (woken-running _ (s.stage f) (sym (step.others f other) ∙ e)) | inr e ↦ inr (woken-done _ (s.stage f) (sym (step.others f other) ∙ e)) ]
          ])
        ];
        once = rest.1.once;
      },
    )

stays-done : {F N K V : Type 0} (c : Change F N K V) → IsDecided F → (e : Event F) (s t : State F N K) → IsStep c e s t → (f : F) → s.stage f ≡ Done → t.stage f ≡ Done
stays-done c decide (Take i) s t step f h = elim (decide f i) [
  | inl same ↦ absurd (let bad : Pending ≡ Done = sym (ap s.stage same ∙ step.pending) ∙ h in cc)
  | inr other ↦ step.others f other ∙ h
]
stays-done c decide (Finish i) s t step f h = elim (decide f i) [
  | inl same ↦ ap t.stage same ∙ step.done
  | inr other ↦ step.others f other ∙ ap (woken _) h ∙ done-woken _
]

-- what these events finish was not done before, is done afterwards, and is all that is new
pub record Finishes {F N K : Type 0} (s t : State F N K) (files : List F) : Type 0 where
  pub fresh : (f : F) → Among files f → s.stage f ≢ Done
  pub done : (f : F) → Among files f → t.stage f ≡ Done
  pub all : (f : F) → t.stage f ≡ Done → (s.stage f ≡ Done) ⊎ Among files f
  pub once : IsOnce files

pub leads-finishes : {F N K V : Type 0} (c : Change F N K V) → IsDecided F → (es : List (Event F)) (s t : State F N K) → Leads c s es t →
    ((f : F) → s.stage f ≡ Done → t.stage f ≡ Done) × Finishes s t (finished_in es)
leads-finishes c decide [] s t same = (λ f h. subst (λ x. x.stage f ≡ Done) same h, record { fresh = λ f m. absurd m; done = λ f m. absurd m; all = λ f h. inl (subst (λ x. x.stage f ≡ Done) (sym same) h); once = tt })
leads-finishes {F} {N} {K} c decide (Take i ∷ es) s t l =
    let m : State F N K = l.0 in
    let step : IsTake i s m = l.1 in
    let rest : ((f : F) → m.stage f ≡ Done → t.stage f ≡ Done) × Finishes m t (finished_in es) = leads-finishes c decide es m t l.2 in
    let stays : (f : F) → s.stage f ≡ Done → m.stage f ≡ Done = stays-done c decide (Take i) s m step in (
      λ f h. rest.0 f (stays f h),
      record {
        fresh = λ f among h. rest.1.fresh f among (stays f h);
        done = rest.1.done;
        all = λ f h. elim (rest.1.all f h) [
          | inr more ↦ inr more
          | inl here ↦ elim (decide f i) [
            | inl same ↦ absurd (let bad : Running ≡ Done = sym (ap m.stage same ∙ step.running) ∙ here in cc)
            | inr other ↦ inl (sym (step.others f other) ∙ here)
          ]
        ];
        once = rest.1.once;
      },
    )
leads-finishes {F} {N} {K} {V} c decide (Finish i ∷ es) s t l =
    let m : State F N K = l.0 in
    let step : IsFinish c.reading i (c.now i) s m = l.1 in
    let rest : ((f : F) → m.stage f ≡ Done → t.stage f ≡ Done) × Finishes m t (finished_in es) = leads-finishes c decide es m t l.2 in
    let stays : (f : F) → s.stage f ≡ Done → m.stage f ≡ Done = stays-done c decide (Finish i) s m step in (
      λ f h. rest.0 f (stays f h),
      record {
        fresh = λ f among h. elim among [
          | inl e ↦ (let bad : Running ≡ Done = sym (ap s.stage (sym e) ∙ step.running) ∙ h in cc)
          | inr more ↦ rest.1.fresh f more (stays f h)
        ];
        done = λ f among. elim among [ inl e ↦ rest.0 f (ap m.stage (sym e) ∙ step.done) | inr more ↦ rest.1.done f more ];
        all = λ f h. elim (rest.1.all f h) [
          | inr more ↦ inr (inr more)
          | inl here ↦ elim (decide f i) [ inl same ↦ inr (inl (sym same)) | inr other ↦ inl (woken-done _ (s.stage f) (sym (step.others f other) ∙ here)) ]
        ];
        once = (λ among. rest.1.fresh i among step.done, rest.1.once);
      },
    )

-- in a complete state the done files are those that are due
pub complete-done : {F N K V : Type 0} (c : Change F N K V) → IsPlan c → (t : State F N K) → IsReached c t → IsComplete t → (f : F) → (t.stage f ≡ Done) ↔ IsDue c f
complete-done {F} {N} {K} {V} c p t r complete f =
    let asked : (f : F) → t.stage f ≢ Idle → t.stage f ≡ Done = λ f. at (t.stage f) (complete.none_pending f) (complete.none_running f) in (
      λ e. r.due f (λ d. (let bad : Done ≡ Idle = sym e ∙ d in cc)),
      λ due. due-least c (λ f. t.stage f ≡ Done)
          (λ f first. asked f (λ e. (let no_first : true ≡ false = sym first ∙ (r.idle f e).0 in cc)))
          (λ f u. asked f (λ e.
          let has : t.changed u.key ≡ true = r.changed u.key u.origin u.changed u.moved in
          let graph : t.graph f ≡ c.before f = r.unbuilt f (λ d. (let bad : Idle ≡ Done = sym e ∙ d in cc)) ∙ opening-file c f u.is_file in
          let hasnt : t.changed u.key ≡ false = any-false t.changed _ (r.idle f e).1 u.key (subst (λ n. Among (uses_in c.reading n) u.key) (sym graph) u.used) in
          (let bad : true ≡ false = sym has ∙ hasnt in cc)))
          due.0 f due.1,
    )
  where
    at : (s : Stage) → s ≢ Pending → s ≢ Running → s ≢ Idle → s ≡ Done
    at Idle p r i = absurd (i refl)
    at Pending p r i = absurd (p refl)
    at Running p r i = absurd (r refl)
    at Done p r i = refl

opening-untaken : {F N K V : Type 0} (c : Change F N K V) (s : State F N K) → IsOpening c s → (f : F) → IsTaken s f → ⊥
opening-untaken c s o f h = elim h [
  | inl e ↦ (let bad : Idle ≡ Running = woken-running _ Idle (sym (o.stage f) ∙ e) in cc)
  | inr e ↦ (let bad : Idle ≡ Done = woken-done _ Idle (sym (o.stage f) ∙ e) in cc)
]

pub run-reached : {F N K V : Type 0} (c : Change F N K V) → IsPlan c → IsDecided F → (es : List (Event F)) (t : State F N K) → IsRun c es t → IsReached c t
run-reached c p decide es t run = leads-reached c p decide es run.opening t (opening-reached c run.opening run.opens) run.leads

pub order : {F N K V : Type 0} (c : Change F N K V) → IsPlan c → IsDecided F → (es : List (Event F)) (t : State F N K) → IsRun c es t → IsComplete t →
    IsOnce (taken_in es) × IsOnce (finished_in es)
    × ((f : F) → Among (taken_in es) f ↔ IsDue c f) × ((f : F) → Among (finished_in es) f ↔ IsDue c f)
    × ((f : F) → (t.stage f ≡ Done) ↔ IsDue c f)
order {F} {N} {K} {V} c p decide es t run complete =
    let takes : Takes run.opening t (taken_in es) = (leads-takes c decide es run.opening t run.leads).1 in
    let ends : Finishes run.opening t (finished_in es) = (leads-finishes c decide es run.opening t run.leads).1 in
    let due : (f : F) → (t.stage f ≡ Done) ↔ IsDue c f = complete-done c p t (run-reached c p decide es t run) complete in
    let done : (f : F) → IsTaken t f → t.stage f ≡ Done = λ f h. elim h [ inl e ↦ absurd (complete.none_running f e) | inr e ↦ e ] in (
      takes.once,
      ends.once,
      λ f. (λ m. (due f).0 (done f (takes.taken f m)), λ d. elim (takes.all f (inr ((due f).1 d))) [ inl h ↦ absurd (opening-untaken c run.opening run.opens f h) | inr m ↦ m ]),
      λ f. (λ m. (due f).0 (ends.done f m), λ d. elim (ends.all f ((due f).1 d)) [ inl h ↦ absurd (opening-untaken c run.opening run.opens f (inr h)) | inr m ↦ m ]),
      due,
    )
