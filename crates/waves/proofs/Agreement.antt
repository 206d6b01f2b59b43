-- All complete runs end in one state.
use Rattle.std.proofs.Common.{◌≡◌, ◌≢◌, ◌⊎◌, Bool, true, false, List, [], ◌∷◌, ◌++◌, refl, sym, ◌∙◌, inl, inr}
use Rattle.waves.specs.Builds.{IsDecided, IsPlan, Change, IsRemoved, HasMoved}
use Rattle.waves.specs.Machine.{Stage, Idle, Pending, Running, Done, State, Event, IsStep, IsRun, IsComplete}
use Rattle.waves.proofs.Stages.{is_done}
use Rattle.waves.proofs.Runs.{IsReached}
use Rattle.waves.proofs.Order.{run-reached, complete-done}
use Rattle.waves.proofs.Progress.{leads-append}

pub run-more : {F N K V : Type 0} (c : Change F N K V) (es : List (Event F)) (s t : State F N K) (e : Event F) → IsRun c es s → IsStep c e s t → IsRun c (es ++ e ∷ []) t
run-more c es s t e run step = record { opening = run.opening; opens = run.opens; leads = leads-append c es (e ∷ []) run.opening s t run.leads (t, step, refl) }

rests : (s : Stage) → s ≢ Pending → s ≢ Running → s ≢ Done → s ≡ Idle
rests Idle p r d = refl
rests Pending p r d = absurd (p refl)
rests Running p r d = absurd (r refl)
rests Done p r d = absurd (d refl)

same-test : (a b : Bool) → (a ≡ true → b ≡ true) → (b ≡ true → a ≡ true) → a ≡ b
same-test true b f g = sym (f refl)
same-test false true f g = g refl
same-test false false f g = refl

pub agree : {F N K V : Type 0} (c : Change F N K V) → IsPlan c → IsDecided F → (es fs : List (Event F)) (t u : State F N K) → IsRun c es t → IsComplete t → IsRun c fs u → IsComplete u →
    ((f : F) → t.graph f ≡ u.graph f) × ((f : F) → t.stage f ≡ u.stage f) × ((k : K) → t.changed k ≡ u.changed k)
agree {F} {N} {K} {V} c p decide es fs t u run ended other ended_too =
    let r : IsReached c t = run-reached c p decide es t run in
    let q : IsReached c u = run-reached c p decide fs u other in
    let there : (f : F) → t.stage f ≡ Done → u.stage f ≡ Done = λ f e. (complete-done c p u q ended_too f).1 ((complete-done c p t r ended f).0 e) in
    let back : (f : F) → u.stage f ≡ Done → t.stage f ≡ Done = λ f e. (complete-done c p t r ended f).1 ((complete-done c p u q ended_too f).0 e) in (
      λ f. elim (is_done (t.stage f)) [
        | inl e ↦ r.built f e ∙ sym (q.built f (there f e))
        | inr e ↦ r.unbuilt f e ∙ sym (q.unbuilt f (λ d. e (back f d)))
      ],
      λ f. elim (is_done (t.stage f)) [
        | inl e ↦ e ∙ sym (there f e)
        | inr e ↦ rests (t.stage f) (ended.none_pending f) (ended.none_running f) e ∙ sym (rests (u.stage f) (ended_too.none_pending f) (ended_too.none_running f) (λ d. e (back f d)))
      ],
      λ k. same-test (t.changed k) (u.changed k)
          (λ h. (let why : (g : F) × (IsRemoved c g ⊎ (t.stage g ≡ Done)) × HasMoved c g k = r.moved k h in q.changed k why.0 (elim why.1 [ inl x ↦ inl x | inr d ↦ inr (there why.0 d) ]) why.2))
          (λ h. (let why : (g : F) × (IsRemoved c g ⊎ (u.stage g ≡ Done)) × HasMoved c g k = q.moved k h in r.changed k why.0 (elim why.1 [ inl x ↦ inl x | inr d ↦ inr (back why.0 d) ]) why.2)),
    )
