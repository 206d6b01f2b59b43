-- An incremental build leaves what a clean build leaves.
use Rattle.std.proofs.Common.{◌≡◌, Bool, true, false, not, ◌&&◌, List, [], ◌∷◌, ◌++◌, Some, None, is_some, IsSome, refl, ap, sym, ◌∙◌, inl, inr}
use Rattle.waves.specs.Builds.{Among, IsDecided, IsPlan, IsCovered, Change, IsFile}
use Rattle.waves.specs.Machine.{State, Event, IsRun, IsComplete, is_built, is_skipped}
use Rattle.waves.specs.Outputs.{Made, Folder, made_of, lines_of, built_too, built_of, Layout, output_if, output_of, clean_at, clean_folder, IsMade, IsMadeAlike, IsFirstWave, IsKept, IsNaming, IsInHand, IsLeft}
use Rattle.waves.proofs.Stages.{and-true}
use Rattle.waves.proofs.Runs.{IsReached}
use Rattle.waves.proofs.Order.{run-reached}
use Rattle.waves.proofs.Ends.{run-closed, skipped-idle, ends-clean}

true-false : (b : Bool) → b ≡ true → b ≡ false → ⊥
true-false b e f = let bad : true ≡ false = sym e ∙ f in cc

not-skipped : (b : Bool) → b ≡ true → not b ≡ false
not-skipped true h = refl
not-skipped false h = cc

not-true : (b : Bool) → not b ≡ true → b ≡ false
not-true true h = cc
not-true false h = refl

skip : (a b : Bool) → a ≡ true → b ≡ false → a && not b ≡ true
skip true true e f = cc
skip true false e f = refl
skip false b e f = cc

-- coverage of what is made covers the nodes
pub covers-nodes : {F N K V Line Kind Bytes Name : Type 0} (c : Change F N K V) (layout : Layout F N Line Kind Bytes Name) (was made : F → Made N Line Kind Bytes) (old : Folder Name Bytes) →
    IsMade c was made → IsMadeAlike c was made → IsFirstWave c layout was old → IsCovered c
covers-nodes c layout was made old m alike wave = record {
  at = λ set closed f out.
      (elim (is_some (c.now f)) as (λ b. is_some (c.now f) ≡ b → c.before f ≡ c.now f) [
        | false ↦ λ gone. absurd (true-false (set f) (closed.others f gone) out)
        | true ↦ λ here. (elim (c.first f) as (λ b. c.first f ≡ b → c.before f ≡ c.now f) [
          | true ↦ λ first. absurd (true-false (set f) (closed.first f first) out)
          | false ↦ λ no_first. m.before f (wave.recorded f here no_first) ∙ ap (λ x. Some x.nodes) (alike.at set closed f out) ∙ sym (m.now f here)
        ]) refl
      ]) refl;
}

-- What is so of a skipped file: it has no errors, its outputs are there, and so are its nodes.
pub record IsClean {F N K V Line Kind Bytes Name : Type 0} (c : Change F N K V) (t : State F N K) (layout : Layout F N Line Kind Bytes Name) (made : F → Made N Line Kind Bytes) (old : Folder Name Bytes) (f : F) : Type 0 where
  pub errors : (made f).errors ≡ []
  pub outputs : (kind : Kind) → old (layout.name f kind) ≡ Some ((made f).output kind)
  pub nodes : t.graph f ≡ Some (made f).nodes

no-errors : {N Line Kind Bytes : Type 0} (m : Made N Line Kind Bytes) (kind : Kind) → m.errors ≡ [] → output_of m kind ≡ Some (m.output kind)
no-errors m kind e = ap (λ l. output_if l (m.output kind)) e

pub skipped-clean : {F N K V Line Kind Bytes Name : Type 0} (c : Change F N K V) (layout : Layout F N Line Kind Bytes Name) (was made : F → Made N Line Kind Bytes) (old : Folder Name Bytes) →
    IsMade c was made → IsMadeAlike c was made → IsFirstWave c layout was old → IsKept c layout was old → IsDecided F → IsDecided V →
    (es : List (Event F)) (t : State F N K) → IsRun c es t → IsComplete t → (f : F) → is_skipped c t f ≡ true → IsClean c t layout made old f
skipped-clean {F} {N} {K} {V} {Line} {Kind} {Bytes} {Name} c layout was made old m alike wave kept decide decide_print es t run complete f h =
    let p : IsPlan c = record { first = wave.first } in
    let r : IsReached c t = run-reached c p decide es t run in
    let parts : (is_some (c.now f) ≡ true) × (not (is_built (t.stage f)) ≡ true) = and-true (is_some (c.now f)) _ h in
    let no_first : c.first f ≡ false = (r.idle f (skipped-idle c t complete f (not-true _ parts.1))).0 in
    let same : was f ≡ made f = alike.at (λ g. not (is_skipped c t g)) (run-closed c p decide decide_print es t run complete) f (not-skipped _ h) in
    let clean : (was f).errors ≡ [] = wave.clean f parts.0 no_first in
    record {
      errors = ap (λ x. x.errors) (sym same) ∙ clean;
      outputs = λ kind. kept.at f (wave.recorded f parts.0 no_first) kind (wave.present f parts.0 no_first kind) ∙ no-errors (was f) kind clean ∙ ap (λ x. Some (x.output kind)) same;
      nodes = (ends-clean c p decide decide_print (covers-nodes c layout was made old m alike wave) es t run complete).0 f ∙ m.now f parts.0;
    }

lines-built : {F N K Line Kind Bytes : Type 0} (t : State F N K) (made : F → Made N Line Kind Bytes) (files : List F) →
    ((f : F) → Among files f → is_built (t.stage f) ≡ false → (made f).errors ≡ []) → lines_of made (built_of t files) ≡ lines_of made files
lines-built t made [] clean = refl
lines-built {F} {N} {K} {Line} {Kind} {Bytes} t made (f ∷ fs) clean =
    let rest : lines_of made (built_of t fs) ≡ lines_of made fs = lines-built t made fs (λ g m. clean g (inr m)) in
    (elim (is_built (t.stage f)) as (λ b. is_built (t.stage f) ≡ b → lines_of made (built_too b f (built_of t fs)) ≡ (made f).errors ++ lines_of made fs) [
      | true ↦ λ e. ap (λ l. (made f).errors ++ l) rest
      | false ↦ λ e. rest ∙ ap (λ l. l ++ lines_of made fs) (sym (clean f (inl refl) e))
    ]) refl

same-made : {F M : Type 0} (known made : F → M) (files : List F) → ((f : F) → Among files f → known f ≡ made f) → made_of known files ≡ made_of made files
same-made known made [] same = refl
same-made known made (f ∷ fs) same = rw (same f (inl refl)) (ap (λ l. (f, made f) ∷ l) (same-made known made fs (λ g m. same g (inr m))))

some-same : {X : Type 0} (x y : X) → Some x ≡ Some y → x ≡ y
some-same x y e = cc

-- two that have the same parts are the same
made-same : {N Line Kind Bytes : Type 0} (m n : Made N Line Kind Bytes) → m.errors ≡ n.errors → m.nodes ≡ n.nodes → ((kind : Kind) → m.output kind ≡ n.output kind) → m ≡ n
made-same m n e f g = λ i. record { errors = e i; nodes = f i; output = λ kind. g kind i }

pub in-hand-made : {F N K V Line Kind Bytes Name : Type 0} (c : Change F N K V) (layout : Layout F N Line Kind Bytes Name) (made : F → Made N Line Kind Bytes) (old : Folder Name Bytes) (t : State F N K) →
    ((f : F) → is_skipped c t f ≡ true → IsClean c t layout made old f) → (known : F → Made N Line Kind Bytes) → IsInHand c t layout made old known → (f : F) → IsFile c f → known f ≡ made f
in-hand-made c layout made old t clean known hand f here =
    (elim (is_built (t.stage f)) as (λ b. is_built (t.stage f) ≡ b → known f ≡ made f) [
      | true ↦ λ e. hand.built f here e
      | false ↦ λ e.
          let h : is_skipped c t f ≡ true = skip (is_some (c.now f)) (is_built (t.stage f)) here e in
          let is : IsClean c t layout made old f = clean f h in
          made-same (known f) (made f) (hand.no_errors f h ∙ sym is.errors)
          (some-same _ _ (sym (hand.nodes f h) ∙ is.nodes))
          (λ kind. some-same _ _ (sym (hand.outputs f h kind) ∙ is.outputs kind))
    ]) refl

pub left-clean : {F N K V Line Kind Bytes Name : Type 0} (c : Change F N K V) (layout : Layout F N Line Kind Bytes Name) (made : F → Made N Line Kind Bytes) (old : Folder Name Bytes) (t : State F N K) →
    ((f : F) → is_skipped c t f ≡ true → IsClean c t layout made old f) → IsNaming c layout → (files : List F) → ((f : F) → Among files f → IsFile c f) →
    (known : F → Made N Line Kind Bytes) → ((f : F) → IsFile c f → known f ≡ made f) →
    (new : Folder Name Bytes) → IsLeft c t layout files old known new → (name : Name) → new name ≡ clean_folder layout made files name
left-clean {F} {N} {K} {V} {Line} {Kind} {Bytes} {Name} c layout made old t clean naming files listed known same new left name =
    (elim (layout.owner name) as (λ o. layout.owner name ≡ o → new name ≡ clean_at layout made files name o) [
      | None ↦ λ e. left.whole name (ap is_some e) ∙ ap (λ l. layout.whole l name) (same-made known made files (λ f m. same f (listed f m)))
      | Some place ↦ λ e.
          let f : F = place.0 in
          let kind : Kind = place.1 in
          let its : IsFile c f × (name ≡ layout.name f kind) = naming.at name f kind e in
          ap new its.1 ∙ (elim (is_built (t.stage f)) as (λ b. is_built (t.stage f) ≡ b → new (layout.name f kind) ≡ output_of (made f) kind) [
            | true ↦ λ b. left.built f its.0 b kind ∙ ap (λ x. output_of x kind) (same f its.0)
            | false ↦ λ b.
                let h : is_skipped c t f ≡ true = skip (is_some (c.now f)) (is_built (t.stage f)) its.0 b in
                left.skipped f h kind ∙ (clean f h).outputs kind ∙ sym (no-errors (made f) kind (clean f h).errors)
          ]) refl
    ]) refl

pub incremental : {F N K V Line Kind Bytes Name : Type 0}
    (c : Change F N K V) (layout : Layout F N Line Kind Bytes Name) (was made : F → Made N Line Kind Bytes) (old : Folder Name Bytes) →
    IsMade c was made → IsMadeAlike c was made → IsFirstWave c layout was old → IsKept c layout was old → IsNaming c layout → IsDecided F → IsDecided V →
    (files : List F) → ((f : F) → Among files f → IsFile c f) →
    (events : List (Event F)) (t : State F N K) → IsRun c events t → IsComplete t →
    ((f : F) → is_skipped c t f ≡ true → ((made f).errors ≡ []) × ((kind : Kind) → old (layout.name f kind) ≡ Some ((made f).output kind)) × (t.graph f ≡ Some (made f).nodes))
    × (lines_of made (built_of t files) ≡ lines_of made files)
    × ((known : F → Made N Line Kind Bytes) → IsInHand c t layout made old known →
    ((f : F) → IsFile c f → known f ≡ made f)
    × ((new : Folder Name Bytes) → IsLeft c t layout files old known new → (name : Name) → new name ≡ clean_folder layout made files name))
incremental {F} {N} {K} {V} {Line} {Kind} {Bytes} {Name} c layout was made old m alike wave kept naming decide decide_print files listed es t run complete =
    let clean : (f : F) → is_skipped c t f ≡ true → IsClean c t layout made old f = skipped-clean c layout was made old m alike wave kept decide decide_print es t run complete in (
      λ f h. ((clean f h).errors, (clean f h).outputs, (clean f h).nodes),
      lines-built t made files (λ f among e. (clean f (skip (is_some (c.now f)) (is_built (t.stage f)) (listed f among) e)).errors),
      λ known hand.
          let same : (f : F) → IsFile c f → known f ≡ made f = in-hand-made c layout made old t clean known hand in
          (same, λ new left. left-clean c layout made old t clean naming files listed known same new left),
    )

pub clean-kept : {F N K V Line Kind Bytes Name : Type 0} (c : Change F N K V) (layout next : Layout F N Line Kind Bytes Name) (made : F → Made N Line Kind Bytes) (files : List F) (old : Folder Name Bytes) →
    ((f : F) → IsSome (c.before f) → (kind : Kind) → layout.owner (next.name f kind) ≡ Some (f, kind)) →
    ((name : Name) → IsSome (old name) → old name ≡ clean_folder layout made files name) → IsKept c next made old
clean-kept c layout next made files old owns clean = record {
  at = λ f before kind there. clean (next.name f kind) there ∙ ap (clean_at layout made files (next.name f kind)) (owns f before kind);
}
