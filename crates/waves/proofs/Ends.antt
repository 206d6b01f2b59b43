-- What a complete run leaves: which files it took, and what it skips.
use Rattle.std.proofs.Common.{◌≡◌, ◌≢◌, ◌⊎◌, ◌↔◌, Bool, true, false, not, ◌&&◌, List, [], ◌∷◌, Option, Some, None, is_some, IsNone, refl, ap, sym, ◌∙◌, subst, inl, inr}
use Rattle.waves.specs.Builds.{Among, IsDecided, IsPlan, IsClosed, IsCovered, IsCause, uses_in, print_in, HaveSamePrints, Lists, Change, IsRemoved, HasMoved, IsDue}
use Rattle.waves.specs.Machine.{Stage, Idle, Pending, Running, Done, State, Event, opening_graph, IsRun, IsComplete, is_built, is_skipped}
use Rattle.waves.proofs.Stages.{any-false, opening-file, opening-gone, is-none}
use Rattle.waves.proofs.Rounds.{due-file, due-cause}
use Rattle.waves.proofs.Runs.{IsReached}
use Rattle.waves.proofs.Order.{run-reached, complete-done}

pub rest-kept : {F N K V : Type 0} (c : Change F N K V) → IsPlan c → IsDecided F → (es : List (Event F)) (t : State F N K) → IsRun c es t → IsComplete t →
    (f : F) → (IsDue c f → t.graph f ≡ c.now f) × ((IsDue c f → ⊥) → t.graph f ≡ opening_graph c f)
rest-kept c p decide es t run complete f =
    let r : IsReached c t = run-reached c p decide es t run in
    (λ d. r.built f ((complete-done c p t r complete f).1 d), λ out. r.unbuilt f (λ e. out ((complete-done c p t r complete f).0 e)))

built-done : (s : Stage) → is_built s ≡ true → s ≡ Done
built-done Idle h = cc
built-done Pending h = cc
built-done Running h = cc
built-done Done h = refl

built-else : (s : Stage) → is_built s ≡ false → s ≢ Done
built-else Idle h = λ e. cc
built-else Pending h = λ e. cc
built-else Running h = λ e. cc
built-else Done h = λ e. cc

done-built : (s : Stage) → s ≡ Done → is_built s ≡ true
done-built Idle h = cc
done-built Pending h = cc
done-built Running h = cc
done-built Done h = refl

skips : (a b : Bool) → not (a && not b) ≡ false → (a ≡ true) × (b ≡ false)
skips true true h = cc
skips true false h = (refl, refl)
skips false b h = cc

unskipped : (a b : Bool) → not (a && not b) ≡ true → (a ≡ false) ⊎ (b ≡ true)
unskipped true true h = inr refl
unskipped true false h = cc
unskipped false b h = inl refl

gone-unskipped : (a b : Bool) → a ≡ false → not (a && not b) ≡ true
gone-unskipped true b h = cc
gone-unskipped false b h = refl

built-unskipped : (a b : Bool) → b ≡ true → not (a && not b) ≡ true
built-unskipped true true h = refl
built-unskipped true false h = cc
built-unskipped false b h = refl

-- a skipped file is idle
pub skipped-idle : {F N K V : Type 0} (c : Change F N K V) (t : State F N K) → IsComplete t → (f : F) → is_built (t.stage f) ≡ false → t.stage f ≡ Idle
skipped-idle c t complete f h = at (t.stage f) (complete.none_pending f) (complete.none_running f) h
  where
    at : (s : Stage) → s ≢ Pending → s ≢ Running → is_built s ≡ false → s ≡ Idle
    at Idle p r h = refl
    at Pending p r h = absurd (p refl)
    at Running p r h = absurd (r refl)
    at Done p r h = cc

same-or-moved : {F N K V : Type 0} (c : Change F N K V) → IsDecided V → (g : F) (k : K) → (print_in c.reading (c.before g) k ≡ print_in c.reading (c.now g) k) ⊎ HasMoved c g k
same-or-moved {F} {N} {K} {V} c decide g k = at (print_in c.reading (c.before g) k) (print_in c.reading (c.now g) k)
  where
    at : (o p : Option V) → (o ≡ p) ⊎ (o ≢ p)
    at None None = inl refl
    at None (Some w) = inr (λ e. cc)
    at (Some v) None = inr (λ e. cc)
    at (Some v) (Some w) = elim (decide v w) [ inl e ↦ inl (ap Some e) | inr differ ↦ inr (λ e. differ (let same : v ≡ w = cc in same)) ]

both-gone : {F N K V : Type 0} (c : Change F N K V) (g : F) (k : K) → IsNone (c.before g) → IsNone (c.now g) → print_in c.reading (c.before g) k ≡ print_in c.reading (c.now g) k
both-gone c g k e f = rw (is-none (c.before g) e, is-none (c.now g) f) refl

-- a key that hasn't changed has the print that it had in each file that wasn't skipped
pub unchanged : {F N K V : Type 0} (c : Change F N K V) → IsDecided V → (t : State F N K) → IsReached c t → (k : K) → t.changed k ≡ false → (g : F) → not (is_skipped c t g) ≡ true →
    print_in c.reading (c.before g) k ≡ print_in c.reading (c.now g) k
unchanged {F} {N} {K} {V} c decide t r k same g out = elim (same-or-moved c decide g k) [
  | inl e ↦ e
  | inr moved ↦ elim (unskipped (is_some (c.now g)) (is_built (t.stage g)) out) [
    | inr built ↦ absurd (let bad : true ≡ false = sym (r.changed k g (inr (built-done (t.stage g) built)) moved) ∙ same in cc)
    | inl gone ↦ (elim (is_some (c.before g)) as (λ b. is_some (c.before g) ≡ b → print_in c.reading (c.before g) k ≡ print_in c.reading (c.now g) k) [
      | true ↦ λ e. absurd (let bad : true ≡ false = sym (r.changed k g (inl (e, gone)) moved) ∙ same in cc)
      | false ↦ λ e. both-gone c g k e gone
    ]) refl
  ]
]

pub run-closed : {F N K V : Type 0} (c : Change F N K V) → IsPlan c → IsDecided F → IsDecided V → (es : List (Event F)) (t : State F N K) → IsRun c es t → IsComplete t →
    IsClosed c (λ f. not (is_skipped c t f))
run-closed {F} {N} {K} {V} c p decide decide_print es t run complete =
    let r : IsReached c t = run-reached c p decide es t run in
    record {
      first = λ f e. (elim (is_built (t.stage f)) as (λ b. is_built (t.stage f) ≡ b → not (is_skipped c t f) ≡ true) [
        | true ↦ λ b. built-unskipped (is_some (c.now f)) _ b
        | false ↦ λ b. absurd (let bad : true ≡ false = sym e ∙ (r.idle f (skipped-idle c t complete f b)).0 in cc)
      ]) refl;
      others = λ f gone. gone-unskipped (is_some (c.now f)) (is_built (t.stage f)) gone;
      used = λ f out k m g set.
          let skip : (is_some (c.now f) ≡ true) × (is_built (t.stage f) ≡ false) = skips (is_some (c.now f)) (is_built (t.stage f)) out in
          let graph : t.graph f ≡ c.before f = r.unbuilt f (built-else (t.stage f) skip.1) ∙ opening-file c f skip.0 in
          let same : t.changed k ≡ false = any-false t.changed _ (r.idle f (skipped-idle c t complete f skip.1)).1 k (subst (λ n. Among (uses_in c.reading n) k) (sym graph) m) in
          unchanged c decide_print t r k same g set;
    }

-- under coverage what is skipped has the nodes that it had
pub skipped-same : {F N K V : Type 0} (c : Change F N K V) → IsPlan c → IsDecided F → IsDecided V → IsCovered c → (es : List (Event F)) (t : State F N K) → IsRun c es t → IsComplete t →
    (f : F) → not (is_skipped c t f) ≡ false → c.before f ≡ c.now f
skipped-same c p decide decide_print covered es t run complete f out = covered.at (λ f. not (is_skipped c t f)) (run-closed c p decide decide_print es t run complete) f out

pub ends-clean : {F N K V : Type 0} (c : Change F N K V) → IsPlan c → IsDecided F → IsDecided V → IsCovered c → (es : List (Event F)) (t : State F N K) → IsRun c es t → IsComplete t →
    ((f : F) → t.graph f ≡ c.now f) × ((k : K) → (t.changed k ≡ true) ↔ (HaveSamePrints c.reading c.before c.now k → ⊥))
ends-clean {F} {N} {K} {V} c p decide decide_print covered es t run complete =
    let r : IsReached c t = run-reached c p decide es t run in
    let skipped : (f : F) → not (is_skipped c t f) ≡ false → c.before f ≡ c.now f = skipped-same c p decide decide_print covered es t run complete in (
      λ f. (elim (not (is_skipped c t f)) as (λ b. not (is_skipped c t f) ≡ b → t.graph f ≡ c.now f) [
        | true ↦ λ out. elim (unskipped (is_some (c.now f)) (is_built (t.stage f)) out) [
          | inr built ↦ r.built f (built-done (t.stage f) built)
          | inl gone ↦ r.unbuilt f (λ e. (let bad : true ≡ false = sym (asked-file' r f e) ∙ gone in cc)) ∙ opening-gone c f gone ∙ sym (is-none (c.now f) gone)
        ]
        | false ↦ λ out.
            let skip : (is_some (c.now f) ≡ true) × (is_built (t.stage f) ≡ false) = skips (is_some (c.now f)) (is_built (t.stage f)) out in
            r.unbuilt f (built-else (t.stage f) skip.1) ∙ opening-file c f skip.0 ∙ skipped f out
      ]) refl,
      λ k. (
        λ h same. (let why : (g : F) × (IsRemoved c g ⊎ (t.stage g ≡ Done)) × HasMoved c g k = r.moved k h in why.2 (same.at why.0)),
        λ differ. (elim (t.changed k) as (λ b. t.changed k ≡ b → t.changed k ≡ true) [
          | true ↦ λ e. e
          | false ↦ λ e. absurd (differ (record {
            at = λ g. (elim (not (is_skipped c t g)) as (λ b. not (is_skipped c t g) ≡ b → print_in c.reading (c.before g) k ≡ print_in c.reading (c.now g) k) [
              | true ↦ λ out. unchanged c decide_print t r k e g out
              | false ↦ λ out. ap (λ n. print_in c.reading n k) (skipped g out)
            ]) refl;
          }))
        ]) refl,
      ),
    )
  where
    asked-file' : IsReached c t → (f : F) → t.stage f ≡ Done → is_some (c.now f) ≡ true
    asked-file' r f e = due-file c p (r.due f (λ d. (let bad : Done ≡ Idle = sym e ∙ d in cc))).0 f (r.due f (λ d. (let bad : Done ≡ Idle = sym e ∙ d in cc))).1

pub has-cause : {F N K V : Type 0} (c : Change F N K V) → IsDecided F → (f : F) → IsDue c f → c.first f ≡ false →
    (k : K) × IsCause c f k × (HaveSamePrints c.reading c.before c.now k → ⊥)
has-cause {F} {N} {K} c decide f due no_first =
    let why : (k : K) × IsCause c f k = due-cause c decide due.0 f due.1 no_first in
    (why.0, why.1, λ same. why.1.moved (same.at why.1.origin))

-- some file of a list other than f moved the key, or none did
some-moved : {F N K V : Type 0} (c : Change F N K V) → IsDecided F → IsDecided V → (f : F) (k : K) (files : List F) →
    ((g : F) × (g ≢ f) × HasMoved c g k) ⊎ ((g : F) → Among files g → g ≢ f → print_in c.reading (c.before g) k ≡ print_in c.reading (c.now g) k)
some-moved c decide decide_print f k [] = inr (λ g m. absurd m)
some-moved {F} {N} {K} c decide decide_print f k (x ∷ xs) = elim (some-moved c decide decide_print f k xs) [
  | inl found ↦ inl found
  | inr none ↦ elim (decide x f) [
    | inl same ↦ inr (λ g m other. elim m [ inl e ↦ absurd (other (sym e ∙ same)) | inr m ↦ none g m other ])
    | inr other ↦ elim (same-or-moved c decide_print x k) [
      | inr moved ↦ inl (x, other, moved)
      | inl e ↦ inr (λ g m o. elim m [ inl here ↦ subst (λ y. print_in c.reading (c.before y) k ≡ print_in c.reading (c.now y) k) here e | inr m ↦ none g m o ])
    ]
  ]
]

pub cause-seen : {F N K V : Type 0} (c : Change F N K V) → IsPlan c → IsDecided F → IsDecided V → IsCovered c → (es : List (Event F)) (t : State F N K) → IsRun c es t → IsComplete t →
    (files : List F) → Lists files c.before → Lists files c.now → (f : F) (k : K) →
    IsCause c f k ↔ (Among (uses_in c.reading (c.before f)) k × (((g : F) → g ≢ f → print_in c.reading (c.before g) k ≡ print_in c.reading (c.now g) k) → ⊥))
cause-seen {F} {N} {K} {V} c p decide decide_print covered es t run complete files before now f k =
    let r : IsReached c t = run-reached c p decide es t run in
    let where_ : (g : F) → HasMoved c g k → IsRemoved c g ⊎ IsDue c g = λ g moved.
    (elim (not (is_skipped c t g)) as (λ b. not (is_skipped c t g) ≡ b → IsRemoved c g ⊎ IsDue c g) [
      | false ↦ λ out. absurd (moved (ap (λ n. print_in c.reading n k) (skipped-same c p decide decide_print covered es t run complete g out)))
      | true ↦ λ out. elim (unskipped (is_some (c.now g)) (is_built (t.stage g)) out) [
        | inr built ↦ inr ((complete-done c p t r complete g).0 (built-done (t.stage g) built))
        | inl gone ↦ (elim (is_some (c.before g)) as (λ b. is_some (c.before g) ≡ b → IsRemoved c g ⊎ IsDue c g) [
          | true ↦ λ e. inl (e, gone)
          | false ↦ λ e. absurd (moved (both-gone c g k e gone))
        ]) refl
      ]
    ]) refl in (
      λ why. (why.used, λ same. why.moved (same why.origin why.other)),
      λ why. elim (some-moved c decide decide_print f k files) [
        | inl found ↦ record { origin = found.0; other = found.1; changed = where_ found.0 found.2; moved = found.2; used = why.0 }
        | inr none ↦ absurd (why.1 (λ g other.
            (elim (is_some (c.before g)) as (λ b. is_some (c.before g) ≡ b → print_in c.reading (c.before g) k ≡ print_in c.reading (c.now g) k) [
              | true ↦ λ e. none g (before.at g e) other
              | false ↦ λ e. (elim (is_some (c.now g)) as (λ b. is_some (c.now g) ≡ b → print_in c.reading (c.before g) k ≡ print_in c.reading (c.now g) k) [
                | true ↦ λ h. none g (now.at g h) other
                | false ↦ λ h. both-gone c g k e h
              ]) refl
            ]) refl))
      ],
    )
