-- A trace follows a build.
use Rattle.std.proofs.Common.{◌≡◌, ◌≢◌, ◌↔◌, ℕ, Bool, true, false, not, ◌&&◌, ◌||◌, List, Option, Some, None, IsSome, IsNone, is_some, refl, ap, sym, ◌∙◌, subst, inl, inr}
use Rattle.std.specs.BTreeMap.{is_at}
use Rattle.dep_key.specs.declared.key.Key.{Key}
use Rattle.dep_key.specs.declared.graph.Node.{Node}
use Rattle.dep_graph.specs.Moves.{is_one, node_reading}
use Rattle.dep_graph.specs.Arcs.{path_order, uses_key}
use Rattle.waves.specs.Builds.{print_in, HaveSamePrints, HasMoved}
use Rattle.waves.specs.Machine as machine
use Rattle.waves.specs.Machine.{State}
use Rattle.waves.proofs.Stages.{woken-done, done-woken, or-true, and-true}
use Rattle.waves.proofs.Runs.{finish-moved}
use Rattle.waves.proofs.Order.{run-reached, complete-done}
use Rattle.wave_core.specs.Cores.{change_of, has_print, is_among}
use Rattle.wave_core.proofs.WakingLemmas.{path-itself, other-path}
use Rattle.wave_core.proofs.FinishLemmas.{used, uses, or-true-right}
use Rattle.wave_core.proofs.OpeningLemmas.{any-file, file-any}
use Rattle.wave_core.proofs.RunLemmas.{decided}
use Rattle.dep_trace.specs.Traces.{HasMovedBeside, TracesBegin, TracesTake, TracesFinish, TracesEnd, moved_beside}

some-print : (o p : Option (List Node)) (k : Key) → IsNone p → has_print o k ≡ true → print_in node_reading o k ≢ print_in node_reading p k
some-print o (Some n) k none some = λ e. cc
some-print o None k none some = λ e. (let bad : true ≡ false = sym some ∙ ap is_some e in cc)

print-some : (o p : Option (List Node)) (k : Key) → IsNone p → print_in node_reading o k ≢ print_in node_reading p k → has_print o k ≡ true
print-some o (Some n) k none differ = cc
print-some o None k none differ = (elim (print_in node_reading o k) as (λ v. v ≢ None → is_some v ≡ true) [ None ↦ λ d. absurd (d refl) | Some v ↦ λ d. refl ]) differ

not-at : (g f : List ℕ) → not (is_at (path_order g) f) ≡ true → g ≢ f
not-at g f h same = (let bad : false ≡ true = sym (ap not (ap (is_at (path_order g)) (sym same) ∙ path-itself g)) ∙ h in cc)

at-not : (g f : List ℕ) → g ≢ f → not (is_at (path_order g) f) ≡ true
at-not g f other = ap not (other-path g f (λ e. other (sym e)))

both-true : (a b : Bool) → a ≡ true → b ≡ true → (a && b) ≡ true
both-true a b e h = ap (λ x. x && b) e ∙ h

pub begins : TracesBegin
begins before now first s removed origins opens gone tells = record {
  at = λ f k.
      let test : List ℕ → Bool = λ g. not (is_at (path_order g) f) && has_print (before g) k in (
        λ h.
            let found : (g : List ℕ) × (is_among removed g ≡ true) × (test g ≡ true) = any-file test removed (sym (tells f k) ∙ h) in
            let both : (not (is_at (path_order found.0) f) ≡ true) × (has_print (before found.0) k ≡ true) = and-true (not (is_at (path_order found.0) f)) (has_print (before found.0) k) found.2 in
            let away : IsSome (before found.0) × IsNone (now found.0) = (gone.at found.0).0 found.1 in
            record {
              origin = found.0;
              other = not-at found.0 f both.0;
              changed = inl away;
              moved = some-print (before found.0) (now found.0) k away.1 both.1;
            },
        λ b. tells f k ∙ elim b.changed [
          | inl away ↦ file-any test removed b.origin ((gone.at b.origin).1 away) (both-true (not (is_at (path_order b.origin) f)) (has_print (before b.origin) k) (at-not b.origin f b.other) (print-some (before b.origin) (now b.origin) k away.1 b.moved))
          | inr done ↦ absurd (let bad : machine.Idle ≡ machine.Done = woken-done _ machine.Idle (sym (opens.stage b.origin) ∙ done) in cc)
        ],
      );
}

pub takes : TracesTake
takes before now first s t file origins step traced =
    let back : (g : List ℕ) → t.stage g ≡ machine.Done → s.stage g ≡ machine.Done =
    λ g e. elim (decided g file) [ inl same ↦ absurd (let bad : machine.Running ≡ machine.Done = sym (ap t.stage same ∙ step.running) ∙ e in cc) | inr other ↦ sym (step.others g other) ∙ e ] in
    let on : (g : List ℕ) → s.stage g ≡ machine.Done → t.stage g ≡ machine.Done =
    λ g e. elim (decided g file) [ inl same ↦ absurd (let bad : machine.Pending ≡ machine.Done = sym (ap s.stage same ∙ step.pending) ∙ e in cc) | inr other ↦ step.others g other ∙ e ] in
    record {
      at = λ f k. (
        λ h. let b : HasMovedBeside (change_of before now first) s f k = (traced.at f k).0 h in record { origin = b.origin; other = b.other; changed = elim b.changed [ inl away ↦ inl away | inr done ↦ inr (on b.origin done) ]; moved = b.moved },
        λ b. (traced.at f k).1 (record { origin = b.origin; other = b.other; changed = elim b.changed [ inl away ↦ inl away | inr done ↦ inr (back b.origin done) ]; moved = b.moved }),
      );
    }

pub finishes : TracesFinish
finishes before now first plan events s t file old new keys run step changed noted traced =
    let c = change_of before now first in
    let on : (g : List ℕ) → s.stage g ≡ machine.Done → t.stage g ≡ machine.Done = λ g e. elim (decided g file) [
      | inl same ↦ ap t.stage same ∙ step.done
      | inr other ↦ step.others g other ∙ ap (machine.woken _) e ∙ done-woken _
    ] in
    let tells : (k : Key) → (HasMoved c file k) ↔ (HaveSamePrints node_reading s.graph t.graph k → ⊥) = finish-moved c plan decided file s t (run-reached c plan decided events s run) step in
    record {
      at = λ f k. (
        λ h. elim (or-true (moved_beside old f k) (not (is_at (path_order file) f) && is_one keys k) (sym (noted.at f k) ∙ h)) [
          | inl was ↦ let b : HasMovedBeside c s f k = (traced.at f k).0 was in record { origin = b.origin; other = b.other; changed = elim b.changed [ inl away ↦ inl away | inr done ↦ inr (on b.origin done) ]; moved = b.moved }
          | inr new ↦ let both : (not (is_at (path_order file) f) ≡ true) × (is_one keys k ≡ true) = and-true (not (is_at (path_order file) f)) (is_one keys k) new in
              record { origin = file; other = not-at file f both.0; changed = inr step.done; moved = (tells k).1 ((changed k).0 both.1) }
        ],
        λ b. noted.at f k ∙ elim (decided b.origin file) [
          | inl same ↦ ap (λ x. moved_beside old f k || x)
              (both-true (not (is_at (path_order file) f)) (is_one keys k) (at-not file f (λ e. b.other (same ∙ e))) ((changed k).1 ((tells k).0 (subst (λ (g : List ℕ). HasMoved c g k) same b.moved))))
              ∙ sym (or-true-right (moved_beside old f k))
          | inr other ↦ ap (λ x. x || (not (is_at (path_order file) f) && is_one keys k)) ((traced.at f k).1 (record {
            origin = b.origin;
            other = b.other;
            changed = elim b.changed [ inl away ↦ inl away | inr done ↦ inr (woken-done _ (s.stage b.origin) (sym (step.others b.origin other) ∙ done)) ];
            moved = b.moved;
          }))
        ],
      );
    }

pub ends : TracesEnd
ends before now first plan events t origins run whole traced f nodes is =
    let c = change_of before now first in
    let done = complete-done c plan t (run-reached c plan decided events t run) whole in (
      λ key found. (
        let b : HasMovedBeside c t f key = (traced.at f key).0 found.moved in
            record {
              origin = b.origin;
              other = b.other;
              changed = elim b.changed [ inl away ↦ inl away | inr d ↦ inr ((done b.origin).0 d) ];
              moved = b.moved;
              used = used (before f) key (ap (λ o. uses_key o key) is ∙ found.used);
            },
        λ k cause. found.least k (ap (λ o. uses_key o k) (sym is) ∙ uses (before f) k cause.used)
            ((traced.at f k).1 (record { origin = cause.origin; other = cause.other; changed = elim cause.changed [ inl away ↦ inl away | inr due ↦ inr ((done cause.origin).1 due) ]; moved = cause.moved })),
      ),
      λ none k cause.
          let here : uses_key (Some nodes) k ≡ true = ap (λ o. uses_key o k) (sym is) ∙ uses (before f) k cause.used in
          let beside : moved_beside origins f k ≡ true = (traced.at f k).1 (record { origin = cause.origin; other = cause.other; changed = elim cause.changed [ inl away ↦ inl away | inr due ↦ inr ((done cause.origin).1 due) ]; moved = cause.moved }) in
          (let bad : true ≡ false = sym (both-true (uses_key (Some nodes) k) (moved_beside origins f k) here beside) ∙ none k in cc),
    )
