-- What has happened is a run of the machine, and what a complete run has done.
use Rattle.std.proofs.Common.{◌≡◌, ◌≢◌, ◌⊎◌, ◌↔◌, ℕ, Bool, true, false, ◌||◌, List, length, ◌<◌, arith, [], ◌∷◌, ◌++◌, map, Option, Some, None, refl, ap, sym, ◌∙◌, subst, inl, inr, IsTrue}
use Rattle.std.specs.BTreeMap.{is_at}
use Rattle.std.specs.Prelude.{IfSome, IfNone}
use Rattle.dep_key.specs.declared.graph.Node.{Node}
use Rattle.waves.specs.Builds.{IsDecided, IsPlan}
use Rattle.waves.specs.Machine as machine
use Rattle.waves.specs.Machine.{IsTake, IsFinish, IsStep, IsOpening, IsRun, IsComplete}
use Rattle.waves.proofs.Agreement.{run-more}
use Rattle.waves.proofs.Order.{order}
use Rattle.waves.proofs.Ends.{rest-kept, ends-clean, has-cause}
use Rattle.dep_graph.specs.Moves.{node_reading}
use Rattle.dep_graph.specs.Arcs.{path_order}
use Rattle.wave_core.specs.declared.events.FileEvent.{FileEvent}
use Rattle.wave_core.specs.declared.events.FileEvent.TheVariants.{Take, Finish}
use Rattle.wave_core.specs.Cores.{stage_at, is_pending, is_running, is_among, ArePending, AreRunning, Module, Kept, state_of, event_of, events_of, change_of, Follows, HasBuilt}
use Rattle.wave_core.proofs.WakingLemmas.{at-path, path-itself}
use Rattle.wave_core.proofs.FinishLemmas.{pending-from, running-from}

pub decided : IsDecided (List ℕ)
decided a b = (elim (is_at (path_order a) b) as (λ v. is_at (path_order a) b ≡ v → (a ≡ b) ⊎ (a ≢ b)) [
  | true ↦ λ e. inl (at-path a b e)
  | false ↦ λ e. inr (λ same. (let bad : true ≡ false = sym (path-itself a) ∙ ap (is_at (path_order a)) same ∙ e in cc))
]) refl

events-more : (log : List FileEvent) (e : FileEvent) → map event_of (log ++ e ∷ []) ≡ map event_of log ++ event_of e ∷ []
events-more [] e = refl
events-more (x ∷ xs) e = ap (λ l. event_of x ∷ l) (events-more xs e)

follows-more : (before now : Module) (first : List ℕ → Bool) (old new : Kept) (e : FileEvent) → new.3 ≡ old.3 ++ e ∷ [] → IsStep (change_of before now first) (event_of e) (state_of old) (state_of new) →
    Follows (change_of before now first) old → Follows (change_of before now first) new
follows-more before now first old new e logged step run =
    subst (λ es. IsRun (change_of before now first) es (state_of new)) (sym (ap (map event_of) logged ∙ events-more old.3 e))
    (run-more (change_of before now first) (events_of old) (state_of old) (state_of new) (event_of e) run step)

pub follows-take : (before now : Module) (first : List ℕ → Bool) (old new : Kept) (file : List ℕ) → new.3 ≡ old.3 ++ Take file ∷ [] → IsTake file (state_of old) (state_of new) →
    Follows (change_of before now first) old → Follows (change_of before now first) new
follows-take before now first old new file logged step run = follows-more before now first old new (Take file) logged step run

pub follows-finish : (before now : Module) (first : List ℕ → Bool) (old new : Kept) (file : List ℕ) (nodes : List Node) → new.3 ≡ old.3 ++ Finish file ∷ [] →
    IsFinish node_reading file (Some nodes) (state_of old) (state_of new) → now file ≡ Some nodes → Follows (change_of before now first) old → Follows (change_of before now first) new
follows-finish before now first old new file nodes logged step is run =
    follows-more before now first old new (Finish file) logged (subst (λ o. IsFinish node_reading file o (state_of old) (state_of new)) (sym is) step) run

pub follows-opening : (before now : Module) (first : List ℕ → Bool) (kept : Kept) → kept.3 ≡ [] → IsOpening (change_of before now first) (state_of kept) → Follows (change_of before now first) kept
follows-opening before now first kept none opens =
    subst (λ es. IsRun (change_of before now first) es (state_of kept)) (sym (ap (map event_of) none)) (record { opening = state_of kept; opens = opens; leads = refl })

none-among : (files : List (List ℕ)) (f : List ℕ) → files ≡ [] → is_among files f ≡ false
none-among files f e = ap (λ l. is_among l f) e

not-none : (files : List (List ℕ)) → ((f : List ℕ) → is_among files f ≡ false) → files ≡ []
not-none [] h = refl
not-none (x ∷ xs) h = absurd (let bad : true ≡ false = sym (ap (λ b. b || is_among xs x) (path-itself x)) ∙ h x in cc)

-- nothing is pending or running exactly where both sets are empty
pub complete-from : (kept : Kept) (pending running : List (List ℕ)) → ArePending kept.2 pending → AreRunning kept.2 running → pending ≡ [] → running ≡ [] → IsComplete (state_of kept)
complete-from kept pending running p r no_pending no_running = record {
  none_pending = λ f e. (let bad : false ≡ true = sym (none-among pending f no_pending) ∙ p.at f ∙ ap is_pending e in cc);
  none_running = λ f e. (let bad : false ≡ true = sym (none-among running f no_running) ∙ r.at f ∙ ap is_running e in cc);
}

pub complete-empty : (kept : Kept) (pending running : List (List ℕ)) → ArePending kept.2 pending → AreRunning kept.2 running → IsComplete (state_of kept) → (pending ≡ []) × (running ≡ [])
complete-empty kept pending running p r whole = (
  not-none pending (λ f. p.at f ∙ off (is_pending (stage_at kept.2 f)) (λ e. whole.none_pending f (pending-from (stage_at kept.2 f) e))),
  not-none running (λ f. r.at f ∙ off (is_running (stage_at kept.2 f)) (λ e. whole.none_running f (running-from (stage_at kept.2 f) e))),
)
  where
    off : (b : Bool) → (b ≡ true → ⊥) → b ≡ false
    off true h = absurd (h refl)
    off false h = refl

no-length : (files : List (List ℕ)) → length files ≡ 0 → files ≡ []
no-length [] e = refl
no-length (x ∷ xs) e = absurd (omega (arith, e))

-- what the two tests of emptiness tell
pub complete-tells : (kept seen : Kept) (pending running : List (List ℕ)) (test : Bool) → seen ≡ kept → ArePending seen.2 pending → AreRunning seen.2 running →
    length pending ≡ 0 → (IsTrue test ↔ (length running ≡ 0)) → IsTrue test ↔ IsComplete (state_of kept)
complete-tells kept seen pending running test same p r none tells = (
  λ e. subst (λ (k : Kept). IsComplete (state_of k)) same (complete-from seen pending running p r (no-length pending none) (no-length running (tells.0 e))),
  λ whole. tells.1 (ap length (complete-empty seen pending running p r (subst (λ (k : Kept). IsComplete (state_of k)) (sym same) whole)).1),
)

pub incomplete-tells : (kept seen : Kept) (pending running : List (List ℕ)) (test : Bool) → seen ≡ kept → ArePending seen.2 pending → AreRunning seen.2 running →
    test ≡ false → (IsTrue test ↔ (length pending ≡ 0)) → IsTrue test ↔ IsComplete (state_of kept)
incomplete-tells kept seen pending running test same p r off tells = (
  λ e. absurd (let bad : true ≡ false = sym e ∙ off in cc),
  λ whole. tells.1 (ap length (complete-empty seen pending running p r (subst (λ (k : Kept). IsComplete (state_of k)) (sym same) whole)).0),
)

pub built : (before now : Module) (first : List ℕ → Bool) (kept : Kept) → IsPlan (change_of before now first) → Follows (change_of before now first) kept → IsComplete (state_of kept) → HasBuilt (change_of before now first) kept
built before now first kept plan run whole =
    let c = change_of before now first in
    let all = order c plan decided (events_of kept) (state_of kept) run whole in
    record {
      taken_once = all.0;
      taken = all.2;
      finished_once = all.1;
      finished = all.3;
      done = all.4;
      due = λ f. (rest-kept c plan decided (events_of kept) (state_of kept) run whole f).0;
      rest = λ f. (rest-kept c plan decided (events_of kept) (state_of kept) run whole f).1;
      causes = has-cause c decided;
      graph = λ cover. (ends-clean c plan decided decided cover (events_of kept) (state_of kept) run whole).0;
      changed = λ cover. (ends-clean c plan decided decided cover (events_of kept) (state_of kept) run whole).1;
    }

-- a file that may have been taken
pub follows-taken : (before now : Module) (first : List ℕ → Bool) (old new : Kept) (taken : Option (List ℕ)) → IfSome taken (λ file. IsTake file (state_of old) (state_of new)) →
    IfSome taken (λ file. new.3 ≡ old.3 ++ Take file ∷ []) → IfNone taken (new ≡ old) → Follows (change_of before now first) old → Follows (change_of before now first) new
follows-taken before now first old new None step logged same run = subst (λ (k : Kept). Follows (change_of before now first) k) (sym same) run
follows-taken before now first old new (Some file) step logged same run = follows-take before now first old new file logged step run

-- a pending file is in the set
pub pending-among : (kept seen : Kept) (pending : List (List ℕ)) → seen ≡ kept → ArePending seen.2 pending → (f : List ℕ) → stage_at kept.2 f ≡ machine.Pending → is_among pending f ≡ true
pending-among kept seen pending same p f e = p.at f ∙ ap is_pending (ap (λ (k : Kept). stage_at k.2 f) same ∙ e)

pub some-length : (files : List (List ℕ)) (f : List ℕ) → is_among files f ≡ true → 0 < length files
some-length [] f h = cc
some-length (x ∷ xs) f h = omega arith

-- where the set is empty no file is pending
pub none-pending : (kept seen : Kept) (pending : List (List ℕ)) → seen ≡ kept → ArePending seen.2 pending → (0 < length pending → ⊥) → (f : List ℕ) → stage_at kept.2 f ≢ machine.Pending
none-pending kept seen pending same p none f e = none (some-length pending f (pending-among kept seen pending same p f e))

-- a file that has been finished
pub follows-finished : {A : Type 0} (before now : Module) (first : List ℕ → Bool) (old new : Kept) (file : List ℕ) (nodes : List Node) (found : Option A) (keys : A) → found ≡ Some keys →
    IfSome found (λ _. new.3 ≡ old.3 ++ Finish file ∷ []) → IfSome found (λ _. IsFinish node_reading file (Some nodes) (state_of old) (state_of new)) → now file ≡ Some nodes →
    Follows (change_of before now first) old → Follows (change_of before now first) new
follows-finished before now first old new file nodes found keys is logged step =
    follows-finish before now first old new file nodes (subst (λ o. IfSome o (λ _. new.3 ≡ old.3 ++ Finish file ∷ [])) is logged)
    (subst (λ o. IfSome o (λ _. IsFinish node_reading file (Some nodes) (state_of old) (state_of new))) is step)
