-- A file that is taken, and one that is finished.
use Rattle.std.proofs.Common.{◌≡◌, ◌≢◌, ◌⊎◌, ◌↔◌, ℕ, Bool, true, false, not, cond, ◌&&◌, ◌||◌, List, [], ◌∷◌, ◌++◌, Option, Some, None, IsSome, is_some, refl, ap, sym, ◌∙◌, inl, inr, is_eq}
use Rattle.std.specs.List.{list_any}
use Rattle.std.specs.Map.{lookup}
use Rattle.std.specs.BTreeMap.{is_at}
use Rattle.std.specs.Cmp.{eq_by_cmp_equiv}
use Rattle.dep_key.specs.declared.key.Key.{Key}
use Rattle.dep_key.specs.declared.graph.Node.{Node}
use Rattle.dep_key.specs.KeyOrder.{key_order, key_order_total}
use Rattle.waves.specs.Builds.{Among, uses_in, HaveSamePrints}
use Rattle.waves.specs.Machine as machine
use Rattle.waves.specs.Machine.{woken, any_of, IsTake, IsFinish}
use Rattle.waves.proofs.Stages.{any-true, any-false, or-true, done-woken}
use Rattle.dep_key.specs.Moved.{uses_of}
use Rattle.dep_graph.specs.Moves.{is_one, node_reading}
use Rattle.dep_graph.specs.Arcs.{path_order, Files, nodes_in, uses_key}
use Rattle.wave_core.specs.declared.events.FileEvent.{FileEvent}
use Rattle.wave_core.specs.Cores.{Stages, stage_or_idle, stage_at, is_pending, is_running, is_among, ArePending, AreRunning, HasStage, AreWoken, HaveJoined, uses_one, state_of}
use Rattle.wave_core.proofs.WakingLemmas.{other-path, at-path, at-key}

-- a file that isn't idle has been asked for
pub asked-for : (stages : Stages) (f : List ℕ) (s : machine.Stage) → machine.Idle ≢ s → stage_at stages f ≡ s → IsSome (lookup (is_at (path_order f)) stages)
asked-for stages f s ne e = (elim (lookup (is_at (path_order f)) stages) as (λ o. stage_or_idle o ≡ s → is_some o ≡ true) [ None ↦ λ h. absurd (ne h) | Some stage ↦ λ h. refl ]) e

pub idle-running : machine.Idle ≢ machine.Running
idle-running e = cc

pub idle-pending : machine.Idle ≢ machine.Pending
idle-pending e = cc

pub pending-from : (s : machine.Stage) → is_pending s ≡ true → s ≡ machine.Pending
pending-from machine.Idle e = cc
pending-from machine.Pending e = refl
pending-from machine.Running e = cc
pending-from machine.Done e = cc

pub running-from : (s : machine.Stage) → is_running s ≡ true → s ≡ machine.Running
running-from machine.Idle e = cc
running-from machine.Pending e = cc
running-from machine.Running e = refl
running-from machine.Done e = cc

pub running-taken : (old new : Stages) (running more : List (List ℕ)) (file : List ℕ) → AreRunning old running → HasStage old new file machine.Running →
    ((q : List ℕ) → is_among more q ≡ cond (is_at (path_order file) q) true (is_among running q)) → AreRunning new more
running-taken old new running more file had to m = record {
  at = λ f. m f ∙ (elim (is_at (path_order file) f) as (λ v. is_at (path_order file) f ≡ v → cond v true (is_among running f) ≡ is_running (stage_at new f)) [
    | true ↦ λ e. sym (ap is_running (ap (stage_at new) (sym (at-path file f e)) ∙ to.here))
    | false ↦ λ e. had.at f ∙ ap is_running (sym (to.others f e))
  ]) refl;
}

pub running-done : (old new : Stages) (running less : List (List ℕ)) (file : List ℕ) → AreRunning old running → HasStage old new file machine.Done →
    ((q : List ℕ) → is_among less q ≡ cond (is_at (path_order file) q) false (is_among running q)) → AreRunning new less
running-done old new running less file had to m = record {
  at = λ f. m f ∙ (elim (is_at (path_order file) f) as (λ v. is_at (path_order file) f ≡ v → cond v false (is_among running f) ≡ is_running (stage_at new f)) [
    | true ↦ λ e. sym (ap is_running (ap (stage_at new) (sym (at-path file f e)) ∙ to.here))
    | false ↦ λ e. had.at f ∙ ap is_running (sym (to.others f e))
  ]) refl;
}

pub pending-taken : (old new : Stages) (pending more : List (List ℕ)) (file : List ℕ) → ArePending old pending → HasStage old new file machine.Running →
    ((q : List ℕ) → is_among more q ≡ cond (is_at (path_order file) q) false (is_among pending q)) → ArePending new more
pending-taken old new pending more file had to m = record {
  at = λ f. m f ∙ (elim (is_at (path_order file) f) as (λ v. is_at (path_order file) f ≡ v → cond v false (is_among pending f) ≡ is_pending (stage_at new f)) [
    | true ↦ λ e. sym (ap is_pending (ap (stage_at new) (sym (at-path file f e)) ∙ to.here))
    | false ↦ λ e. had.at f ∙ ap is_pending (sym (to.others f e))
  ]) refl;
}

pub pending-done : (old new : Stages) (pending : List (List ℕ)) (file : List ℕ) → ArePending old pending → HasStage old new file machine.Done → stage_at old file ≡ machine.Running → ArePending new pending
pending-done old new pending file had to running = record {
  at = λ f. had.at f ∙ (elim (is_at (path_order file) f) as (λ v. is_at (path_order file) f ≡ v → is_pending (stage_at old f) ≡ is_pending (stage_at new f)) [
    | true ↦ λ e. ap is_pending (ap (stage_at old) (sym (at-path file f e)) ∙ running) ∙ sym (ap is_pending (ap (stage_at new) (sym (at-path file f e)) ∙ to.here))
    | false ↦ λ e. ap is_pending (sym (to.others f e))
  ]) refl;
}

pub took : (files : Files) (changed : List Key) (old new : Stages) (log more : List FileEvent) (file : List ℕ) → stage_at old file ≡ machine.Pending → HasStage old new file machine.Running →
    IsTake file (state_of (files, changed, old, log)) (state_of (files, changed, new, more))
took files changed old new log more file pending to = record {
  pending = pending;
  running = to.here;
  others = λ f other. to.others f (other-path file f other);
  graph = λ f. refl;
  changed = λ k. refl;
}

pub or-true-right : (a : Bool) → true ≡ (a || true)
or-true-right true = refl
or-true-right false = refl

same-key : (k : Key) → is_eq (key_order k k) ≡ true
same-key k = (eq_by_cmp_equiv key_order_total).refl k

pub any-in : (t : Key → Bool) (ks : List Key) → list_any t ks ≡ true → (k : Key) × (is_one ks k ≡ true) × (t k ≡ true)
any-in t [] h = cc
any-in t (k ∷ ks) h = elim (or-true (t k) (list_any t ks) h) [
  | inl e ↦ (k, ap (λ b. b || is_one ks k) (same-key k), e)
  | inr e ↦ let rest : (q : Key) × (is_one ks q ≡ true) × (t q ≡ true) = any-in t ks e in (rest.0, ap (λ b. is_eq (key_order rest.0 k) || b) rest.1 ∙ sym (or-true-right (is_eq (key_order rest.0 k))), rest.2)
]

pub in-any : (t : Key → Bool) (ks : List Key) (k : Key) → is_one ks k ≡ true → t k ≡ true → list_any t ks ≡ true
in-any t [] k h e = cc
in-any t (x ∷ xs) k h e = elim (or-true (is_eq (key_order k x)) (is_one xs k) h) [
  | inl same ↦ ap (λ b. b || list_any t xs) (ap t (sym (at-key k x same)) ∙ e)
  | inr m ↦ ap (λ b. t x || b) (in-any t xs k m e) ∙ sym (or-true-right (t x))
]

pub one-of : {K : Type 0} (t : K → Bool) (ks : List K) (k : K) → Among ks k → t k ≡ true → any_of t ks ≡ true
one-of t ks k m e = (elim (any_of t ks) as (λ b. any_of t ks ≡ b → b ≡ true) [ true ↦ λ h. refl | false ↦ λ h. absurd (let bad : true ≡ false = sym e ∙ any-false t ks h k m in cc) ]) refl

pub same-test : (a b : Bool) → (a ≡ true → b ≡ true) → (b ≡ true → a ≡ true) → a ≡ b
same-test true b f g = sym (f refl)
same-test false true f g = g refl
same-test false false f g = refl

among-one : (ks : List Key) (k : Key) → is_one ks k ≡ true → Among ks k
among-one [] k h = cc
among-one (q ∷ qs) k h = elim (or-true (is_eq (key_order k q)) (is_one qs k) h) [ inl e ↦ inl (sym (at-key k q e)) | inr m ↦ inr (among-one qs k m) ]

one-among : (ks : List Key) (k : Key) → Among ks k → is_one ks k ≡ true
one-among [] k m = absurd m
one-among (q ∷ qs) k (inl e) = ap (λ b. b || is_one qs k) (ap (λ x. is_eq (key_order k x)) e ∙ same-key k)
one-among (q ∷ qs) k (inr m) = ap (λ b. is_eq (key_order k q) || b) (one-among qs k m) ∙ sym (or-true-right (is_eq (key_order k q)))

among-left : (xs ys : List Key) (k : Key) → Among xs k → Among (xs ++ ys) k
among-left [] ys k m = absurd m
among-left (x ∷ xs) ys k (inl e) = inl e
among-left (x ∷ xs) ys k (inr m) = inr (among-left xs ys k m)

among-right : (xs ys : List Key) (k : Key) → Among ys k → Among (xs ++ ys) k
among-right [] ys k m = m
among-right (x ∷ xs) ys k m = inr (among-right xs ys k m)

among-both : (xs ys : List Key) (k : Key) → Among (xs ++ ys) k → Among xs k ⊎ Among ys k
among-both [] ys k m = inr m
among-both (x ∷ xs) ys k (inl e) = inl (inl e)
among-both (x ∷ xs) ys k (inr m) = elim (among-both xs ys k m) [ inl l ↦ inl (inr l) | inr r ↦ inr r ]

among-nodes : (nodes : List Node) (k : Key) → list_any (λ n. is_one n.uses k) nodes ≡ true → Among (uses_of nodes) k
among-nodes [] k h = cc
among-nodes (n ∷ ns) k h = elim (or-true (is_one n.uses k) (list_any (λ m. is_one m.uses k) ns) h) [ inl e ↦ among-left n.uses (uses_of ns) k (among-one n.uses k e) | inr m ↦ among-right n.uses (uses_of ns) k (among-nodes ns k m) ]

nodes-among : (nodes : List Node) (k : Key) → Among (uses_of nodes) k → list_any (λ n. is_one n.uses k) nodes ≡ true
nodes-among [] k m = absurd m
nodes-among (n ∷ ns) k m = elim (among-both n.uses (uses_of ns) k m) [
  | inl l ↦ ap (λ b. b || list_any (λ m. is_one m.uses k) ns) (one-among n.uses k l)
  | inr r ↦ ap (λ b. is_one n.uses k || b) (nodes-among ns k r) ∙ sym (or-true-right (is_one n.uses k))
]

pub used : (o : Option (List Node)) (k : Key) → uses_key o k ≡ true → Among (uses_in node_reading o) k
used None k h = cc
used (Some nodes) k h = among-nodes nodes k h

pub uses : (o : Option (List Node)) (k : Key) → Among (uses_in node_reading o) k → uses_key o k ≡ true
uses None k m = absurd m
uses (Some nodes) k m = nodes-among nodes k m

pub finishes : (file : List ℕ) (nodes : List Node) (files more : Files) (changed now : List Key) (old mid new : Stages) (log more_log : List FileEvent) (keys first : List Key) →
    stage_at old file ≡ machine.Running → nodes_in more file ≡ Some nodes → ((f : List ℕ) → f ≢ file → nodes_in more f ≡ nodes_in files f) →
    ((k : Key) → (is_one keys k ≡ true) ↔ (HaveSamePrints node_reading (nodes_in files) (nodes_in more) k → ⊥)) → HaveJoined changed now keys first →
    HasStage old mid file machine.Done → AreWoken mid new (uses_one more first) →
    IsFinish node_reading file (Some nodes) (state_of (files, changed, old, log)) (state_of (more, now, new, more_log))
finishes file nodes files more changed now old mid new log more_log keys first running here others moved joined to woke = record {
  running = running;
  done = woke.at file ∙ ap (woken (uses_one more first file)) to.here ∙ done-woken (uses_one more first file);
  graph = here;
  kept = others;
  changed = λ k. (
    λ e. elim (or-true (is_one changed k) (is_one keys k) (sym (joined.held k) ∙ e)) [ inl was ↦ inl was | inr m ↦ inr ((moved k).0 m) ],
    λ why. joined.held k ∙ elim why [
      | inl was ↦ ap (λ x. x || is_one keys k) was
      | inr differ ↦ ap (λ x. is_one changed k || x) ((moved k).1 differ) ∙ sym (or-true-right (is_one changed k))
    ],
  );
  others = λ f other. woke.at f ∙ ap (woken (uses_one more first f)) (to.others f (other-path file f other)) ∙ ap (λ x. woken x (stage_at old f))
      (same-test (uses_one more first f) (any_of (λ k. is_one now k && not (is_one changed k)) (uses_in node_reading (nodes_in more f)))
      (λ e.
      let found : (k : Key) × (is_one first k ≡ true) × (uses_key (nodes_in more f) k ≡ true) = any-in (uses_key (nodes_in more f)) first e in
      one-of (λ k. is_one now k && not (is_one changed k)) (uses_in node_reading (nodes_in more f)) found.0 (used (nodes_in more f) found.0 found.2) (sym (joined.first_held found.0) ∙ found.1))
      (λ e.
      let found : (k : Key) × Among (uses_in node_reading (nodes_in more f)) k × (is_one now k && not (is_one changed k) ≡ true) = any-true (λ k. is_one now k && not (is_one changed k)) (uses_in node_reading (nodes_in more f)) e in
      in-any (uses_key (nodes_in more f)) first found.0 (joined.first_held found.0 ∙ found.2) (uses (nodes_in more f) found.0 found.1)));
}
