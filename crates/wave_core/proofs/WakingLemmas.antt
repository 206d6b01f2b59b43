-- Files that are woken, and keys that join.
use Rattle.std.proofs.Common.{◌≡◌, ◌≢◌, ℕ, Bool, true, false, not, cond, ◌&&◌, ◌||◌, List, ◌∷◌, Some, refl, ap, sym, ◌∙◌, is_eq, Less, Equal, Greater, length, get_or, take, ◌+◌, ◌<◌}
use Rattle.std.specs.Map.{lookup}
use Rattle.std.specs.BTreeMap.{is_at}
use Rattle.std.specs.Cmp.{eq_by_cmp_equiv}
use Rattle.std.specs.Cmp.Lexicographic.{nat_list_cmp_total}
use Rattle.std.proofs.lemmas.List.Folds.{list_any_more}
use Rattle.dep_key.specs.declared.key.Key.{Key}
use Rattle.dep_key.specs.KeyOrder.{key_order, key_order_total}
use Rattle.dep_key.specs.KeysApart.{keys_apart, texts_apart}
use Rattle.waves.specs.Machine as machine
use Rattle.waves.specs.Machine.{woken}
use Rattle.dep_graph.specs.Moves.{is_one}
use Rattle.dep_graph.specs.Arcs.{path_order, Files, nodes_in, uses_key}
use Rattle.wave_core.specs.declared.stages.Stage.{Stage}
use Rattle.wave_core.specs.declared.stages.Stage.TheVariants.{Pending}
use Rattle.wave_core.specs.Cores.{stage_of, Stages, stage_or_idle, stage_at, is_idle, is_pending, is_running, is_among, uses_one, ArePending, AreRunning, HasStage, AreWoken}

pub at-path : (a b : List ℕ) → is_at (path_order a) b ≡ true → a ≡ b
at-path a b h = texts_apart a b (elim (path_order a b) as (λ r. is_eq r ≡ true → r ≡ Equal) [ Less ↦ λ h. cc | Equal ↦ λ h. refl | Greater ↦ λ h. cc ] h)

pub path-itself : (a : List ℕ) → is_at (path_order a) a ≡ true
path-itself a = (eq_by_cmp_equiv nat_list_cmp_total).refl a

pub path-flip : (a b : List ℕ) → is_at (path_order a) b ≡ is_at (path_order b) a
path-flip a b = (eq_by_cmp_equiv nat_list_cmp_total).symm a b

pub other-path : (a b : List ℕ) → b ≢ a → is_at (path_order a) b ≡ false
other-path a b ne = (elim (is_at (path_order a) b) as (λ v. is_at (path_order a) b ≡ v → v ≡ false) [ true ↦ λ e. absurd (ne (sym (at-path a b e))) | false ↦ λ e. refl ]) refl

pub at-key : (a b : Key) → is_at (key_order a) b ≡ true → a ≡ b
at-key a b h = keys_apart a b (elim (key_order a b) as (λ r. is_eq r ≡ true → r ≡ Equal) [ Less ↦ λ h. cc | Equal ↦ λ h. refl | Greater ↦ λ h. cc ] h)

pub key-flip : (a b : Key) → is_eq (key_order a b) ≡ is_eq (key_order b a)
key-flip a b = (eq_by_cmp_equiv key_order_total).symm a b

idle-from : (s : machine.Stage) → is_idle s ≡ true → s ≡ machine.Idle
idle-from machine.Idle e = refl
idle-from machine.Pending e = cc
idle-from machine.Running e = cc
idle-from machine.Done e = cc

stays-asked : (s : machine.Stage) → is_idle s ≡ false → s ≡ woken true s
stays-asked machine.Idle e = cc
stays-asked machine.Pending e = refl
stays-asked machine.Running e = refl
stays-asked machine.Done e = refl

-- an idle file that becomes pending is woken
pub woken-idle : (old new : Stages) (file : List ℕ) → is_idle (stage_at old file) ≡ true →
    ((q : List ℕ) → lookup (is_at (path_order q)) new ≡ cond (is_at (path_order file) q) (Some Pending) (lookup (is_at (path_order q)) old)) → AreWoken old new (is_at (path_order file))
woken-idle old new file idle n = record {
  at = λ f.
      ap stage_or_idle (n f)
      ∙ (elim (is_at (path_order file) f) as (λ v. is_at (path_order file) f ≡ v → stage_or_idle (cond v (Some Pending) (lookup (is_at (path_order f)) old)) ≡ woken v (stage_at old f)) [
        | true ↦ λ e. ap (woken true) (sym (ap (stage_at old) (sym (at-path file f e)) ∙ idle-from (stage_at old file) idle))
        | false ↦ λ e. refl
      ]) refl;
}

-- a file that was asked for before stays as it was
pub woken-asked : (stages : Stages) (file : List ℕ) → is_idle (stage_at stages file) ≡ false → AreWoken stages stages (is_at (path_order file))
woken-asked stages file asked = record {
  at = λ f. (elim (is_at (path_order file) f) as (λ v. is_at (path_order file) f ≡ v → stage_at stages f ≡ woken v (stage_at stages f)) [
    | true ↦ λ e. stays-asked (stage_at stages f) (ap is_idle (ap (stage_at stages) (sym (at-path file f e))) ∙ asked)
    | false ↦ λ e. refl
  ]) refl;
}

pub pending-more : (old new : Stages) (pending more : List (List ℕ)) (file : List ℕ) → ArePending old pending →
    ((q : List ℕ) → is_among more q ≡ cond (is_at (path_order file) q) true (is_among pending q)) →
    ((q : List ℕ) → lookup (is_at (path_order q)) new ≡ cond (is_at (path_order file) q) (Some Pending) (lookup (is_at (path_order q)) old)) → ArePending new more
pending-more old new pending more file had m n = record {
  at = λ f.
      m f
      ∙ (elim (is_at (path_order file) f) as (λ v. cond v true (is_among pending f) ≡ is_pending (stage_or_idle (cond v (Some Pending) (lookup (is_at (path_order f)) old)))) [ true ↦ refl | false ↦ had.at f ])
      ∙ sym (ap (λ o. is_pending (stage_or_idle o)) (n f));
}

pub woken-twice : (a b : Bool) (s : machine.Stage) → woken b (woken a s) ≡ woken (a || b) s
woken-twice true true machine.Idle = refl
woken-twice true true machine.Pending = refl
woken-twice true true machine.Running = refl
woken-twice true true machine.Done = refl
woken-twice true false s = refl
woken-twice false b s = refl

pub woken-both : (old mid new : Stages) (t u w : List ℕ → Bool) → ((f : List ℕ) → w f ≡ (t f || u f)) → AreWoken old mid t → AreWoken mid new u → AreWoken old new w
woken-both old mid new t u w both m n = record {
  at = λ f. n.at f ∙ ap (woken (u f)) (m.at f) ∙ woken-twice (t f) (u f) (stage_at old f) ∙ ap (λ b. woken b (stage_at old f)) (sym (both f));
}

pub woken-same : (old new : Stages) (t u : List ℕ → Bool) → ((f : List ℕ) → t f ≡ u f) → AreWoken old new t → AreWoken old new u
woken-same old new t u same m = record { at = λ f. m.at f ∙ ap (λ b. woken b (stage_at old f)) (same f) }

pub woken-none : (stages : Stages) (u : List ℕ → Bool) → ((f : List ℕ) → u f ≡ false) → AreWoken stages stages u
woken-none stages u none = record { at = λ f. ap (λ b. woken b (stage_at stages f)) (sym (none f)) }

-- waking the first of what is left
pub woken-left : (old mid new : Stages) (t u w all : List ℕ → Bool) → ((f : List ℕ) → w f ≡ (t f || u f)) →
    ((f : List ℕ) → woken (w f) (stage_at mid f) ≡ woken (all f) (stage_at old f)) → AreWoken mid new t →
    (f : List ℕ) → woken (u f) (stage_at new f) ≡ woken (all f) (stage_at old f)
woken-left old mid new t u w all both had step f =
    ap (woken (u f)) (step.at f) ∙ woken-twice (t f) (u f) (stage_at mid f) ∙ ap (λ b. woken b (stage_at mid f)) (sym (both f)) ∙ had f

pub files-left : (rest left : List (List ℕ)) (file : List ℕ) → rest ≡ file ∷ left → (f : List ℕ) → is_among rest f ≡ (is_at (path_order file) f || is_among left f)
files-left rest left file first f = ap (λ l. is_among l f) first ∙ ap (λ b. b || is_among left f) (path-flip f file)

pub keys-left : (files : Files) (rest left : List Key) (key : Key) → rest ≡ key ∷ left → (f : List ℕ) → uses_one files rest f ≡ (uses_key (nodes_in files f) key || uses_one files left f)
keys-left files rest left key first f = ap (λ l. uses_one files l f) first

pub one-more-file : (files : List (List ℕ)) (i : ℕ) (x : List ℕ) → i < length files → get_or files i x ≡ x → (f : List ℕ) → is_among (take (i + 1) files) f ≡ (is_among (take i files) f || is_at (path_order x) f)
one-more-file files i x less is f = list_any_more (is_at (path_order f)) files i x less ∙ ap (λ y. is_among (take i files) f || is_at (path_order f) y) is ∙ ap (λ b. is_among (take i files) f || b) (path-flip f x)

-- waking a file makes none run
running-woken-same : (b : Bool) (s : machine.Stage) → is_running s ≡ is_running (woken b s)
running-woken-same true machine.Idle = refl
running-woken-same true machine.Pending = refl
running-woken-same true machine.Running = refl
running-woken-same true machine.Done = refl
running-woken-same false s = refl

pub running-woken : (old new : Stages) (running : List (List ℕ)) (test : List ℕ → Bool) → AreWoken old new test → AreRunning old running → AreRunning new running
running-woken old new running test step had = record { at = λ f. had.at f ∙ running-woken-same (test f) (stage_at old f) ∙ sym (ap is_running (step.at f)) }

or-in : (a x : Bool) → cond a true x ≡ (x || a)
or-in true true = refl
or-in true false = refl
or-in false true = refl
or-in false false = refl

or-assoc : (a b c : Bool) → ((a || b) || c) ≡ (a || (b || c))
or-assoc true b c = refl
or-assoc false b c = refl

pub one-more-key : (keys : List Key) (i : ℕ) (x : Key) → i < length keys → get_or keys i x ≡ x → (k : Key) → is_one (take (i + 1) keys) k ≡ (is_one (take i keys) k || is_eq (key_order k x))
one-more-key keys i x less is k = list_any_more (λ q. is_eq (key_order k q)) keys i x less ∙ ap (λ y. is_one (take i keys) k || is_eq (key_order k y)) is

-- a key more is held
pub held-more : (o m n : List Key) (key : Key) (t w : Key → Bool) → ((k : Key) → w k ≡ (t k || is_eq (key_order k key))) →
    ((k : Key) → is_one m k ≡ (is_one o k || t k)) → ((k : Key) → is_one n k ≡ cond (is_at (key_order key) k) true (is_one m k)) →
    (k : Key) → is_one n k ≡ (is_one o k || w k)
held-more o m n key t w both held g k =
    g k ∙ or-in (is_at (key_order key) k) (is_one m k) ∙ ap (λ x. x || is_at (key_order key) k) (held k) ∙ ap (λ x. (is_one o k || t k) || x) (key-flip key k)
    ∙ or-assoc (is_one o k) (t k) (is_eq (key_order k key)) ∙ ap (λ x. is_one o k || x) (sym (both k))

none-before : (a b : Bool) → (a || b) ≡ false → a ≡ false
none-before true b e = cc
none-before false b e = refl

-- a key that wasn't held is one of the first
pub first-more : (o m n : List Key) (key : Key) (t : Key → Bool) (first more : List Key) →
    ((k : Key) → is_one m k ≡ (is_one o k || t k)) → ((k : Key) → is_one n k ≡ cond (is_at (key_order key) k) true (is_one m k)) →
    ((k : Key) → is_one more k ≡ cond (is_at (key_order key) k) true (is_one first k)) →
    is_one m key ≡ false → ((k : Key) → is_one first k ≡ (is_one m k && not (is_one o k))) →
    (k : Key) → is_one more k ≡ (is_one n k && not (is_one o k))
first-more o m n key t first more held g s fresh had k =
    s k
    ∙ (elim (is_at (key_order key) k) as (λ v. is_at (key_order key) k ≡ v → cond v true (is_one first k) ≡ (cond v true (is_one m k) && not (is_one o k))) [
      | true ↦ λ e.
          let same : key ≡ k = at-key key k e in
          let gone : is_one o k ≡ false = none-before (is_one o k) (t k) (sym (held k) ∙ ap (is_one m) (sym same) ∙ fresh) in
          sym (ap not gone)
      | false ↦ λ e. had k
    ]) refl
    ∙ ap (λ x. x && not (is_one o k)) (sym (g k))

-- a key that was held isn't one of them
pub first-same : (o m n : List Key) (key : Key) (first : List Key) →
    ((k : Key) → is_one n k ≡ cond (is_at (key_order key) k) true (is_one m k)) →
    is_one m key ≡ true → ((k : Key) → is_one first k ≡ (is_one m k && not (is_one o k))) →
    (k : Key) → is_one first k ≡ (is_one n k && not (is_one o k))
first-same o m n key first g there had k =
    had k ∙ (elim (is_at (key_order key) k) as (λ v. is_at (key_order key) k ≡ v → (is_one m k && not (is_one o k)) ≡ (cond v true (is_one m k) && not (is_one o k))) [
      | true ↦ λ e. ap (λ x. x && not (is_one o k)) (ap (is_one m) (sym (at-key key k e)) ∙ there)
      | false ↦ λ e. refl
    ]) refl
    ∙ ap (λ x. x && not (is_one o k)) (sym (g k))

pub absent-from : (a b : Bool) → a ≡ not b → a ≡ true → b ≡ false
absent-from a true e h = cc
absent-from a false e h = refl

pub present-from : (a b : Bool) → a ≡ not b → a ≡ false → b ≡ true
present-from a true e h = refl
present-from a false e h = cc

-- a file that has another stage
pub set-at : (old new : Stages) (file : List ℕ) (stage : Stage) →
    ((q : List ℕ) → lookup (is_at (path_order q)) new ≡ cond (is_at (path_order file) q) (Some stage) (lookup (is_at (path_order q)) old)) → HasStage old new file (stage_of stage)
set-at old new file stage n = record {
  here = ap stage_or_idle (n file ∙ ap (λ v. cond v (Some stage) (lookup (is_at (path_order file)) old)) (path-itself file));
  others = λ f e. ap stage_or_idle (n f ∙ ap (λ v. cond v (Some stage) (lookup (is_at (path_order f)) old)) e);
}
