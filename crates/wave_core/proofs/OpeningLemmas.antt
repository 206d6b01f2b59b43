-- A graph without the files that were removed, and the state with which a build begins.
use Rattle.std.proofs.Common.{◌≡◌, ◌≢◌, ◌↔◌, ℕ, ◌+◌, ◌<◌, Bool, true, false, cond, ◌||◌, List, [], ◌∷◌, length, get_or, take, Option, Some, None, IsSome, IsNone, is_some, refl, ap, sym, ◌∙◌, subst, inl, inr}
use Rattle.std.specs.List.{list_any}
use Rattle.std.specs.BTreeMap.{is_at}
use Rattle.std.proofs.lemmas.List.Folds.{list_any_more}
use Rattle.dep_key.specs.declared.key.Key.{Key}
use Rattle.dep_key.specs.declared.graph.Node.{Node}
use Rattle.waves.specs.Builds.{Among, uses_in, print_in, HaveSamePrints}
use Rattle.waves.specs.Machine as machine
use Rattle.waves.specs.Machine.{woken, any_of, IsOpening, opening_graph}
use Rattle.waves.proofs.Stages.{any-true, or-true, is-none}
use Rattle.dep_graph.specs.Moves.{is_one, node_reading}
use Rattle.dep_graph.specs.Arcs.{path_order, Files, nodes_in, uses_key}
use Rattle.wave_core.specs.declared.events.FileEvent.{FileEvent}
use Rattle.wave_core.specs.Cores.{Stages, is_among, has_print, uses_one, HaveJoined, AreWoken, AreRunning, AreRemoved, Module, change_of, state_of}
use Rattle.wave_core.proofs.WakingLemmas.{at-path, path-itself, woken-twice, one-more-file}
use Rattle.wave_core.proofs.FinishLemmas.{any-in, in-any, one-of, same-test, used, uses, or-true-right}

-- what is looked up once a file was taken out
pub graph-without : (files mid rest : Files) (removed : List (List ℕ)) (i : ℕ) (file : List ℕ) → i < length removed → get_or removed i file ≡ file →
    ((f : List ℕ) → nodes_in mid f ≡ cond (is_among (take i removed) f) None (nodes_in files f)) →
    nodes_in rest file ≡ None → ((f : List ℕ) → f ≢ file → nodes_in rest f ≡ nodes_in mid f) →
    (f : List ℕ) → nodes_in rest f ≡ cond (is_among (take (i + 1) removed) f) None (nodes_in files f)
graph-without files mid rest removed i file less is had here others f =
    (elim (is_at (path_order file) f) as (λ v. is_at (path_order file) f ≡ v → nodes_in rest f ≡ cond (is_among (take i removed) f || v) None (nodes_in files f)) [
      | true ↦ λ e. ap (nodes_in rest) (sym (at-path file f e)) ∙ here ∙ ap (λ b. cond b None (nodes_in files f)) (or-true-right (is_among (take i removed) f))
      | false ↦ λ e. others f (λ same. (let bad : true ≡ false = sym (path-itself file) ∙ ap (is_at (path_order file)) (sym same) ∙ e in cc)) ∙ had f ∙ ap (λ b. cond b None (nodes_in files f)) (sym (or-false-right (is_among (take i removed) f)))
    ]) refl
    ∙ ap (λ b. cond b None (nodes_in files f)) (sym (one-more-file removed i file less is f))
  where
    or-false-right : (a : Bool) → (a || false) ≡ a
    or-false-right true = refl
    or-false-right false = refl

none-has-print : (o : Option (List Node)) (k : Key) → o ≡ None → has_print o k ≡ false
none-has-print o k e = ap (λ x. has_print x k) e

-- the keys that a file had are those of which taking it out changes a print
pub keys-had : (mid rest : Files) (file : List ℕ) (keys : List Key) → nodes_in rest file ≡ None → ((f : List ℕ) → f ≢ file → nodes_in rest f ≡ nodes_in mid f) →
    ((k : Key) → (is_one keys k ≡ true) ↔ (HaveSamePrints node_reading (nodes_in mid) (nodes_in rest) k → ⊥)) → (k : Key) → is_one keys k ≡ has_print (nodes_in mid file) k
keys-had mid rest file keys here others moved k = same-test (is_one keys k) (has_print (nodes_in mid file) k)
    (λ e. (elim (has_print (nodes_in mid file) k) as (λ v. has_print (nodes_in mid file) k ≡ v → v ≡ true) [
      | true ↦ λ h. refl
      | false ↦ λ h. absurd ((moved k).0 e (record {
        at = λ f. (elim (is_at (path_order file) f) as (λ v. is_at (path_order file) f ≡ v → print_in node_reading (nodes_in mid f) k ≡ print_in node_reading (nodes_in rest f) k) [
          | true ↦ λ t. subst (λ p. print_in node_reading (nodes_in mid p) k ≡ print_in node_reading (nodes_in rest p) k) (at-path file f t) (no-print (print_in node_reading (nodes_in mid file) k) h ∙ sym (ap (λ o. print_in node_reading o k) here))
          | false ↦ λ t. ap (λ o. print_in node_reading o k) (sym (others f (λ same. (let bad : true ≡ false = sym (path-itself file) ∙ ap (is_at (path_order file)) (sym same) ∙ t in cc))))
        ]) refl;
      }))
    ]) refl)
    (λ h. (moved k).1 (λ same. (let bad : true ≡ false = sym h ∙ ap is_some (same.at file ∙ ap (λ o. print_in node_reading o k) here) in cc)))
  where
    no-print : (o : Option (List ℕ)) → is_some o ≡ false → o ≡ None
    no-print None h = refl
    no-print (Some x) h = cc

pub any-file : (t : List ℕ → Bool) (files : List (List ℕ)) → list_any t files ≡ true → (f : List ℕ) × (is_among files f ≡ true) × (t f ≡ true)
any-file t [] h = cc
any-file t (x ∷ xs) h = elim (or-true (t x) (list_any t xs) h) [
  | inl e ↦ (x, ap (λ b. b || is_among xs x) (path-itself x), e)
  | inr e ↦ let rest : (f : List ℕ) × (is_among xs f ≡ true) × (t f ≡ true) = any-file t xs e in (rest.0, ap (λ b. is_at (path_order rest.0) x || b) rest.1 ∙ sym (or-true-right (is_at (path_order rest.0) x)), rest.2)
]

pub file-any : (t : List ℕ → Bool) (files : List (List ℕ)) (f : List ℕ) → is_among files f ≡ true → t f ≡ true → list_any t files ≡ true
file-any t [] f h e = cc
file-any t (x ∷ xs) f h e = elim (or-true (is_at (path_order f) x) (is_among xs f) h) [
  | inl same ↦ ap (λ b. b || list_any t xs) (ap t (sym (at-path f x same)) ∙ e)
  | inr m ↦ ap (λ b. t x || b) (file-any t xs f m e) ∙ sym (or-true-right (t x))
]

-- whether one of the files had a print of the key
abbrev had_print : Files → List (List ℕ) → Key → Bool
had_print files removed k = list_any (λ f. has_print (nodes_in files f) k) removed

-- the keys of one file more
pub keys-without : (files mid : Files) (old new first : List Key) (removed : List (List ℕ)) (i : ℕ) (file : List ℕ) (keys : List Key) → i < length removed → get_or removed i file ≡ file →
    ((f : List ℕ) → nodes_in mid f ≡ cond (is_among (take i removed) f) None (nodes_in files f)) →
    ((k : Key) → is_one old k ≡ list_any (λ f. has_print (nodes_in files f) k) (take i removed)) →
    ((k : Key) → is_one keys k ≡ has_print (nodes_in mid file) k) → HaveJoined old new keys first →
    (k : Key) → is_one new k ≡ list_any (λ f. has_print (nodes_in files f) k) (take (i + 1) removed)
keys-without files mid old new first removed i file keys less is graph had moved joined k =
    joined.held k ∙ ap (λ b. b || is_one keys k) (had k) ∙ ap (λ b. had_print files (take i removed) k || b) (moved k ∙ ap (λ o. has_print o k) (graph file))
    ∙ (elim (is_among (take i removed) file) as (λ v. is_among (take i removed) file ≡ v → (had_print files (take i removed) k || has_print (cond v None (nodes_in files file)) k) ≡ (had_print files (take i removed) k || has_print (nodes_in files file) k)) [
      | true ↦ λ e. (elim (has_print (nodes_in files file) k) as (λ w. has_print (nodes_in files file) k ≡ w → (had_print files (take i removed) k || false) ≡ (had_print files (take i removed) k || w)) [
        | true ↦ λ h. let there : had_print files (take i removed) k ≡ true = file-any (λ f. has_print (nodes_in files f) k) (take i removed) file e h in ap (λ b. b || false) there ∙ sym (ap (λ b. b || true) there)
        | false ↦ λ h. refl
      ]) refl
      | false ↦ λ e. refl
    ]) refl
    ∙ sym (list_any_more (λ f. has_print (nodes_in files f) k) removed i file less ∙ ap (λ x. had_print files (take i removed) k || has_print (nodes_in files x) k) is)

-- a file uses one of the keys that have changed exactly where one of the keys that it uses has changed
pub uses-changed : (rest : Files) (changed : List Key) (f : List ℕ) → uses_one rest changed f ≡ any_of (is_one changed) (uses_in node_reading (nodes_in rest f))
uses-changed rest changed f = same-test (uses_one rest changed f) (any_of (is_one changed) (uses_in node_reading (nodes_in rest f)))
    (λ e.
    let found : (k : Key) × (is_one changed k ≡ true) × (uses_key (nodes_in rest f) k ≡ true) = any-in (uses_key (nodes_in rest f)) changed e in
    one-of (is_one changed) (uses_in node_reading (nodes_in rest f)) found.0 (used (nodes_in rest f) found.0 found.2) found.1)
    (λ e.
    let found : (k : Key) × Among (uses_in node_reading (nodes_in rest f)) k × (is_one changed k ≡ true) = any-true (is_one changed) (uses_in node_reading (nodes_in rest f)) e in
    in-any (uses_key (nodes_in rest f)) changed found.0 found.2 (uses (nodes_in rest f) found.0 found.1))

pub opens : (files rest : Files) (changed : List Key) (mid stages : Stages) (log : List FileEvent) (removed first : List (List ℕ)) (now : Module) → AreRemoved (nodes_in files) now removed →
    ((f : List ℕ) → nodes_in rest f ≡ cond (is_among removed f) None (nodes_in files f)) →
    ((k : Key) → is_one changed k ≡ list_any (λ f. has_print (nodes_in files f) k) removed) →
    AreWoken [] mid (is_among first) → AreWoken mid stages (uses_one rest changed) → IsOpening (change_of (nodes_in files) now (is_among first)) (state_of (rest, changed, stages, log))
opens files rest changed mid stages log removed first now gone graph keys one two = record {
  graph = λ f. graph f ∙ (elim (is_among removed f) as (λ v. is_among removed f ≡ v → cond v None (nodes_in files f) ≡ cond (is_some (now f)) (nodes_in files f) None) [
    | true ↦ λ e. sym (ap (λ o. cond (is_some o) (nodes_in files f) None) (is-none (now f) ((gone.at f).0 e).1))
    | false ↦ λ e. stays (nodes_in files f) (now f) (λ some none. (let bad : true ≡ false = sym ((gone.at f).1 (some, none)) ∙ e in cc))
  ]) refl;
  changed = λ k. (
    λ e.
        let found : (f : List ℕ) × (is_among removed f ≡ true) × (has_print (nodes_in files f) k ≡ true) = any-file (λ f. has_print (nodes_in files f) k) removed (sym (keys k) ∙ e) in
        (found.0, (gone.at found.0).0 found.1, found.2),
    λ found. keys k ∙ file-any (λ f. has_print (nodes_in files f) k) removed found.0 ((gone.at found.0).1 found.1) found.2,
  );
  stage = λ f.
      two.at f ∙ ap (woken (uses_one rest changed f)) (one.at f) ∙ woken-twice (is_among first f) (uses_one rest changed f) machine.Idle
      ∙ ap (λ b. woken (is_among first f || b) machine.Idle) (uses-changed rest changed f);
}
  where
    stays : (o p : Option (List Node)) → (IsSome o → IsNone p → ⊥) → o ≡ cond (is_some p) o None
    stays None None h = refl
    stays None (Some p) h = refl
    stays (Some n) None h = absurd (h refl refl)
    stays (Some n) (Some p) h = refl

-- none runs where none was asked for
pub none-running : AreRunning [] []
none-running = record { at = λ f. refl }
