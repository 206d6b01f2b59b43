-- In which files keys have moved, and which key a file is traced from.
use Rattle.std.specs.Prelude.{◌≡◌, ◌≢◌, ◌↔◌, ◌⊎◌, ℕ, Bool, true, false, not, ◌&&◌, ◌||◌, List, Option, Some, None}
use Rattle.std.specs.List.{list_any}
use Rattle.std.specs.Map.{lookup}
use Rattle.std.specs.BTreeMap.{is_at}
use Rattle.std.specs.Ordering.{is_eq, is_gt}
use Rattle.dep_key.specs.declared.key.Key.{Key}
use Rattle.dep_key.specs.declared.graph.Node.{Node}
use Rattle.dep_key.specs.KeyOrder.{key_order}
use Rattle.dep_graph.specs.Moves.{is_one, node_reading}
use Rattle.dep_graph.specs.Arcs.{path_order, uses_key}
use Rattle.waves.specs.Builds.{Change, HaveSamePrints, HasMoved, IsRemoved, IsPlan, IsCause}
use Rattle.waves.specs.Machine as machine
use Rattle.waves.specs.Machine.{State, Event, IsOpening, IsTake, IsFinish, IsRun, IsComplete}
use Rattle.wave_core.specs.Cores.{Module, AreRemoved, change_of, has_print}
use Rattle.dep_trace.specs.declared.noting.Origin.{Origin}
use Rattle.dep_trace.specs.declared.noting.Origin.TheVariants.{One, Several}

-- In which files the keys that have moved did so, in order of the keys.
abbrev pub Origins : Type 0
Origins = List (Key × Origin)

-- whether a file other than this one is among those in which a key has moved
abbrev pub has_other : Option Origin → List ℕ → Bool
has_other None f = false
has_other (Some (One g)) f = not (is_at (path_order g) f)
has_other (Some Several) f = true

-- whether the key has moved in a file other than this one
abbrev pub moved_beside : Origins → List ℕ → Key → Bool
moved_beside origins f k = has_other (lookup (is_at (key_order k)) origins) f

-- The keys for which the test is true have moved in the file, and nothing else has.
pub record HaveMoved (old new : Origins) (file : List ℕ) (test : Key → Bool) : Type 0 where
  pub at : (f : List ℕ) (k : Key) → moved_beside new f k ≡ (moved_beside old f k || (not (is_at (path_order file) f) && test k))

-- whether one of the nodes has the key
abbrev pub is_named : List Node → Key → Bool
is_named nodes k = list_any (λ n. is_eq (key_order k n.key)) nodes

-- The keys for which both tests are true are found, and no others.
pub record HaveBeenFound (old new : List Key) (moved test : Key → Bool) : Type 0 where
  pub at : (k : Key) → is_one new k ≡ (is_one old k || (test k && moved k))

-- The least key that the nodes use and that has moved in a file other than this one.
pub record IsTraced (origins : Origins) (file : List ℕ) (nodes : List Node) (key : Key) : Type 0 where
  pub used : uses_key (Some nodes) key ≡ true
  pub moved : moved_beside origins file key ≡ true
  pub least : (k : Key) → uses_key (Some nodes) k ≡ true → moved_beside origins file k ≡ true → is_gt (key_order key k) ≡ false

-- A key moved in a file other than this one that was removed or is done.
pub record HasMovedBeside (c : Change (List ℕ) (List Node) Key (List ℕ)) (s : State (List ℕ) (List Node) Key) (f : List ℕ) (k : Key) : Type 0 where
  pub origin : List ℕ
  pub other : origin ≢ f
  pub changed : IsRemoved c origin ⊎ (s.stage origin ≡ machine.Done)
  pub moved : HasMoved c origin k

-- A trace tells of each file and key whether the key moved in another file that was removed or is done.
pub record Traces (c : Change (List ℕ) (List Node) Key (List ℕ)) (s : State (List ℕ) (List Node) Key) (origins : Origins) : Type 0 where
  pub at : (f : List ℕ) (k : Key) → (moved_beside origins f k ≡ true) ↔ HasMovedBeside c s f k

-- The trace of the removed files traces the opening.
abbrev pub TracesBegin : Type 0
TracesBegin = (before now : Module) (first : List ℕ → Bool) (s : State (List ℕ) (List Node) Key) (removed : List (List ℕ)) (origins : Origins) →
    IsOpening (change_of before now first) s → AreRemoved before now removed →
    ((f : List ℕ) (k : Key) → moved_beside origins f k ≡ list_any (λ g. not (is_at (path_order g) f) && has_print (before g) k) removed) → Traces (change_of before now first) s origins

-- A file that is taken moves no key.
abbrev pub TracesTake : Type 0
TracesTake = (before now : Module) (first : List ℕ → Bool) (s t : State (List ℕ) (List Node) Key) (file : List ℕ) (origins : Origins) →
    IsTake file s t → Traces (change_of before now first) s origins → Traces (change_of before now first) t origins

-- When a file is finished, and the keys whose print this changes are noted, the trace goes on.
abbrev pub TracesFinish : Type 0
TracesFinish = (before now : Module) (first : List ℕ → Bool) → IsPlan (change_of before now first) → (events : List (Event (List ℕ))) (s t : State (List ℕ) (List Node) Key) (file : List ℕ) (old new : Origins) (keys : List Key) →
    IsRun (change_of before now first) events s → IsFinish node_reading file (now file) s t → ((k : Key) → (is_one keys k ≡ true) ↔ (HaveSamePrints node_reading s.graph t.graph k → ⊥)) →
    HaveMoved old new file (is_one keys) → Traces (change_of before now first) s old → Traces (change_of before now first) t new

-- When nothing is pending or running, a file's traced key is the least of its causes, and where there is none it has no cause.
abbrev pub TracesEnd : Type 0
TracesEnd = (before now : Module) (first : List ℕ → Bool) → IsPlan (change_of before now first) → (events : List (Event (List ℕ))) (t : State (List ℕ) (List Node) Key) (origins : Origins) →
    IsRun (change_of before now first) events t → IsComplete t → Traces (change_of before now first) t origins → (f : List ℕ) (nodes : List Node) → before f ≡ Some nodes →
    ((key : Key) → IsTraced origins f nodes key → IsCause (change_of before now first) f key × ((k : Key) → IsCause (change_of before now first) f k → is_gt (key_order key k) ≡ false))
    × (((k : Key) → uses_key (Some nodes) k && moved_beside origins f k ≡ false) → (k : Key) → IsCause (change_of before now first) f k → ⊥)

abbrev pub TracesFollow : Type 0
TracesFollow = TracesBegin × TracesTake × TracesFinish × TracesEnd
