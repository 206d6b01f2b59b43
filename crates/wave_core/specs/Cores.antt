-- How far a build is, as its core keeps it, and as a state of the machine of the crate `waves`.
use Rattle.std.specs.Prelude.{◌≡◌, ◌↔◌, ℕ, Bool, true, false, not, ◌&&◌, ◌||◌, List, map, Option, Some, None, IsSome, IsNone, is_some}
use Rattle.std.specs.List.{list_any}
use Rattle.std.specs.Map.{lookup}
use Rattle.std.specs.BTreeMap.{is_at}
use Rattle.dep_key.specs.declared.key.Key.{Key}
use Rattle.dep_key.specs.declared.graph.Node.{Node}
use Rattle.dep_graph.specs.Moves.{is_one, node_reading}
use Rattle.dep_graph.specs.Arcs.{path_order, Files, nodes_in, uses_key}
use Rattle.waves.specs.Builds.{Among, IsOnce, Graph, print_in, Change, HaveSamePrints, IsDue, IsCovered, IsCause}
use Rattle.waves.specs.Machine as machine
use Rattle.waves.specs.Machine.{IsRun, opening_graph, taken_in, finished_in}
use Rattle.wave_core.specs.declared.events.FileEvent.{FileEvent}
use Rattle.wave_core.specs.declared.events.FileEvent.TheVariants.{Take, Finish}
use Rattle.wave_core.specs.declared.stages.Stage.{Stage}
use Rattle.wave_core.specs.declared.stages.Stage.TheVariants.{Idle, Pending, Running, Done}

abbrev pub stage_of : Stage → machine.Stage
stage_of Idle = machine.Idle
stage_of Pending = machine.Pending
stage_of Running = machine.Running
stage_of Done = machine.Done

-- The stages of the files that were asked for, in order of the paths.
abbrev pub Stages : Type 0
Stages = List (List ℕ × Stage)

-- a file that was never asked for is idle
abbrev pub stage_or_idle : Option Stage → machine.Stage
stage_or_idle None = machine.Idle
stage_or_idle (Some stage) = stage_of stage

-- how far a file is
abbrev pub stage_at : Stages → List ℕ → machine.Stage
stage_at stages f = stage_or_idle (lookup (is_at (path_order f)) stages)

abbrev pub is_idle : machine.Stage → Bool
is_idle machine.Idle = true
is_idle machine.Pending = false
is_idle machine.Running = false
is_idle machine.Done = false

abbrev pub is_pending : machine.Stage → Bool
is_pending machine.Idle = false
is_pending machine.Pending = true
is_pending machine.Running = false
is_pending machine.Done = false

abbrev pub is_running : machine.Stage → Bool
is_running machine.Idle = false
is_running machine.Pending = false
is_running machine.Running = true
is_running machine.Done = false

-- whether the path is among these
abbrev pub is_among : List (List ℕ) → List ℕ → Bool
is_among paths f = list_any (is_at (path_order f)) paths

-- The set has the pending files.
pub record ArePending (stages : Stages) (pending : List (List ℕ)) : Type 0 where
  pub at : (f : List ℕ) → is_among pending f ≡ is_pending (stage_at stages f)

-- The set has the running files.
pub record AreRunning (stages : Stages) (running : List (List ℕ)) : Type 0 where
  pub at : (f : List ℕ) → is_among running f ≡ is_running (stage_at stages f)

-- The file has this stage, and the others stay as they were.
pub record HasStage (old new : Stages) (file : List ℕ) (stage : machine.Stage) : Type 0 where
  pub here : stage_at new file ≡ stage
  pub others : (f : List ℕ) → is_at (path_order file) f ≡ false → stage_at new f ≡ stage_at old f

-- Each file for which the test is true is woken, and the others stay as they were.
pub record AreWoken (old new : Stages) (test : List ℕ → Bool) : Type 0 where
  pub at : (f : List ℕ) → stage_at new f ≡ machine.woken (test f) (stage_at old f)

-- whether the file uses one of the keys
abbrev pub uses_one : Files → List Key → List ℕ → Bool
uses_one files keys f = list_any (uses_key (nodes_in files f)) keys

-- whether a file's nodes have a print of the key
abbrev pub has_print : Option (List Node) → Key → Bool
has_print nodes k = is_some (print_in node_reading nodes k)

-- The keys have joined a set. The first ones are those that it didn't have.
pub record HaveJoined (old new : List Key) (keys first : List Key) : Type 0 where
  pub held : (k : Key) → is_one new k ≡ (is_one old k || is_one keys k)
  pub first_held : (k : Key) → is_one first k ≡ (is_one new k && not (is_one old k))

-- What a core keeps: the graph as it is now, the keys that have changed, in order, the stages, and what has happened.
abbrev pub Kept : Type 0
Kept = Files × List Key × Stages × List FileEvent

-- What a core keeps, as a state of the machine: files are their paths.
abbrev pub state_of : Kept → machine.State (List ℕ) (List Node) Key
state_of kept = record { graph = nodes_in kept.0; changed = is_one kept.1; stage = stage_at kept.2 }

abbrev pub event_of : FileEvent → machine.Event (List ℕ)
event_of (Take file) = machine.Take file
event_of (Finish file) = machine.Finish file

-- What has happened, as events of the machine.
abbrev pub events_of : Kept → List (machine.Event (List ℕ))
events_of kept = map event_of kept.3

-- The files of a module: their nodes, by path.
abbrev pub Module : Type 0
Module = Graph (List ℕ) (List Node)

-- A change of a module: what was recorded, what there is now, and which files are to be built in any case.
abbrev pub change_of : Module → Module → (List ℕ → Bool) → Change (List ℕ) (List Node) Key (List ℕ)
change_of before now first = record { reading = node_reading; before = before; now = now; first = first }

-- The paths are those of the files that were removed.
pub record AreRemoved (before now : Module) (removed : List (List ℕ)) : Type 0 where
  pub at : (f : List ℕ) → (is_among removed f ≡ true) ↔ (IsSome (before f) × IsNone (now f))

-- A core has followed a change: what has happened is a run of the machine, which has led to what it keeps.
abbrev pub Follows : Change (List ℕ) (List Node) Key (List ℕ) → Kept → Type 0
Follows c kept = IsRun c (events_of kept) (state_of kept)

-- What a build has done for a change when nothing is pending or running any more, in whatever order files were taken and finished.
pub record HasBuilt (c : Change (List ℕ) (List Node) Key (List ℕ)) (kept : Kept) : Type 0 where
  -- each file that is due was taken once and finished once, and no other
  pub taken_once : IsOnce (taken_in (events_of kept))
  pub taken : (f : List ℕ) → Among (taken_in (events_of kept)) f ↔ IsDue c f
  pub finished_once : IsOnce (finished_in (events_of kept))
  pub finished : (f : List ℕ) → Among (finished_in (events_of kept)) f ↔ IsDue c f
  pub done : (f : List ℕ) → (stage_at kept.2 f ≡ machine.Done) ↔ IsDue c f
  -- files that are due have the nodes of now, and the others those that they had
  pub due : (f : List ℕ) → IsDue c f → nodes_in kept.0 f ≡ c.now f
  pub rest : (f : List ℕ) → (IsDue c f → ⊥) → nodes_in kept.0 f ≡ opening_graph c f
  -- beyond the first files each that is due used a key that moved in another one
  pub causes : (f : List ℕ) → IsDue c f → c.first f ≡ false → (k : Key) × IsCause c f k × (HaveSamePrints c.reading c.before c.now k → ⊥)
  -- where only what is due has other nodes, the graph is that of now, and the keys whose list of (file, print) isn't what it was have changed
  pub graph : IsCovered c → (f : List ℕ) → nodes_in kept.0 f ≡ c.now f
  pub changed : IsCovered c → (k : Key) → (is_one kept.1 k ≡ true) ↔ (HaveSamePrints c.reading c.before c.now k → ⊥)
