-- How the outputs of a build take the place of what stands in the build folder: the gate and the names of the folder are read,
-- and then the folder is changed.
use Rattle.std.specs.Prelude.{◌≡◌, ℕ, Bool, List, Option, IfSome, option_map}
use Rattle.std.specs.FinMap.{get, keys}
use Rattle.disk_commit.specs.Change as change
use Rattle.disk_commit.specs.declared.files.File.{File}
use Rattle.disk_images.specs.Laws.{is_open}
use Rattle.drv_outside.specs.Moments.{Stops, all_done}
use Rattle.drv_outside.specs.Reads.{OnlyReads}
use Rattle.drv_outside.specs.TreeState.{TreeState}
use Rattle.drv_outside.specs.declared.types.Call.{Call}
use Rattle.file_map.specs.declared.names.Names.{Names}
use Rattle.project_sources.specs.Calls.{ReadsPass}

-- the calls by which a folder of these names is changed to the outputs, where its gate was open or not
abbrev pub replacing : Names → Bool → List (List ℕ) → List File → List Call
replacing names opened held outputs = change.changing names.gate names.build_record opened held outputs

-- It was read whether the gate is open, and which names the folder has.
pub record IsSeen (names : Names) (opened : Bool) (held : List (List ℕ)) (before between : Option TreeState) : Type 0 where
  pub reads : ReadsPass before between
  pub gate : IfSome before (λ t. is_open (get t.folder names.gate) ≡ opened)
  pub all_names : IfSome before (λ t. held ≡ keys t.folder)

-- All calls were made.
pub record Replaces (names : Names) (outputs : List File) (before after : Option TreeState) : Type 0 where
  pub between : Option TreeState
  pub opened : Bool
  pub held : List (List ℕ)
  pub seen : IsSeen names opened held before between
  pub done : after ≡ option_map (all_done (replacing names opened held outputs)) between

-- A call failed: one that reads, or one that changes.
pub data StopsReplacing (names : Names) (outputs : List File) (before after : Option TreeState) : Type 0 where
  reading : OnlyReads before after → StopsReplacing names outputs before after
  changing : (between : Option TreeState) (opened : Bool) (held : List (List ℕ)) → IsSeen names opened held before between
      → Stops (replacing names opened held outputs) between after → StopsReplacing names outputs before after
