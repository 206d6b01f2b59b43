-- Runs of calls that change the folder, and what a crash at any of their moments leaves.
use Rattle.std.specs.Prelude.{◌≡◌, ◌⊎◌, ◌+◌, ℕ, ◌-◌, true, List, [], ◌∷◌, ◌++◌, drop, length, Option, option_map}
use Rattle.drv_outside.specs.Disk.{Folder, Disk, IsImage, Durably, after_failure}
use Rattle.drv_outside.specs.TreeState.{TreeState, disk_of, moved, done}
use Rattle.drv_outside.specs.declared.types.Call.{Call}

-- the disk at each moment that the tree tells, the present one last
abbrev pub moments : TreeState → List Disk
moments t = t.earlier ++ disk_of t ∷ []

-- the disk at each moment since one, the present one last
abbrev pub moments_since : ℕ → TreeState → List Disk
moments_since moment t = drop (length t.earlier - (length t.calls - moment)) (moments t)

-- a crash may leave this folder at one of these disks
abbrev pub AnyLeaves : List Disk → Folder → Type 0
AnyLeaves [] image = ⊥
AnyLeaves (disk ∷ disks) image = IsImage disk image ⊎ AnyLeaves disks image

-- A crash at some moment since this one may have left this folder.
abbrev pub LeftSince : ℕ → TreeState → Folder → Type 0
LeftSince moment t image = AnyLeaves (moments_since moment t) image

-- at each of these disks every crash leaves a folder that is so
abbrev pub AllDurably : (Folder → Type 0) → List Disk → Type 0
AllDurably P [] = Unit {0}
AllDurably P (disk ∷ disks) = Durably P disk × AllDurably P disks

-- A crash at any moment from before to after leaves a folder that is so.
pub record LeavesOnly (P : Folder → Type 0) (before after : TreeState) : Type 0 where
  -- the disks at the moments from before on, but for the present one
  pub since : List Disk
  pub is : after.earlier ≡ before.earlier ++ since
  pub one_each : length since + length before.calls ≡ length after.calls
  pub each : AllDurably P since
  pub now : Durably P (disk_of after)

-- the tree once these calls are done, in order
abbrev pub all_done : List Call → TreeState → TreeState
all_done [] t = t
all_done (call ∷ calls) t = all_done calls (done call t)

-- the tree once a call is listed that failed
abbrev pub failed_by : Option (List ℕ) → Call → TreeState → TreeState
failed_by found call t = moved call true (after_failure t.failed_calls_change_nothing found call (disk_of t)) t

-- A call failed: it wasn't listed and changed nothing, or it was.
pub data Fails (call : Call) (before after : Option TreeState) : Type 0 where
  unlisted : after ≡ before → Fails call before after
  listed : (found : Option (List ℕ)) → after ≡ option_map (failed_by found call) before → Fails call before after

-- Of these calls the first ones were done, in order, and then one failed.
pub record Stops (calls : List Call) (before after : Option TreeState) : Type 0 where
  pub done_calls : List Call
  pub call : Call
  pub rest : List Call
  pub is : calls ≡ done_calls ++ call ∷ rest
  pub fails : Fails call (option_map (all_done done_calls) before) after
