-- Why a build may be stopped by a crash at any moment.
use Rattle.std.specs.Prelude.{◌≡◌, ℕ, Bool, true, false, nat_eq, List, [], ◌∷◌, ◌++◌, length, Option, Some, None}
use Rattle.std.specs.Cmp.Lexicographic.{pointwise}
use Rattle.std.specs.FinMap.{entries, get, remove}
use Rattle.drv_outside.specs.TreeState.{TreeState, Folder, disk_of}
use Rattle.drv_outside.specs.declared.types.Call.{Call}
use Rattle.drv_outside.specs.declared.types.Call.TheVariants.{Write, Remove, Sync}
use Rattle.drv_outside.specs.Disk.{Disk, IsImage, Durably, DurablyThrough, after_all, dropped, left_by_crash, settled, leave_alone}
use Rattle.drv_outside.specs.IfObserved.{IfObserved}
use Rattle.drv_outside.specs.Moments.{LeavesOnly, LeftSince, Stops, all_done}
use Rattle.drv_outside.specs.Reads.{OnlyReads}

-- whether a gate of these bytes is open: it is the byte 01
abbrev pub is_open : Option (List ℕ) → Bool
is_open None = false
is_open (Some bytes) = pointwise nat_eq bytes (1 ∷ [])

-- A driver may trust any folder that it doesn't look into: one whose gate isn't open, and one
-- without a record.
pub record TrustsByGate (gate build_record : List ℕ) (P : Folder → Type 0) : Type 0 where
  pub shut : (folder : Folder) → is_open (get folder gate) ≡ false → P folder
  pub unrecorded : (folder : Folder) → get folder build_record ≡ None → P folder

-- Where the gate isn't open, what it reads is settled, and then a record that is there is removed.
abbrev pub forgetting : Bool → List ℕ → List Call
forgetting true build_record = Sync ∷ Remove build_record ∷ Sync ∷ []
forgetting false build_record = Sync ∷ []

abbrev pub closing : Bool → Bool → List ℕ → List Call
closing true recorded build_record = []
closing false recorded build_record = forgetting recorded build_record

-- the gate is shut, and this is settled
abbrev pub withdrawal : List ℕ → List Call
withdrawal gate = Write gate (0 ∷ []) ∷ Sync ∷ []

-- what was placed is settled, and then the gate is opened, and this is settled
abbrev pub committing : List ℕ → List Call
committing gate = Sync ∷ Write gate (1 ∷ []) ∷ Sync ∷ []

-- the calls by which a build changes the folder
abbrev pub commit_calls : List ℕ → List ℕ → Bool → Bool → List Call → List Call
commit_calls gate build_record opened recorded changes = closing opened recorded build_record ++ (withdrawal gate ++ (changes ++ committing gate))

-- A build may be stopped by a crash at any moment: before each of its calls and behind the last, every
-- crash leaves a folder that may be trusted. The gate is open in the folder as it reads where `opened`
-- says so, and there is a record where `recorded` says so.
pub record CommitsFrom (gate build_record : List ℕ) (opened recorded : Bool) (changes : List Call) (P : Folder → Type 0) (disk : Disk) : Type 0 where
  pub trusts : TrustsByGate gate build_record P
  pub apart : pointwise nat_eq gate build_record ≡ false
  pub gate_reads : is_open (get disk.folder gate) ≡ opened
  pub record_reads : recorded ≡ false → get disk.folder build_record ≡ None
  pub changes_others : leave_alone gate changes ≡ true
  -- the folder that the build leaves
  pub committed : P (after_all (commit_calls gate build_record opened recorded changes) disk).folder

abbrev pub CommitIsDurable : (Folder → Type 0) → Type 0
CommitIsDurable P = (gate build_record : List ℕ) (opened recorded : Bool) (changes : List Call) (disk : Disk)
    → CommitsFrom gate build_record opened recorded changes P disk → Durably P disk
    → DurablyThrough P (commit_calls gate build_record opened recorded changes) disk

-- The folder as it reads is one that a crash may leave.
abbrev pub ReadsAsImage : Type 0
ReadsAsImage = (disk : Disk) → IsImage disk disk.folder

-- Whatever a crash chooses for the names in doubt, it leaves an image.
abbrev pub ChoiceIsImage : Type 0
ChoiceIsImage = (choice : ℕ) (disk : Disk) → IsImage disk (left_by_crash choice (entries disk.doubts) disk.folder)

-- What every image is, is so of the settled folder that a crash leaves.
abbrev pub CrashIsDurable : (Folder → Type 0) → Type 0
CrashIsDurable P = (choice : ℕ) (disk : Disk) → Durably P disk → Durably P (settled (left_by_crash choice (entries disk.doubts) disk.folder))

-- What stays so of folders as a file goes is so durably where one is removed behind the driver's back.
abbrev pub DropIsDurable : (Folder → Type 0) → Type 0
DropIsDurable P = (name : List ℕ) (disk : Disk) → ((folder : Folder) → P folder → P (remove folder name)) → Durably P disk → Durably P (dropped name disk)

-- What calls that are all done leave at each of their moments is what they durably leave.
abbrev pub DoneLeaves : (Folder → Type 0) → Type 0
DoneLeaves P = (calls : List Call) (t : TreeState) → DurablyThrough P calls (disk_of t) → LeavesOnly P t (all_done calls t)

-- So it is where one of the calls failed, whatever the failed call left.
abbrev pub StopLeaves : (Folder → Type 0) → Type 0
StopLeaves P = (calls : List Call) (t : TreeState) (after_ : Option TreeState) → DurablyThrough P calls (disk_of t) → Stops calls (Some t) after_ → IfObserved (Some t) after_ (LeavesOnly P)

-- Calls that read leave what was durably so.
abbrev pub ReadsLeave : (Folder → Type 0) → Type 0
ReadsLeave P = (t : TreeState) (after_ : Option TreeState) → Durably P (disk_of t) → OnlyReads (Some t) after_ → IfObserved (Some t) after_ (LeavesOnly P)

-- One run of calls behind another is a run.
abbrev pub LeavesCompose : (Folder → Type 0) → Type 0
LeavesCompose P = (t u v : TreeState) → LeavesOnly P t u → LeavesOnly P u v → LeavesOnly P t v

-- Every folder that a crash since the beginning of a run may have left is so.
abbrev pub EachImageIsSo : (Folder → Type 0) → Type 0
EachImageIsSo P = (t u : TreeState) → LeavesOnly P t u → (image : Folder) → LeftSince (length t.calls) u image → P image
