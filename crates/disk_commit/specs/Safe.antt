-- A change of the folder may be stopped by a crash at any moment.
use Rattle.std.specs.Prelude.{◌≡◌, ℕ, Bool, false, nat_eq, List, Option, Some}
use Rattle.std.specs.Cmp.Lexicographic.{pointwise}
use Rattle.std.specs.FinMap.{get, keys, empty}
use Rattle.disk_images.specs.Laws.{TrustsByGate, is_open}
use Rattle.disk_commit.specs.Change.{changing, opened_folder}
use Rattle.disk_commit.specs.Files.{is_named}
use Rattle.disk_commit.specs.declared.files.File.{File}
use Rattle.drv_outside.specs.Disk.{Folder, Durably}
use Rattle.drv_outside.specs.IfObserved.{IfObserved}
use Rattle.drv_outside.specs.Moments.{LeavesOnly, Stops, all_done}
use Rattle.drv_outside.specs.TreeState.{TreeState, disk_of}

-- What is asked of a change: the folder may be trusted as it stands, and so may the one that it is changed to.
pub record MayChange (gate build_record : List ℕ) (opened : Bool) (names : List (List ℕ)) (files : List File) (P : Folder → Type 0) (t : TreeState) : Type 0 where
  pub trusts : TrustsByGate gate build_record P
  pub apart : pointwise nat_eq gate build_record ≡ false
  pub gate_reads : is_open (get t.folder gate) ≡ opened
  pub all_names : names ≡ keys t.folder
  pub no_gate : is_named files gate ≡ false
  pub changed : P (opened_folder gate files)
  pub trusted : Durably P (disk_of t)

-- What comes of it: a crash at any moment of the change, done or stopped, leaves a folder that may be trusted, and one behind
-- the whole change leaves the changed folder.
pub record AreSafe (gate build_record : List ℕ) (opened : Bool) (names : List (List ℕ)) (files : List File) (P : Folder → Type 0) (t : TreeState) : Type 0 where
  pub done : LeavesOnly P t (all_done (changing gate build_record opened names files) t)
  pub stopped : (after : Option TreeState) → Stops (changing gate build_record opened names files) (Some t) after → IfObserved (Some t) after (LeavesOnly P)
  pub folder : (all_done (changing gate build_record opened names files) t).folder ≡ opened_folder gate files
  pub settled : (all_done (changing gate build_record opened names files) t).doubts ≡ empty

abbrev pub ChangeIsSafe : (Folder → Type 0) → Type 0
ChangeIsSafe P = (gate build_record : List ℕ) (opened : Bool) (names : List (List ℕ)) (files : List File) (t : TreeState)
    → MayChange gate build_record opened names files P t → AreSafe gate build_record opened names files P t
