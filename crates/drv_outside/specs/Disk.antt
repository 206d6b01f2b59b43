-- A folder on a disk, and what a crash of the machine may leave of it.
use Rattle.std.specs.Prelude.{◌≡◌, ◌==◌, ◌/◌, ◌%◌, if◌then◌else◌, ℕ, Bool, true, false, cond, not, nat_eq, List, [], ◌∷◌, Option, Some, None}
use Rattle.std.specs.List.{list_all}
use Rattle.std.specs.Ordering.{nat_cmp}
use Rattle.std.specs.Cmp.Lexicographic.{slice_cmp, pointwise}
use Rattle.std.specs.FinMap.{FinMap, get, insert, remove, empty, contains_key}
use Rattle.drv_outside.specs.declared.types.Call.{Call}
use Rattle.drv_outside.specs.declared.types.Call.TheVariants.{Write, Remove, Sync}

-- the bytes under each name
abbrev pub Folder : Type 0
Folder = FinMap (slice_cmp nat_cmp) (List ℕ)

-- the folder with this under the name, and elsewhere as it was
abbrev pub with_file : Folder → List ℕ → Option (List ℕ) → Folder
with_file folder name (Some bytes) = insert folder name bytes
with_file folder name None = remove folder name

-- the folder after a call on a name failed: as it was, where failed calls change nothing, else
-- something stands under the name, or nothing
abbrev pub folder_left : Bool → Folder → List ℕ → Option (List ℕ) → Folder
folder_left true folder name found = folder
folder_left false folder name found = with_file folder name found

-- the names in doubt, each with what it had when it was last settled
abbrev pub Doubts : Type 0
Doubts = FinMap (slice_cmp nat_cmp) (Option (List ℕ))

-- A folder on a disk: what reads give, and the names that a crash may leave otherwise.
pub record Disk : Type 0 where
  pub folder : Folder
  pub doubts : Doubts

abbrev pub in_doubt : Disk → List ℕ → Bool
in_doubt disk name = contains_key disk.doubts name

-- A crash may leave this folder: each name that isn't in doubt as it reads, and each name in doubt,
-- by itself, with any bytes or none.
pub record IsImage (disk : Disk) (image : Folder) : Type 0 where
  pub at : (name : List ℕ) → in_doubt disk name ≡ false → get image name ≡ get disk.folder name

-- Every folder that a crash may leave is so, and with them the folder as it reads.
pub record Durably (P : Folder → Type 0) (disk : Disk) : Type 0 where
  pub at : (image : Folder) → IsImage disk image → P image

-- the names in doubt once this one is too
abbrev pub doubted : Disk → List ℕ → Doubts
doubted disk name = cond (in_doubt disk name) disk.doubts (insert disk.doubts name (get disk.folder name))

-- all is settled as it reads
abbrev pub settled : Folder → Disk
settled folder = record { folder = folder; doubts = empty }

-- the disk once a call is done
abbrev pub after : Call → Disk → Disk
after (Write name bytes) disk = record { folder = insert disk.folder name bytes; doubts = doubted disk name }
after (Remove name) disk = record { folder = remove disk.folder name; doubts = doubted disk name }
after Sync disk = settled disk.folder
after call disk = disk

-- The disk once a call failed: a name that was to be written or removed is in doubt. Where failed
-- calls may change something, something is found under it, or nothing.
abbrev pub after_failure : Bool → Option (List ℕ) → Call → Disk → Disk
after_failure as_it_was found (Write name bytes) disk = record { folder = folder_left as_it_was disk.folder name found; doubts = doubted disk name }
after_failure as_it_was found (Remove name) disk = record { folder = folder_left as_it_was disk.folder name found; doubts = doubted disk name }
after_failure as_it_was found call disk = disk

-- the disk once these calls are done, in order
abbrev pub after_all : List Call → Disk → Disk
after_all [] disk = disk
after_all (call ∷ calls) disk = after_all calls (after call disk)

-- Before each of these calls, and once all are done, every crash leaves a folder that is so.
abbrev pub DurablyThrough : (Folder → Type 0) → List Call → Disk → Type 0
DurablyThrough P [] disk = Durably P disk
DurablyThrough P (call ∷ calls) disk = Durably P disk × DurablyThrough P calls (after call disk)

-- whether a call writes or removes this name
abbrev pub changes : List ℕ → Call → Bool
changes name (Write at bytes) = pointwise nat_eq at name
changes name (Remove at) = pointwise nat_eq at name
changes name call = false

-- none of these calls writes or removes this name
abbrev pub leave_alone : List ℕ → List Call → Bool
leave_alone name calls = list_all (λ call. not (changes name call)) calls

-- the disk once a file is removed behind the driver's back, which is settled at once
abbrev pub dropped : List ℕ → Disk → Disk
dropped name disk = record { folder = remove disk.folder name; doubts = remove disk.doubts name }

-- What a crash leaves under a name in doubt: what it reads, what it had when it was last settled,
-- nothing, or the single byte 01.
abbrev pub chosen : ℕ → Option (List ℕ) → Option (List ℕ) → Option (List ℕ)
chosen digit reads was = if digit == 0 then reads else if digit == 1 then was else if digit == 2 then None else Some (1 ∷ [])

-- what a crash leaves by a choice of one base-4 digit, least first, for each name in doubt
abbrev pub left_by_crash : ℕ → List (List ℕ × Option (List ℕ)) → Folder → Folder
left_by_crash choice [] folder = folder
left_by_crash choice (doubt ∷ doubts) folder = left_by_crash (choice / 4) doubts (with_file folder doubt.0 (chosen (choice % 4) (get folder doubt.0) doubt.1))
