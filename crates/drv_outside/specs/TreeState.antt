-- What a tree tells of itself, and what each call makes of it.
use Rattle.std.specs.Prelude.{◌≡◌, ◌⊎◌, ◌+◌, ℕ, Bool, true, false, List, [], ◌∷◌, ◌++◌, map, length, Option, Some, None, option_map, nat_eq, nat_le, ◌||◌, if◌then◌else◌}
use Rattle.std.specs.List.{list_any}
use Rattle.std.specs.List.Sorted.{IsStrictlySortedBy}
use Rattle.std.specs.Ordering.{nat_cmp}
use Rattle.std.specs.Cmp.Lexicographic.{slice_cmp, pointwise}
pub use Rattle.drv_outside.specs.Disk.{Folder, with_file, folder_left}
use Rattle.drv_outside.specs.Disk.{Disk, Doubts, doubted, after}
use Rattle.drv_outside.specs.declared.types.Entry.{Entry}
use Rattle.drv_outside.specs.declared.types.Source.{Source}
use Rattle.drv_outside.specs.declared.types.Call.{Call}
use Rattle.drv_outside.specs.declared.types.TreeEnd.{TreeEnd}
use Rattle.drv_outside.specs.declared.types.TreeEnd.TheVariants.{Failed, NoMemory}
use Rattle.drv_outside.specs.declared.types.Call.TheVariants.{Write, Remove, Sync}

-- Which calls are to fail. Calls are counted as they are listed, from 0 from the place in the list
-- of calls at which the setting was made.
pub record Settings : Type 0 where
  -- the calls with these numbers
  pub fail_calls : List ℕ
  pub fail_calls_since : ℕ
  -- every call once so many have passed
  pub stop_after : Option ℕ
  pub stop_after_since : ℕ

-- What a tree holds and was asked.
pub record TreeState : Type 0 where
  -- the sources, in byte order of path, each path once
  pub sources : List Source
  -- the output file maps by path
  pub maps : Folder
  -- every path, stamp and bytes that was ever a source
  pub book : List Source
  -- the build folder
  pub folder : Folder
  -- the names of it that a crash may leave otherwise
  pub doubts : Doubts
  -- A moment is a number of listed calls. The disk at each moment that the tree tells, from the
  -- oldest to the one before the present.
  pub earlier : List Disk
  -- the calls made, and beside each whether it failed
  pub calls : List Call
  pub failed : List Bool
  -- whether a failed call leaves what reads give
  pub failed_calls_change_nothing : Bool
  -- which calls are to fail
  pub settings : Settings

abbrev pub entries_of : List Source → List Entry
entries_of = map (λ s. record { path = s.path; stamp = s.stamp })

-- each path is below those after it, byte by byte
abbrev pub AscendByPath : List Entry → Type 0
AscendByPath entries = IsStrictlySortedBy (slice_cmp nat_cmp) (map (λ e. e.path) entries)

-- the bytes of the source at a path, and none where there is no such source
abbrev pub bytes_at : List ℕ → List Source → List ℕ
bytes_at path [] = []
bytes_at path (s ∷ rest) = if pointwise nat_eq path s.path then s.bytes else bytes_at path rest

-- whether a stop lets no call pass that has this place in the list of calls
abbrev pub is_stopped : Option ℕ → ℕ → ℕ → Bool
is_stopped None since place = false
is_stopped (Some passing) since place = nat_le (since + passing) place

-- whether the call that has this place in the list of calls is to fail
abbrev pub fails_at : Settings → ℕ → Bool
fails_at s place = list_any (λ number. nat_eq (s.fail_calls_since + number) place) s.fail_calls || is_stopped s.stop_after s.stop_after_since place

-- whether the next call that is listed is to fail
abbrev pub fails_next : TreeState → Bool
fails_next t = fails_at t.settings (length t.calls)

-- the disk at present
abbrev pub disk_of : TreeState → Disk
disk_of t = record { folder = t.folder; doubts = t.doubts }

-- once a call is listed that leaves this disk: a moment has passed
abbrev pub moved : Call → Bool → Disk → TreeState → TreeState
moved call failed disk t = record t {
  folder = disk.folder;
  doubts = disk.doubts;
  earlier = t.earlier ++ disk_of t ∷ [];
  calls = t.calls ++ call ∷ [];
  failed = t.failed ++ failed ∷ [];
}

-- once a call is listed that leaves the disk as it is
abbrev pub listed : Call → Bool → TreeState → TreeState
listed call failed t = moved call failed (disk_of t) t

-- once a call is done
abbrev pub done : Call → TreeState → TreeState
done call t = moved call false (after call (disk_of t)) t

-- once a file is written
abbrev pub written : List ℕ → List ℕ → TreeState → TreeState
written name bytes t = done (Write name bytes) t

-- once a file is removed
abbrev pub removed : List ℕ → TreeState → TreeState
removed name t = done (Remove name) t

-- once all is settled
abbrev pub synced : TreeState → TreeState
synced t = done Sync t

-- whether an answer says that the tree failed
abbrev pub is_failed : TreeEnd → Bool
is_failed Failed = true
is_failed NoMemory = false

-- A call that changes no file and gave no answer: it wasn't listed, or it was, and then changed
-- nothing else.
abbrev pub UnlistedOr : Call → Bool → Option TreeState → Option TreeState → Type 0
UnlistedOr call failed before after = (after ≡ before) ⊎ (after ≡ option_map (listed call failed) before)

-- A call that reads and gave no answer changes nothing but the list of calls. Where the tree failed
-- it is listed as failed; where memory was wanted it may not be listed.
abbrev pub ReadEnds : Call → TreeEnd → Option TreeState → Option TreeState → Type 0
ReadEnds call Failed before after = after ≡ option_map (listed call true) before
ReadEnds call NoMemory before after = UnlistedOr call false before after

-- A write or removal that failed: it wasn't listed and changed nothing, or it was, and the name
-- is in doubt.
pub data FailsToChange (name : List ℕ) (call : Call) (before after : Option TreeState) : Type 0 where
  unlisted : after ≡ before → FailsToChange name call before after
  left : (found : Option (List ℕ)) → after ≡ option_map (λ t. moved call true (record { folder = folder_left t.failed_calls_change_nothing t.folder name found; doubts = doubted (disk_of t) name }) t) before → FailsToChange name call before after
