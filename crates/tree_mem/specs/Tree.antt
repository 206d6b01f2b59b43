-- What a tree in memory tells, and what each change makes of it.
use Rattle.std.specs.Prelude.{◌≡◌, ◌++◌, [], ◌∷◌, ℕ, Bool, true, List, length, ⊤}
use Rattle.std.specs.FinMap.{empty, entries, insert}
use Rattle.drv_outside.specs.Disk.{dropped, left_by_crash}
use Rattle.drv_outside.specs.TreeState.{TreeState, disk_of}
use Rattle.drv_outside.specs.declared.types.Source.{Source}
use Rattle.drv_outside.specs.declared.types.Stamp.{Stamp}
use Rattle.tree_mem.specs.Disk.{disk_now, earlier_disks}
use Rattle.tree_mem.specs.Failures.{failing, no_failures, settings_of, stopping_after}
use Rattle.tree_mem.specs.MemSources.{sources_of}
use Rattle.tree_mem.specs.Sources.{with_source, without_source}
use Rattle.tree_mem.specs.declared.tree.MemTree.{MemTree}
use Rattle.tree_mem.specs.declared.tree.PutEnd.{PutEnd}
use Rattle.tree_mem.specs.declared.tree.PutEnd.TheVariants.{StampReused, NoMemory}

abbrev pub state_of : MemTree → TreeState
state_of m = record {
  sources = sources_of m.sources;
  maps = m.maps;
  book = m.book.items;
  folder = (disk_now m.disk).folder;
  doubts = (disk_now m.disk).doubts;
  earlier = earlier_disks m.disk;
  calls = m.calls.items;
  failed = m.failed.items;
  failed_calls_change_nothing = true;
  settings = settings_of m.failures;
}

-- how often a call has failed
abbrev pub faults_of : MemTree → ℕ
faults_of m = m.faults

-- whether the latest call found no memory
abbrev pub is_dry : MemTree → Bool
is_dry m = m.dry

-- the count of faults and the answer of `dry` stay
abbrev pub Untouched : MemTree → MemTree → Type 0
Untouched before after = (faults_of after ≡ faults_of before) × (is_dry after ≡ is_dry before)

-- what a new tree tells
abbrev pub new_tree : TreeState
new_tree = record {
  sources = [];
  maps = empty;
  book = [];
  folder = empty;
  doubts = empty;
  earlier = [];
  calls = [];
  failed = [];
  failed_calls_change_nothing = true;
  settings = no_failures;
}

-- once a source is put
abbrev pub with_put : Source → TreeState → TreeState
with_put source t = record t { sources = with_source source t.sources; book = t.book ++ source ∷ [] }

-- once the source at a path is removed
abbrev pub with_removed : List ℕ → TreeState → TreeState
with_removed path t = record t { sources = without_source path t.sources }

-- Once a file is dropped. This is settled at once, and of earlier moments nothing is told any more.
abbrev pub with_dropped : List ℕ → TreeState → TreeState
with_dropped name t = record t { folder = (dropped name (disk_of t)).folder; doubts = (dropped name (disk_of t)).doubts; earlier = [] }

-- once the calls with these numbers, counted from now on, are to fail
abbrev pub with_failures : List ℕ → TreeState → TreeState
with_failures numbers t = record t { settings = failing numbers (length t.calls) t.settings }

-- once every call is to fail when so many have passed, counted from now on
abbrev pub with_stop : ℕ → TreeState → TreeState
with_stop calls t = record t { settings = stopping_after calls (length t.calls) t.settings }

-- once an output file map is set
abbrev pub with_map : List ℕ → List ℕ → TreeState → TreeState
with_map path bytes t = record t { maps = insert t.maps path bytes }

-- Once the machine crashed, with this choice for the names in doubt: what the crash left is settled,
-- no call is to fail, and of earlier moments nothing is told any more.
abbrev pub with_crash : ℕ → TreeState → TreeState
with_crash choice t = record t {
  folder = left_by_crash choice (entries t.doubts) t.folder;
  doubts = empty;
  earlier = [];
  settings = no_failures;
}

-- An answer that a stamp is reused names the path and the stamp, and comes only where it is.
abbrev pub TellsReuse : PutEnd → List ℕ → Stamp → Bool → Type 0
TellsReuse (StampReused told_path told_stamp) path stamp reused = (told_path ≡ path) × (told_stamp ≡ stamp) × (reused ≡ true)
TellsReuse NoMemory path stamp reused = ⊤
