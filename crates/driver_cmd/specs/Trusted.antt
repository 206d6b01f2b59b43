-- Which build folders may be trusted: those whose gate tells that they can't be, and those that a clean build left.
--
-- A driver may be stopped, and a crash may leave any bytes under the names that weren't settled. A folder that may be trusted
-- is one that no later build is misled by: its gate isn't open, or it has no record, or it is the clean folder of sources that
-- there once were, of which files may be gone.
use Rattle.std.specs.Prelude.{◌≡◌, ◌⊎◌, ℕ, false, List, [], Option, Some, None, IfSome}
use Rattle.std.specs.List.{Contains}
use Rattle.std.specs.FinMap.{get}
use Rattle.disk_images.specs.Laws.{is_open}
use Rattle.driver_build.specs.CleanFolder.{IsCleanFolder}
use Rattle.driver_build.specs.Wanted.{wanted_of}
use Rattle.drv_outside.specs.Disk.{Durably}
use Rattle.drv_outside.specs.IfObserved.{IfObserved}
use Rattle.drv_outside.specs.Moments.{LeavesOnly}
use Rattle.drv_outside.specs.TreeState.{TreeState, Folder, disk_of, entries_of}
use Rattle.drv_outside.specs.declared.types.Source.{Source}
use Rattle.file_map.specs.declared.names.Names.{Names}
use Rattle.project_sources.specs.Refusals.{HaveTrees}
use Rattle.swift_ast.specs.declared.declarations.FileTree.{FileTree}

-- the names of a module's own outputs, which don't depend on its sources
abbrev pub module_names : List ℕ → Names
module_names name = (wanted_of name []).names

-- each of these sources is one of the book
abbrev pub AreBooked : List Source → List Source → Type 0
AreBooked book sources = (source : Source) → Contains sources source → Contains book source

-- A folder has of another each file, or has it no more.
abbrev pub IsPartOf : Folder → Folder → Type 0
IsPartOf whole folder = (name bytes : List ℕ) → get whole name ≡ Some bytes → (get folder name ≡ None) ⊎ (get folder name ≡ Some bytes)

-- A folder may be trusted by builds of a module, where these are all sources that there ever were.
pub data MayBeTrusted (name : List ℕ) (book : List Source) (folder : Folder) : Type 0 where
  shut : is_open (get folder (module_names name).gate) ≡ false → MayBeTrusted name book folder
  unrecorded : get folder (module_names name).build_record ≡ None → MayBeTrusted name book folder
  left : (sources : List Source) (trees : List FileTree) (whole : Folder) → AreBooked book sources → HaveTrees sources trees → IsCleanFolder (wanted_of name (entries_of sources)) trees whole
      → IsPartOf whole folder → MayBeTrusted name book folder

-- Where the book has the sources, and a crash could only have left a folder that may be trusted, a crash at any moment of the
-- build could only leave one, and so could one after it.
abbrev pub StaysTrusted : List ℕ → Option TreeState → Option TreeState → Type 0
StaysTrusted name before after =
    IfSome before (λ t. AreBooked t.book t.sources → Durably (MayBeTrusted name t.book) (disk_of t) → IfObserved before after (LeavesOnly (MayBeTrusted name t.book)))
