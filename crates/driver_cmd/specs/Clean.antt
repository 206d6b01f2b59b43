-- What a build from nothing gives: its error lines, and what it leaves in the build folder.
use Rattle.std.specs.Prelude.{◌≡◌, ◌≢◌, ℕ, List, [], Option, Some, None}
use Rattle.std.specs.FinMap.{empty}
use Rattle.diag_text.specs.Line.{lines_of}
use Rattle.diag_text.specs.declared.diag.Diag.{Diag}
use Rattle.driver_build.specs.Building.{module_errors}
use Rattle.driver_build.specs.CleanFolder.{IsCleanFolder}
use Rattle.driver_build.specs.Wanted.{wanted_of}
use Rattle.drv_outside.specs.Reads.{OnlyReads}
use Rattle.drv_outside.specs.TreeState.{TreeState, Folder, entries_of}
use Rattle.drv_outside.specs.declared.types.Source.{Source}
use Rattle.project_sources.specs.Calls.{PassedCalls, AreSynced}
use Rattle.project_sources.specs.Refusals.{IsRefused, HaveTrees}
use Rattle.swift_ast.specs.declared.declarations.FileTree.{FileTree}

-- What a clean build gives.
pub record Clean : Type 0 where
  -- the error lines
  pub lines : List ℕ
  -- what the build folder has, and None where it is left as it was
  pub folder : Option Folder

abbrev pub refusal : List Diag → Clean
refusal errors = record { lines = lines_of errors; folder = None }

abbrev pub build_of : List FileTree → Folder → Clean
build_of trees folder = record { lines = lines_of (module_errors trees); folder = Some folder }

-- The clean build of a module with these sources. Where they are refused, the errors are all that there is. Else there are
-- the errors of the module, and its clean folder.
pub data IsClean (name : List ℕ) (sources : List Source) (clean : Clean) : Type 0 where
  refused : (errors : List Diag) → IsRefused sources errors → clean ≡ refusal errors → IsClean name sources clean
  built : (trees : List FileTree) (folder : Folder) → HaveTrees sources trees → IsCleanFolder (wanted_of name (entries_of sources)) trees folder → clean ≡ build_of trees folder
      → IsClean name sources clean

-- The clean build of the sources is so.
pub record ForCleanBuild (name : List ℕ) (sources : List Source) (P : Clean → Type 0) : Type 0 where
  pub clean : Clean
  pub is : IsClean name sources clean
  pub so : P clean

-- the build folder after a clean build, where it was this before
abbrev pub folder_after : Folder → Option Folder → Folder
folder_after before None = before
folder_after before (Some folder) = folder

-- The build folder of `u` is the one that the clean build leaves, or that of `t` where it leaves it as it was.
abbrev pub IsLeftBy : Clean → TreeState → TreeState → Type 0
IsLeftBy clean t u = u.folder ≡ folder_after t.folder clean.folder

-- A tree that had the sources of `t`, with `u` after it: the clean build of the sources has these lines and leaves the
-- build folder. Where it leaves it as it was, calls read alone, and else no name of it is in doubt. No call failed or left
-- changes without a sync.
pub record LeavesCleanBuild (name lines : List ℕ) (before after : Option TreeState) (t u : TreeState) : Type 0 where
  pub clean : Clean
  pub is : IsClean name t.sources clean
  pub has_lines : clean.lines ≡ lines
  pub folder : IsLeftBy clean t u
  pub untouched : clean.folder ≡ None → OnlyReads before after
  pub settled : clean.folder ≢ None → u.doubts ≡ empty
  pub synced : PassedCalls AreSynced t u
