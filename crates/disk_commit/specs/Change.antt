-- The change of a build folder to given files, and the calls by which it is made.
use Rattle.std.specs.Prelude.{ℕ, Bool, not, nat_eq, List, [], ◌∷◌, ◌++◌, filter}
use Rattle.std.specs.Cmp.Lexicographic.{pointwise}
use Rattle.std.specs.FinMap.{insert}
use Rattle.disk_images.specs.Laws.{commit_calls}
use Rattle.disk_commit.specs.Files.{folder_of, unwanted}
use Rattle.disk_commit.specs.Steps.{removals, writes}
use Rattle.disk_commit.specs.declared.files.File.{File}
use Rattle.drv_outside.specs.TreeState.{Folder}
use Rattle.drv_outside.specs.declared.types.Call.{Call}
use Rattle.ordered_lists.specs.Among.{is_among}

-- the names but that of the gate
abbrev pub others : List ℕ → List (List ℕ) → List (List ℕ)
others gate names = filter (λ name. not (pointwise nat_eq gate name)) names

-- Each name of the folder is removed that is neither the gate's nor that of a file.
abbrev pub swept : List ℕ → List (List ℕ) → List File → List (List ℕ)
swept gate names files = unwanted files (others gate names)

-- The calls that change a folder of these names, whose gate was open or not: the gate is shut, names are removed, the files are
-- written, and the gate is opened. Where it wasn't open, a record that is there is removed before.
abbrev pub changing : List ℕ → List ℕ → Bool → List (List ℕ) → List File → List Call
changing gate build_record opened names files = commit_calls gate build_record opened (is_among names build_record) (removals (swept gate names files) ++ writes files)

-- the folder of these files and an open gate
abbrev pub opened_folder : List ℕ → List File → Folder
opened_folder gate files = insert (folder_of files) gate (1 ∷ [])
