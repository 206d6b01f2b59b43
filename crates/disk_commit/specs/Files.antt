-- Files of a folder, and the folder that has them.
use Rattle.std.specs.Prelude.{ℕ, Bool, not, List, [], ◌∷◌, filter, nat_eq}
use Rattle.std.specs.List.{list_any}
use Rattle.std.specs.Cmp.Lexicographic.{pointwise}
use Rattle.std.specs.FinMap.{insert, empty}
use Rattle.drv_outside.specs.TreeState.{Folder}
use Rattle.disk_commit.specs.declared.files.File.{File}

-- whether a file has this name
abbrev pub is_named : List File → List ℕ → Bool
is_named files name = list_any (λ file. pointwise nat_eq file.name name) files

-- the names that no file has
abbrev pub unwanted : List File → List (List ℕ) → List (List ℕ)
unwanted files names = filter (λ name. not (is_named files name)) names

-- a folder with these files added, in order
abbrev pub with_files : List File → Folder → Folder
with_files [] folder = folder
with_files (file ∷ files) folder = with_files files (insert folder file.name file.bytes)

-- the folder of these files alone
abbrev pub folder_of : List File → Folder
folder_of files = with_files files empty
