-- The calls by which a build folder is changed, step by step.
use Rattle.std.specs.Prelude.{ℕ, List, [], ◌∷◌, ◌++◌, map}
use Rattle.drv_outside.specs.declared.types.Call.{Call}
use Rattle.drv_outside.specs.declared.types.Call.TheVariants.{Write, Remove, Sync}
use Rattle.disk_commit.specs.declared.files.File.{File}

-- each of these names is removed
abbrev pub removals : List (List ℕ) → List Call
removals names = map (λ name. Remove name) names

-- each of these files is written
abbrev pub writes : List File → List Call
writes files = map (λ file. Write file.name file.bytes) files
