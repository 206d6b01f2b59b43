-- The trees of the sources.
use Rattle.std.specs.Prelude.{ℕ, List, [], ◌∷◌, map, length, take}
use Rattle.drv_outside.specs.TreeState.{bytes_at}
use Rattle.drv_outside.specs.declared.types.Entry.{Entry}
use Rattle.drv_outside.specs.declared.types.Source.{Source}
use Rattle.std.specs.List.{sum_by}
use Rattle.frontend.specs.Parsing.{IsParsed}
use Rattle.frontend.specs.declared.parsed.Parsed.{Parsed}
use Rattle.project_sources.specs.declared.sources.TheConstants.{MOST_READ}

-- The files at these paths, each with the text that the source of its path has.
abbrev pub AreParsed : List Source → List (List ℕ) → List Parsed → Type 0
AreParsed sources [] [] = Unit {0}
AreParsed sources [] (file ∷ files) = ⊥
AreParsed sources (path ∷ paths) [] = ⊥
AreParsed sources (path ∷ paths) (file ∷ files) = IsParsed path (bytes_at path sources) file × AreParsed sources paths files

-- How many bytes are read of the sources at these paths: of each one more than a file may have, at most.
abbrev pub source_bytes : List Source → List (List ℕ) → ℕ
source_bytes sources paths = sum_by (λ path. length (take MOST_READ (bytes_at path sources))) paths

abbrev pub entry_paths : List Entry → List (List ℕ)
entry_paths = map (λ (entry : Entry). entry.path)

abbrev pub source_paths : List Source → List (List ℕ)
source_paths = map (λ (source : Source). source.path)
