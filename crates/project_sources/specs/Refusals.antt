-- Why the sources of a project are refused, and the trees that they have where they aren't.
use Rattle.std.specs.Prelude.{◌≡◌, ◌≢◌, ℕ, ◌<◌, ◌≤◌, not, nat_le, List, [], ◌∷◌, ◌++◌, map, filter, flat_map, length, codes, decimal, if◌then◌else◌}
use Rattle.diag_text.specs.declared.diag.Diag.{Diag}
use Rattle.drv_outside.specs.Plain.{is_plain_path}
use Rattle.drv_outside.specs.declared.types.Source.{Source}
use Rattle.swift_ast.specs.declared.declarations.FileTree.{FileTree}
use Rattle.frontend.specs.declared.parsed.Parsed.{Parsed}
use Rattle.frontend.specs.declared.parsed.Parsed.TheVariants.{Tree, NoTree}
use Rattle.project_sources.specs.Parsed.{AreParsed, source_paths, source_bytes}
use Rattle.project_sources.specs.declared.listing.TheConstants.{MOST_SOURCES, MOST_SOURCE_BYTES}

-- an error without a place
abbrev pub unplaced : List ℕ → Diag
unplaced text = record { path = []; line = 0; column = 0; text = text }

abbrev pub not_plain_error : List ℕ → Diag
not_plain_error path = unplaced (codes "'" ++ path ++ codes "' is not a plain path")

abbrev pub too_many_error : ℕ → Diag
too_many_error count = unplaced (decimal count ++ codes " source files, at most " ++ decimal MOST_SOURCES)

abbrev pub too_large_error : Diag
too_large_error = unplaced (codes "source files hold more than " ++ decimal MOST_SOURCE_BYTES ++ codes " bytes")

abbrev pub not_plain_errors : List (List ℕ) → List Diag
not_plain_errors paths = map not_plain_error (filter (λ path. not (is_plain_path path)) paths)

-- The errors of the list of sources: more than `MOST_SOURCES` of them, else each path that isn't plain.
abbrev pub listing_errors : List (List ℕ) → List Diag
listing_errors paths = if nat_le (length paths) MOST_SOURCES then not_plain_errors paths else too_many_error (length paths) ∷ []

-- The errors of files without a tree.
abbrev pub form_error : Parsed → List Diag
form_error (Tree file) = []
form_error (NoTree error) = error ∷ []

abbrev pub form_errors : List Parsed → List Diag
form_errors = flat_map form_error

abbrev pub tree_of : Parsed → List FileTree
tree_of (Tree file) = file ∷ []
tree_of (NoTree error) = []

abbrev pub trees_of : List Parsed → List FileTree
trees_of = flat_map tree_of

-- The sources are refused for these errors: those of their list, else that they hold too many bytes, or else those of their
-- files without a tree.
pub data IsRefused (sources : List Source) (errors : List Diag) : Type 0 where
  listing : errors ≡ listing_errors (source_paths sources) → errors ≢ [] → IsRefused sources errors
  size : listing_errors (source_paths sources) ≡ [] → MOST_SOURCE_BYTES < source_bytes sources (source_paths sources) → errors ≡ too_large_error ∷ [] → IsRefused sources errors
  forms : listing_errors (source_paths sources) ≡ [] → source_bytes sources (source_paths sources) ≤ MOST_SOURCE_BYTES → (files : List Parsed) → AreParsed sources (source_paths sources) files
      → errors ≡ form_errors files → errors ≢ [] → IsRefused sources errors

-- There are no errors in the list of the sources, they hold no more bytes than sources may, and each has a tree, which are these.
pub record HaveTrees (sources : List Source) (trees : List FileTree) : Type 0 where
  pub listing : listing_errors (source_paths sources) ≡ []
  pub size : source_bytes sources (source_paths sources) ≤ MOST_SOURCE_BYTES
  pub files : List Parsed
  pub parsed : AreParsed sources (source_paths sources) files
  pub forms : form_errors files ≡ []
  pub is : trees ≡ trees_of files
