-- What was read of a project.
use Rattle.std.specs.Prelude.{◌≡◌, ◌≢◌, ◌⊎◌, ℕ, ◌<◌, ◌≤◌, List, [], ◌∷◌, map, All, IsTrue}
use Rattle.drv_outside.specs.Plain.{is_plain_path}
use Rattle.drv_outside.specs.TreeState.{AscendByPath, entries_of}
use Rattle.drv_outside.specs.declared.types.Source.{Source}
use Rattle.swift_ast.specs.declared.declarations.FileTree.{FileTree}
use Rattle.diag_text.specs.declared.diag.Diag.{Diag}
use Rattle.frontend.specs.Parsing.{parsed_path}
use Rattle.frontend.specs.declared.parsed.Parsed.{Parsed}
use Rattle.project_sources.specs.Refusals.{listing_errors, too_large_error, form_errors, trees_of}
use Rattle.project_sources.specs.Parsed.{AreParsed, entry_paths, source_paths, source_bytes}
use Rattle.project_sources.specs.declared.listing.TheConstants.{MOST_SOURCE_BYTES}
use Rattle.project_sources.specs.declared.reading.Listing.{Listing}
use Rattle.project_sources.specs.declared.reading.Listing.TheVariants as listing
use Rattle.project_sources.specs.declared.reading.Sources.{Sources}
use Rattle.project_sources.specs.declared.reading.Sources.TheVariants as read
use Rattle.project_sources.specs.declared.sources.Files.{Files}
use Rattle.project_sources.specs.declared.sources.Files.TheVariants as files

-- The sources are listed: their list has errors, or these are all of them.
abbrev pub IsListed : List Source → Listing → Type 0
IsListed sources (listing.Refused errors) = (errors.items ≡ listing_errors (source_paths sources)) × (errors.items ≢ [])
IsListed sources (listing.Listed entries) = (entries.items ≡ entries_of sources) × (listing_errors (source_paths sources) ≡ [])

-- The listed sources stand at plain paths, which ascend.
abbrev pub ListsPlainPaths : Listing → Type 0
ListsPlainPaths (listing.Refused errors) = Unit {0}
ListsPlainPaths (listing.Listed entries) = All (λ path. IsTrue (is_plain_path path)) (entry_paths entries.items) × AscendByPath entries.items

-- The sources at these paths hold too many bytes, or hold no more than they may and are read to these files.
abbrev pub AreRead : List Source → List (List ℕ) → Files → Type 0
AreRead sources paths files.TooLarge = MOST_SOURCE_BYTES < source_bytes sources paths
AreRead sources paths (files.Parsed parsed) = AreParsed sources paths parsed.items × (source_bytes sources paths ≤ MOST_SOURCE_BYTES)

-- The files that were read stand at these paths.
abbrev pub HavePaths : List (List ℕ) → Files → Type 0
HavePaths paths files.TooLarge = Unit {0}
HavePaths paths (files.Parsed parsed) = map parsed_path parsed.items ≡ paths

-- The sources at these paths hold no more bytes than they may, and are these files.
abbrev pub HoldFiles : List Source → List (List ℕ) → List Parsed → Type 0
HoldFiles sources paths parsed = AreParsed sources paths parsed × (source_bytes sources paths ≤ MOST_SOURCE_BYTES)

-- The sources at these paths are refused for these errors: that they hold too many bytes, or those of files without a tree.
abbrev pub AreUnread : List Source → List (List ℕ) → List Diag → Type 0
AreUnread sources paths errors =
    ((MOST_SOURCE_BYTES < source_bytes sources paths) × (errors ≡ too_large_error ∷ []))
    ⊎ ((parsed : List Parsed) × HoldFiles sources paths parsed × (errors ≡ form_errors parsed) × (errors ≢ []))

-- The sources at these paths are refused, or these are the trees of all.
abbrev pub AreReadAs : List Source → List (List ℕ) → Sources → Type 0
AreReadAs sources paths (read.Refused errors) = AreUnread sources paths errors.items
AreReadAs sources paths (read.Trees trees) = (parsed : List Parsed) × HoldFiles sources paths parsed × (form_errors parsed ≡ []) × (trees.items ≡ trees_of parsed)

abbrev pub tree_paths : List FileTree → List (List ℕ)
tree_paths trees = map (λ (tree : FileTree). tree.path) trees

-- The trees stand at these paths.
abbrev pub StandAt : List (List ℕ) → Sources → Type 0
StandAt paths (read.Refused errors) = Unit {0}
StandAt paths (read.Trees trees) = tree_paths trees.items ≡ paths

-- The files are these: the errors of those without a tree, of which there are some, or the trees of all.
abbrev pub AreOfFiles : List Parsed → Sources → Type 0
AreOfFiles parsed (read.Refused errors) = (errors.items ≡ form_errors parsed) × (errors.items ≢ [])
AreOfFiles parsed (read.Trees trees) = (form_errors parsed ≡ []) × (trees.items ≡ trees_of parsed)
