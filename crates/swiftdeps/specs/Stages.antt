-- Which items may come next.
use Rattle.std.specs.Prelude.{ℕ, Bool, true, false, not, ◌&&◌, ◌||◌, ◌==◌}
use Rattle.swiftdeps.specs.declared.stage.Stage.{Stage}
use Rattle.swiftdeps.specs.declared.stage.Stage.TheVariants.{Start, Version, Names, Nodes, Print, Uses, Behind}

abbrev pub takes_block : Stage → Bool
takes_block Start = true
takes_block _ = false

abbrev pub takes_version : Stage → Bool
takes_version Version = true
takes_version _ = false

abbrev pub takes_identifier : Stage → Bool
takes_identifier Names = true
takes_identifier _ = false

-- A node follows its file, or another node of the file.
abbrev pub takes_node : Stage → Bool
takes_node Nodes = true
takes_node Uses = true
takes_node _ = false

abbrev pub takes_print : Stage → Bool
takes_print Print = true
takes_print _ = false

abbrev pub takes_use : Stage → Bool
takes_use Uses = true
takes_use _ = false

abbrev pub is_behind : Stage → Bool
is_behind Behind = true
is_behind _ = false

-- A file follows the identifiers, or another file where there may be several.
abbrev pub takes_file : Bool → Stage → Bool
takes_file is_single stage = takes_identifier stage || not is_single && takes_node stage

-- The block ends behind a file, or behind the identifiers where there may be no file.
abbrev pub may_end : Bool → Stage → Bool
may_end is_single stage = takes_node stage || not is_single && takes_identifier stage

-- A text with one file graph has version 2, and one with any number of them 2 or 3.
abbrev pub is_version : Bool → ℕ → Bool
is_version is_single version = version == 2 || not is_single && version == 3
