-- What was read of a project, and what a build of it does.
use Rattle.std.specs.Prelude.{◌≡◌, ℕ, List, [], Option, All, IsTrue}
use Rattle.driver_build.specs.Building.{AreMade}
use Rattle.driver_build.specs.Replacing.{Replaces, StopsReplacing}
use Rattle.driver_build.specs.declared.building.Made.{Made}
use Rattle.drv_outside.specs.Plain.{is_plain_path}
use Rattle.drv_outside.specs.TreeState.{TreeState, AscendByPath, entries_of}
use Rattle.drv_outside.specs.declared.types.Entry.{Entry}
use Rattle.drv_outside.specs.declared.types.Source.{Source}
use Rattle.project_sources.specs.Parsed.{entry_paths}
use Rattle.project_sources.specs.Reading.{tree_paths}
use Rattle.project_sources.specs.Refusals.{IsRefused, HaveTrees}
use Rattle.swift_ast.specs.declared.declarations.FileTree.{FileTree}
use Rattle.driver_cmd.specs.declared.build.Project.{Project}
use Rattle.driver_cmd.specs.declared.build.Project.TheVariants.{Refused, Read}

-- The project has these sources.
abbrev pub IsReadFrom : List Source → Project → Type 0
IsReadFrom sources (Refused errors) = IsRefused sources errors.items
IsReadFrom sources (Read entries trees) = (entries.items ≡ entries_of sources) × HaveTrees sources trees.items

-- Sources stand at plain paths, which ascend, and these are the paths of the trees.
pub record AreInOrder (entries : List Entry) (trees : List FileTree) : Type 0 where
  pub plain : All (λ path. IsTrue (is_plain_path path)) (entry_paths entries)
  pub ascending : AscendByPath entries
  pub each : tree_paths trees ≡ entry_paths entries

abbrev pub IsInOrder : Project → Type 0
IsInOrder (Refused errors) = Unit {0}
IsInOrder (Read entries trees) = AreInOrder entries.items trees.items

-- The outputs of a module with these sources took the place of what stood in the folder, and its error lines are these.
pub record Builds (name : List ℕ) (entries : List Entry) (trees : List FileTree) (lines : List ℕ) (before after : Option TreeState) : Type 0 where
  pub made : Made
  pub are : AreMade name entries trees made
  pub has_lines : made.lines.items ≡ lines
  pub replaces : Replaces made.names made.files.items before after

-- A call failed while they did.
pub record StopsBuilding (name : List ℕ) (entries : List Entry) (trees : List FileTree) (before after : Option TreeState) : Type 0 where
  pub made : Made
  pub are : AreMade name entries trees made
  pub stops : StopsReplacing made.names made.files.items before after
