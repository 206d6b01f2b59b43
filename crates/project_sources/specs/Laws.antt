-- What the sources of a project come to is one thing.
use Rattle.std.specs.Prelude.{◌≡◌, ◌⊎◌, List}
use Rattle.diag_text.specs.declared.diag.Diag.{Diag}
use Rattle.drv_outside.specs.declared.types.Source.{Source}
use Rattle.frontend.specs.declared.parsed.Parsed.{Parsed}
use Rattle.swift_ast.specs.declared.declarations.FileTree.{FileTree}
use Rattle.project_sources.specs.Parsed.{AreParsed, source_paths}
use Rattle.project_sources.specs.Refusals.{IsRefused, HaveTrees}

-- Where each text has a tree or a first fault, the sources are refused or have trees.
abbrev pub SourcesComeToOne : Type 0
SourcesComeToOne = (sources : List Source) (files : List Parsed) → AreParsed sources (source_paths sources) files → ((errors : List Diag) × IsRefused sources errors) ⊎ ((trees : List FileTree) × HaveTrees sources trees)

abbrev pub RefusalIsOne : Type 0
RefusalIsOne = (sources : List Source) (one other : List Diag) → IsRefused sources one → IsRefused sources other → one ≡ other

abbrev pub TreesAreOne : Type 0
TreesAreOne = (sources : List Source) (one other : List FileTree) → HaveTrees sources one → HaveTrees sources other → one ≡ other

abbrev pub NeverBoth : Type 0
NeverBoth = (sources : List Source) (errors : List Diag) (trees : List FileTree) → IsRefused sources errors → HaveTrees sources trees → ⊥
