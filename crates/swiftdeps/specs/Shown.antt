-- What a writer was asked for, whatever the positions.
use Rattle.std.specs.Prelude.{◌≡◌, ℕ, List, ◌++◌, None}
use Rattle.std.specs.List.{Contains}
use Rattle.std.specs.Prelude.{IsUtf8}
use Rattle.bitstream.specs.Reading.{Seen}
use Rattle.bitstream.specs.Writer.{Writing}
use Rattle.bitstream.specs.Written.{HasWritten}
use Rattle.bitstream.specs.Items.{items_in}
use Rattle.dep_key.specs.declared.graph.FileGraph.{FileGraph}
use Rattle.swiftdeps.specs.Spelling.{seen_items, spelling}
use Rattle.swiftdeps.specs.Written.{AreNamesOf, texts_in}

-- these items were asked for, and nothing else was written
abbrev pub Shows : List Seen → Writing → Type 0
Shows seen s = (items : List (ℕ × Seen)) × HasWritten items s × (seen_items items ≡ seen)

-- from one to the other these items were asked for
abbrev pub AlsoShows : List Seen → Writing → Writing → Type 0
AlsoShows items s t = (before : List Seen) → Shows before s → Shows (before ++ items) t

-- the bytes stand for the spelling with the identifiers of the files
pub record StandsForSpelling (version : ℕ) (files : List FileGraph) (stream : List ℕ) : Type 0 where
  pub names : List (List ℕ)
  pub are_names : AreNamesOf files names
  pub items : List (ℕ × Seen)
  pub read : items_in stream ≡ (items, None)
  pub spelled : seen_items items ≡ spelling version names files

-- each text of the files is UTF-8
abbrev pub AreUtf8 : List FileGraph → Type 0
AreUtf8 files = (text : List ℕ) → Contains (texts_in files) text → IsUtf8 text
