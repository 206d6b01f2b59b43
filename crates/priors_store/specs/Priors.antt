-- What bytes record of a module's graph.
use Rattle.std.specs.Prelude.{◌≡◌, ℕ, ◌==◌, false, if◌then◌else◌, IsTrue, List, map}
use Rattle.dep_key.specs.declared.graph.FileGraph.{FileGraph}
use Rattle.dep_key.specs.Digests.{digested}
use Rattle.swiftdeps.specs.declared.fault.TheConstants.{DEPENDENCIES_VERSION}
use Rattle.swiftdeps.specs.Spelling.{BytesSpell}
use Rattle.swiftdeps.specs.Stages.{is_version}

-- The graph that file graphs of a version record. Those of dependency files have prints, and their digests are recorded; the others have digests already.
abbrev pub recorded : ℕ → List FileGraph → List FileGraph
recorded version files = if version == DEPENDENCIES_VERSION then map digested files else files

-- Bytes are the priors of a graph: they spell file graphs of a known version, and these record it.
pub record ArePriors (version : ℕ) (files : List FileGraph) (bytes : List ℕ) : Type 0 where
  pub is_known : IsTrue (is_version false version)
  pub spelled : List FileGraph
  pub spell : BytesSpell version spelled bytes
  pub graph : files ≡ recorded version spelled
