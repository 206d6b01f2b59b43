-- Nodes with digests in place of prints.
use Rattle.std.specs.Prelude.{ℕ, List, [], map}
use Rattle.sha2.specs.Sha256.{sha256}
use Rattle.dep_key.specs.declared.kind.Aspect.{Aspect}
use Rattle.dep_key.specs.declared.kind.Aspect.TheVariants.{Interface, Implementation}
use Rattle.dep_key.specs.declared.graph.Node.{Node}
use Rattle.dep_key.specs.declared.graph.FileGraph.{FileGraph}

-- The digest of a print is the 32 bytes of its SHA-256. What no other file sees has none.
abbrev pub digest_of : Aspect → List ℕ → List ℕ
digest_of Interface print = sha256 print
digest_of Implementation print = []

abbrev pub digested_node : Node → Node
digested_node node = record { key = node.key; print = digest_of node.key.aspect node.print; uses = node.uses }

-- A file graph with the digest of each print in its place: keys and uses stay.
abbrev pub digested : FileGraph → FileGraph
digested file = record { path = file.path; nodes = map digested_node file.nodes }
