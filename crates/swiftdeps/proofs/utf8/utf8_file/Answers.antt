use Rattle.std.proofs.Common.{List, subst}
use Rattle.std.specs.Prelude.{IsUtf8}
use Rattle.std.specs.List.{flat_map, AllByRecursion}
use Rattle.dep_key.specs.declared.graph.Node.{Node}
use Rattle.swiftdeps.specs.Written.{node_texts}
use Rattle.swiftdeps.proofs.utf8.utf8_file.Goals as goal

pub returns : goal.returns
returns c = (subst IsUtf8 c.as_str.ensures c.utf8_text.ensures, subst (λ (nodes : List Node). AllByRecursion IsUtf8 (flat_map node_texts nodes)) c.as_slice.ensures c.utf8_nodes.ensures)
