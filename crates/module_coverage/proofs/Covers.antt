-- The uses of a file's recorded nodes are those that coverage looks at.
use Rattle.std.proofs.Common.{◌≡◌, List, [], ◌∷◌, ◌++◌, map, refl, sym, ap, subst}
use Rattle.queries.specs.Queries.{Among}
use Rattle.dep_key.specs.declared.key.Key.{Key}
use Rattle.dep_key.specs.declared.graph.Node.{Node}
use Rattle.dep_key.specs.Digests.{digested_node}
use Rattle.dep_key.specs.Moved.{uses_of}
use Rattle.type_infer.specs.Meanings.{meaning_in}
use Rattle.file_nodes.proofs.NodeLemmas.{uses}
use Rattle.file_coverage.specs.Laws.{implementation}
use Rattle.module_compile.specs.Compiled.{graph_with}
use Rattle.module_coverage.specs.Laws.{UsesOfNodesCover}

-- digests change no uses
uses-kept : (nodes : List Node) → uses_of (map digested_node nodes) ≡ uses_of nodes
uses-kept [] = refl
uses-kept (node ∷ nodes) = ap (λ l. node.uses ++ l) (uses-kept nodes)

pub covered : UsesOfNodesCover
covered changed p s rest = record {
  same = rest.same;
  traced = λ f m free key w.
      rest.unmoved f m free key (subst (λ (l : List Key). Among l key) (sym (uses-kept (graph_with (meaning_in p) f).nodes)) ((uses p (implementation p) f key).1 w));
}
