-- The nodes of each file of valid priors are in order.
use Rattle.std.proofs.Common.{◌≡◌, Bool, true, false, cond, ℕ, List, [], ◌∷◌, map, refl, sym, ap, subst}
use Rattle.std.specs.List.{AllByRecursion}
use Rattle.dep_key.specs.declared.graph.Node.{Node}
use Rattle.dep_key.specs.declared.graph.FileGraph.{FileGraph}
use Rattle.dep_key.specs.GraphOrder.{AreInOrder, AreAscending, keys_of}
use Rattle.dep_key.specs.Digests.{digested, digested_node}
use Rattle.swiftdeps.specs.Spelling.{IsSpelledFile}
use Rattle.priors_store.specs.Priors.{ArePriors}

abbrev IsOrdered : FileGraph → Type 0
IsOrdered file = AreInOrder file.nodes

keys_stay : (nodes : List Node) → keys_of (map digested_node nodes) ≡ keys_of nodes
keys_stay [] = refl
keys_stay (node ∷ nodes) = ap (λ keys. node.key ∷ keys) (keys_stay nodes)

uses_stay : (nodes : List Node) → AllByRecursion (λ (node : Node). AreAscending node.uses) nodes → AllByRecursion (λ (node : Node). AreAscending node.uses) (map digested_node nodes)
uses_stay [] h = tt
uses_stay (node ∷ nodes) h = (h.0, uses_stay nodes h.1)

digested_ordered : (files : List FileGraph) → AllByRecursion IsOrdered files → AllByRecursion IsOrdered (map digested files)
digested_ordered [] h = tt
digested_ordered (file ∷ files) h = ((subst AreAscending (sym (keys_stay file.nodes)) h.0.0, uses_stay file.nodes h.0.1), digested_ordered files h.1)

spelled_ordered : (names : List (List ℕ)) (files : List FileGraph) → AllByRecursion (IsSpelledFile names) files → AllByRecursion IsOrdered files
spelled_ordered names [] h = tt
spelled_ordered names (file ∷ files) h = (h.0.order, spelled_ordered names files h.1)

recorded_ordered : (is_second : Bool) (files : List FileGraph) → AllByRecursion IsOrdered files → AllByRecursion IsOrdered (cond is_second (map digested files) files)
recorded_ordered true files h = digested_ordered files h
recorded_ordered false files h = h

pub priors_ordered : (version : ℕ) (files : List FileGraph) (bytes : List ℕ) → ArePriors version files bytes → AllByRecursion (λ (file : FileGraph). AreInOrder file.nodes) files
priors_ordered version files bytes h = subst (AllByRecursion IsOrdered) (sym h.graph) (recorded_ordered _ h.spelled (spelled_ordered h.spell.items.names h.spelled h.spell.items.are_files.1))
