-- Which keys and nodes are in order.
use Rattle.std.specs.Prelude.{ℕ, ◌+◌, ◌<◌, List, length, map, take}
use Rattle.std.specs.List.{AllByRecursion}
use Rattle.std.specs.List.Sorted.{IsStrictlySortedBy}
use Rattle.dep_key.specs.declared.key.Key.{Key}
use Rattle.dep_key.specs.declared.graph.Node.{Node}
use Rattle.dep_key.specs.KeyOrder.{key_order}

-- Each key is below those after it.
abbrev pub AreAscending : List Key → Type 0
AreAscending keys = IsStrictlySortedBy key_order keys

abbrev pub keys_of : List Node → List Key
keys_of nodes = map (λ node. node.key) nodes

-- The keys of the nodes strictly ascend, and so do the uses of each node.
abbrev pub AreInOrder : List Node → Type 0
AreInOrder nodes = AreAscending (keys_of nodes) × AllByRecursion (λ node. AreAscending node.uses) nodes

-- The node at a place is the first that is out of order: the nodes before it are in order, and with it they are not.
abbrev pub IsFirstUnsorted : List Node → ℕ → Type 0
IsFirstUnsorted nodes at = (at < length nodes) × AreInOrder (take at nodes) × ¬ AreInOrder (take (at + 1) nodes)
