-- Which keys moved between the old nodes of a file and its new ones.
use Rattle.std.specs.Prelude.{◌≢◌, ◌↔◌, ℕ, Bool, true, false, not, IsTrue, List, [], ◌∷◌, ◌++◌, Option, Some, None, if◌then◌else◌, nat_eq, flat_map}
use Rattle.std.specs.Ordering.{eq_by_cmp}
use Rattle.std.specs.Cmp.Lexicographic.{pointwise}
use Rattle.dep_key.specs.declared.key.Key.{Key}
use Rattle.dep_key.specs.declared.graph.Node.{Node}
use Rattle.dep_key.specs.KeyOrder.{key_order}

-- The print of a key, where one of the nodes has the key.
abbrev pub print_of : List Node → Key → Option (List ℕ)
print_of [] key = None
print_of (node ∷ nodes) key = if eq_by_cmp key_order key node.key then Some node.print else print_of nodes key

-- The keys that the nodes use, node by node.
abbrev pub uses_of : List Node → List Key
uses_of nodes = flat_map (λ node. node.uses) nodes

-- A key moved where its print isn't what it was: also where it has one in the old nodes or in the new ones
-- alone. A file that isn't in a project has no nodes there.
abbrev pub Moved : List Node → List Node → Key → Type 0
Moved old new key = print_of old key ≢ print_of new key

abbrev pub same_print : Option (List ℕ) → Option (List ℕ) → Bool
same_print None None = true
same_print None (Some q) = false
same_print (Some p) None = false
same_print (Some p) (Some q) = pointwise nat_eq p q

-- the test for it
abbrev pub has_moved : List Node → List Node → Key → Bool
has_moved old new key = not (same_print (print_of old key) (print_of new key))

-- The test is true of the keys that moved, and of no others.
abbrev pub TestTellsMoved : Type 0
TestTellsMoved = (old new : List Node) (key : Key) → IsTrue (has_moved old new key) ↔ Moved old new key
